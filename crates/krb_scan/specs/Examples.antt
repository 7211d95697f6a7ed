-- The worked examples, computed by the definitions.
use Rattle.std.specs.Prelude.{ℕ, pos, ◌≡◌, List, [], ◌∷◌, length, take, codes, refl}
use Rattle.krb_der.specs.Hex.{hex}
use Rattle.krb_der.specs.declared.profile.Profile.TheVariants.{Lenient}
use Rattle.krb_msg.specs.Term.{Tagged}
use Rattle.krb_msg.specs.Grammar.{wide32, ap_rep, messages}
use Rattle.krb_msg.specs.ValueOfDer.{value_of_der}
use Rattle.krb_scan.specs.Scan.{Answer, Ongoing, Refusing, Whole, mark_of, scan, marks_of, open_lengths, scanned}
use Rattle.krb_scan.specs.ValueMarks.{value_marks}

abbrev ap_rep_octets : List ℕ
ap_rep_octets = hex (codes "6F1D301B A003020105 A10302010F A20F300D A003020112 A2060404DEADBEEF")

abbrev tgs_req_octets : List ℕ
tgs_req_octets = hex (codes "6C6B3069 A103020105 A20302010C A45D305B A00703050000000000 A2031B0141 A511180F31393730303130313030303030305A A703020101 A8023000 AB2F302D 612B3029A003020105A1031B0141A20E300CA003020102A10530031B0168A30D300BA003020112A2040402BEEF")

-- how many marks there are, how many lengths are open and how many octets were scanned
abbrev shown : Answer → ℕ × ℕ × ℕ
shown (Ongoing state) = (length (marks_of state), open_lengths state, scanned state)
shown (Refusing place reason) = (0, 0, place)
shown (Whole marks) = (length marks, 0, 0)

ap_rep_marks : shown (scan (messages Lenient) 31 ap_rep_octets) ≡ (12, 0, 0)
ap_rep_marks = refl

ap_rep_none : shown (scan (messages Lenient) 31 (take 0 ap_rep_octets)) ≡ (0, 0, 0)
ap_rep_none = refl

tgs_req_deepest : shown (scan (messages Lenient) 109 (take 93 tgs_req_octets)) ≡ (33, 13, 93)
tgs_req_deepest = refl

tgs_req_after : shown (scan (messages Lenient) 109 (take 94 tgs_req_octets)) ≡ (33, 8, 94)
tgs_req_after = refl

-- a field of five octets, A1 03 02 01 07, the first of them at 20: its contents are the INTEGER
kvno_marks : value_marks (Tagged 1 wide32) 20 (pos 7) ≡ mark_of (Tagged 1 wide32) 22 3 (pos 0) ∷ mark_of wide32 24 1 (pos 7) ∷ []
kvno_marks = refl

ap_rep_value_marks : scan (messages Lenient) 31 ap_rep_octets ≡ Whole (value_marks ap_rep 0 (value_of_der ap_rep ap_rep_octets))
ap_rep_value_marks = refl
