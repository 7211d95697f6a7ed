-- Twice the marks is at most the octets.
use Rattle.std.proofs.Common.{◌≡◌, ℕ, pos, ◌*◌, ◌<◌, ◌≤◌, List, [], ◌∷◌, length, take, arith}
use Rattle.std.proofs.lemmas.List.{length-append, length-take}
use Rattle.krb_der.specs.declared.profile.Profile.{Profile}
use Rattle.krb_msg.specs.Grammar.{messages}
use Rattle.krb_scan.specs.Scan as scan
use Rattle.krb_scan.specs.Scan.{Mark as Marked, Tip, Answer, Ongoing, Refusing, Whole, mark_of, marks_at, scanned_at as taken_at_tip}
use Rattle.krb_scan.specs.Laws.{MarksAreFew}
use Rattle.krb_scan.specs.Scanned.{marks_from, marks_before}
use Rattle.krb_scan.proofs.Faults.{Placed, IsMarked, scan_placed}

few_before : (count : ℕ) (given : Answer) → Placed count given → 2 * length (marks_before given) ≤ count
few_before count (Ongoing state) h = by_tip state.tip state.marks h.0 h.1
  where
    by_tip : (given : Tip) (marks : List Marked) → taken_at_tip given ≡ count → IsMarked given marks → 2 * length (marks_at given marks) ≤ count
    by_tip (scan.Between place) marks e k = omega (arith, k)
    by_tip (scan.InHead term from octets) marks e k = omega (arith, k.0)
    by_tip (scan.InLeaf term start size octets) marks e k = omega (arith, k, length-append marks (mark_of term start size (pos 0) ∷ []))
few_before count other h = omega arith

few_from : (profile : Profile) (n : ℕ) (octets : List ℕ) (given : Answer) → 0 < n → Placed (length octets) given → 2 * length (marks_from given (λ place. scan.scan (messages profile) n (take place octets))) ≤ length octets
few_from profile n octets (Ongoing state) some h = few_before (length octets) (Ongoing state) h
few_from profile n octets (Refusing place reason) some h =
    let few : 2 * length (marks_before (scan.scan (messages profile) n (take place octets))) ≤ length (take place octets) = few_before (length (take place octets)) (scan.scan (messages profile) n (take place octets)) (scan_placed (messages profile) n (take place octets) some) in
    omega (arith, few, length-take place octets)
few_from profile n octets (Whole marks) some h = h

-- twice the marks is at most the octets
pub marks_are_few : MarksAreFew
marks_are_few profile n octets some = few_from profile n octets (scan.scan (messages profile) n octets) some (scan_placed (messages profile) n octets some)
