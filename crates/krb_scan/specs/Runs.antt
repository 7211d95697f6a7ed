-- How many octets of an open string are to come.
use Rattle.std.specs.Prelude.{ℕ, ◌-◌, Bool, true, false, nat_le, if◌then◌else◌, List, length}
use Rattle.krb_msg.specs.Term.{Term, Text, Octets}
use Rattle.krb_scan.specs.Scan.{Tip, InLeaf, Answer, Ongoing, scan}

-- an OCTET STRING, or a GeneralString that may have any octets
abbrev pub is_string : Term → Bool
is_string (Text greatest) = nat_le 255 greatest
is_string Octets = true
is_string other = false

abbrev pub left_at : Tip → ℕ
left_at (InLeaf term start count octets) = if is_string term then count - 1 - length octets else 0
left_at other = 0

abbrev pub left_of : Answer → ℕ
left_of (Ongoing state) = left_at state.tip
left_of other = 0

-- how many octets of an open string are to come, but for its last one
abbrev pub string_left : List Term → ℕ → List ℕ → ℕ
string_left terms n octets = left_of (scan terms n octets)
