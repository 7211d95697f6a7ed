-- A BIT STRING, member by member.
use Rattle.std.proofs.Common.{◌≡◌, ℕ, ℤ, pos, ◌-◌, ◌*◌, List, [], ◌∷◌, ◌++◌, length, append_assoc, Option, Result, Ok, Err, sym, ◌∙◌, ap, subst}
use Rattle.std.specs.Prelude.{◌≤ℤ◌, codes}
use Rattle.json.specs.Json.{Json, Members}
use Rattle.json.specs.Json as json
use Rattle.json.specs.Find.{get, get_member}
use Rattle.krb_judge.specs.Paths.{field_path}
use Rattle.krb_json.specs.declared.members.Allowed.TheVariants as allowed
use Rattle.krb_json.specs.declared.value_fault.ValueFault.{ValueFault}
use Rattle.krb_json.specs.declared.value_fault.ValueFault.TheVariants.{At, Memory}
use Rattle.krb_json.specs.declared.wrong.Wrong.TheVariants.{Missing}
use Rattle.krb_json.specs.Faults.{Fault, ◌>>=◌}
use Rattle.krb_json.specs.Spelled.{bits_from, bits_spelled, checked_members, count_of, integer_spelled, members_spelled, octets_spelled, or_fault}
use Rattle.krb_json.specs.inner.Reading.{IsRead, Reads, is_allowed}
use Rattle.krb_json.specs.inner.Scalars.{Gives, member_spelled}
use Rattle.krb_json.proofs.Fit.{steps, integer-fits}

-- ---- the members
-- they are checked
abbrev pub AreChecked : Json → Type 0
AreChecked j = IsRead {A = Members} (λ path. members_spelled (is_allowed allowed.Bits) path j) (λ members. []) [] []

kept : (r : Result (Unit {0}) Fault) (given members : Members) → (r >>= λ done. Ok given) ≡ Ok members → given ≡ members
kept (Ok done) given ms e = cc e
kept (Err found) given ms e = cc e

found-in : (j : Json) (members : Members) → members_spelled (is_allowed allowed.Bits) [] j ≡ Ok members → (name : List ℕ) → get_member name members ≡ get name j
found-in (json.object given) ms e name = ap (get_member name) (sym (kept (checked_members (is_allowed allowed.Bits) [] [] given) given ms e))
found-in other ms e name = cc e

-- ---- what they spell
abbrev pub SpellsOctets : Json → List ℕ → Type 0
SpellsOctets j octets = (path : List ℕ) → member_spelled octets_spelled (codes "value") j path ≡ Ok octets

abbrev pub SpellsCount : (low high : ℤ) → Json → ℤ → Type 0
SpellsCount low high j count = (path : List ℕ) → member_spelled (integer_spelled low high) (codes "length") j path ≡ Ok count

abbrev after_octets : (least : ℕ) → (path : List ℕ) → (octets : List ℕ) → (count : Option Json) → Result (ℕ × List ℕ) Fault
after_octets least path octets count =
    (or_fault (field_path path (codes "length")) Missing count >>= integer_spelled (pos (8 * length octets - 7)) (pos (8 * length octets)) (field_path path (codes "length")))
    >>= λ number. bits_from least path octets (count_of number)

abbrev after_members : (least : ℕ) → (path : List ℕ) → Members → (octets : Option Json) → Result (ℕ × List ℕ) Fault
after_members least path members octets =
    (or_fault (field_path path (codes "value")) Missing octets >>= octets_spelled (field_path path (codes "value")))
    >>= λ given. after_octets least path given (get_member (codes "length") members)

from-octets : (least : ℕ) (j : Json) (octets : List ℕ) → AreChecked j → SpellsOctets j octets → (path : List ℕ) → bits_spelled least path j ≡ after_octets least path octets (get (codes "length") j)
from-octets least j octets checked spells path =
    ap (λ r. r >>= λ members. after_members least path members (get_member (codes "value") members)) (checked.spelled path)
    ∙ ap (after_members least path checked.value) (found-in j checked.value (checked.spelled []) (codes "value"))
    ∙ ap (λ r. r >>= λ given. after_octets least path given (get_member (codes "length") checked.value)) (spells path)
    ∙ ap (after_octets least path octets) (found-in j checked.value (checked.spelled []) (codes "length"))

from-count : (least : ℕ) (j : Json) (octets : List ℕ) (count : ℤ) → AreChecked j → SpellsOctets j octets → SpellsCount (pos (8 * length octets - 7)) (pos (8 * length octets)) j count → (path : List ℕ) → bits_spelled least path j ≡ bits_from least path octets (count_of count)
from-count least j octets count checked spells counts path =
    from-octets least j octets checked spells path ∙ ap (λ r. r >>= λ number. bits_from least path octets (count_of number)) (counts path)

-- ---- what is returned
-- a fault of the length
pub count-fault : (least : ℕ) (j : Json) (octets : List ℕ) (low high : ℤ) (old new : List ℕ) (found : ValueFault) → AreChecked j → SpellsOctets j octets → low ≡ pos (8 * length octets - 7) → high ≡ pos (8 * length octets) → Gives (λ (n : ℤ). n) (member_spelled (integer_spelled low high) (codes "length") j) (Err found)
    → Reads (λ path. bits_spelled least path j) (λ bits. bits.0 ∷ bits.1) old new (Err found)
count-fault least j octets low high old new Memory checked spells from to given = tt
count-fault least j octets low high old new (At found) checked spells from to given = λ path.
    from-octets least j octets checked spells path
    ∙ ap (λ r. r >>= λ number. bits_from least path octets (count_of number))
    (ap (λ l. member_spelled (integer_spelled l (pos (8 * length octets))) (codes "length") j path) (sym from)
    ∙ ap (λ h. member_spelled (integer_spelled low h) (codes "length") j path) (sym to)
    ∙ given path)

same-count : (low high l h : ℤ) (j : Json) (count : ℤ) → low ≡ l → high ≡ h → SpellsCount low high j count → SpellsCount l h j count
same-count low high l h j count from to counts = subst (λ x. SpellsCount x h j count) from (subst (λ y. SpellsCount low y j count) to counts)

-- the range of the length
pub count-range : (low high : ℤ) (j : Json) (count : ℤ) → SpellsCount low high j count → (low ≤ℤ count) × (count ≤ℤ high)
count-range low high j count counts =
    let s = steps (or_fault (field_path [] (codes "length")) Missing (get (codes "length") j)) (integer_spelled low high (field_path [] (codes "length"))) count (counts []) in
    integer-fits low high (field_path [] (codes "length")) s.value count s.then

-- a fault of the unused bits
pub unused-fault : (least : ℕ) (j : Json) (octets : List ℕ) (low high count : ℤ) (old new : List ℕ) (found : ValueFault) → AreChecked j → SpellsOctets j octets → low ≡ pos (8 * length octets - 7) → high ≡ pos (8 * length octets) → SpellsCount low high j count → Gives (λ (unused : ℕ). (unused, octets)) (λ path. bits_from least path octets (count_of count)) (Err found)
    → Reads (λ path. bits_spelled least path j) (λ bits. bits.0 ∷ bits.1) old new (Err found)
unused-fault least j octets low high count old new Memory checked spells from to counts given = tt
unused-fault least j octets low high count old new (At found) checked spells from to counts given = λ path.
    from-count least j octets count checked spells (same-count low high _ _ j count from to counts) path ∙ given path

-- a BIT STRING
pub bits-read : (least : ℕ) (j : Json) (octets : List ℕ) (low high count : ℤ) (unused : ℕ) (old with_unused new : List ℕ) → AreChecked j → SpellsOctets j octets → low ≡ pos (8 * length octets - 7) → high ≡ pos (8 * length octets) → SpellsCount low high j count → ((path : List ℕ) → bits_from least path octets (count_of count) ≡ Ok (unused, octets))
    → with_unused ≡ old ++ unused ∷ [] → new ≡ with_unused ++ octets → IsRead (λ path. bits_spelled least path j) (λ bits. bits.0 ∷ bits.1) old new
bits-read least j octets low high count unused old with_unused new checked spells from to counts given first all = record {
  value = (unused, octets);
  spelled = λ path. from-count least j octets count checked spells (same-count low high _ _ j count from to counts) path ∙ given path;
  octets = all ∙ ap (λ l. l ++ octets) first ∙ append_assoc old (unused ∷ []) octets;
}
