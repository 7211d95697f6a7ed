-- Octets in rows of so many.
use Rattle.std.proofs.Common.{ℕ, zero, suc, ◌+◌, ◌≡◌, ◌<◌, ◌≤◌, Bool, true, false, List, [], ◌∷◌, ◌++◌, length, take, drop, refl, ap, ◌∙◌, arith, length-take, length-drop, take-append-drop}
use Rattle.std.specs.List.{flat_map}
use Rattle.krb_der.specs.Octets.{AreOctets}
use Rattle.krb_der.specs.inner.Numbers.{AreOctets-drop, AreOctets-take}
use Rattle.krb_laws.specs.Written.{IsGroup, rows_of}

-- the octets of all rows
abbrev pub all_of : List (List ℕ) → List ℕ
all_of rows = flat_map (λ row. row) rows

pub all_of_rows : (fuel size : ℕ) (octets : List ℕ) → 0 < size → length octets ≤ fuel → all_of (rows_of fuel size octets) ≡ octets
all_of_rows fuel size [] some enough = refl
all_of_rows zero size (octet ∷ octets) some enough = absurd (omega arith)
all_of_rows (suc fuel) size (octet ∷ octets) some enough =
    ap (λ others. take size (octet ∷ octets) ++ others) (all_of_rows fuel size (drop size (octet ∷ octets)) some (omega (arith, length-drop size (octet ∷ octets))))
    ∙ take-append-drop size (octet ∷ octets)

-- ---- lines
-- rows of octets, none of which is empty, and of which each begins below a limit
abbrev pub AreRows : (limit count : ℕ) → List (List ℕ) → Type 0
AreRows limit count [] = count < limit
AreRows limit count (octets ∷ others) = AreOctets octets × (0 < length octets) × (count < limit) × AreRows limit (count + length octets) others

pub rows_are : (limit fuel size count : ℕ) (octets : List ℕ) → 0 < size → AreOctets octets → count + length octets < limit → AreRows limit count (rows_of fuel size octets)
rows_are limit fuel size count [] some are few = omega arith
rows_are limit zero size count (octet ∷ octets) some are few = omega arith
rows_are limit (suc fuel) size count (octet ∷ octets) some are few =
    let first = length-take size (octet ∷ octets) in
    let rest = length-drop size (octet ∷ octets) in (
      AreOctets-take size (octet ∷ octets) are,
      omega (arith, first),
      omega arith,
      rows_are limit fuel size (count + length (take size (octet ∷ octets))) (drop size (octet ∷ octets)) some (AreOctets-drop size (octet ∷ octets) are) (omega (arith, first, rest)),
    )

-- ---- groups
abbrev pub AreGroups : Bool → List (List ℕ) → Type 0
AreGroups has_colon [] = Unit {0}
AreGroups has_colon (octets ∷ others) = AreOctets octets × IsGroup has_colon (length octets) × AreGroups has_colon others

pub group_some : (has_colon : Bool) (group : ℕ) → IsGroup has_colon group → 0 < group
group_some true group is = is.0
group_some false group is = omega arith

first_group_is : (has_colon : Bool) (group octet : ℕ) (octets : List ℕ) → IsGroup has_colon group → IsGroup has_colon (length (take group (octet ∷ octets)))
first_group_is true group octet octets is = let first = length-take group (octet ∷ octets) in (omega (arith, first, is.0), omega (arith, first, is.1))
first_group_is false group octet octets is = let first = length-take group (octet ∷ octets) in omega (arith, first)

pub groups_are : (has_colon : Bool) (fuel group : ℕ) (octets : List ℕ) → IsGroup has_colon group → AreOctets octets → AreGroups has_colon (rows_of fuel group octets)
groups_are has_colon fuel group [] is are = tt
groups_are has_colon zero group (octet ∷ octets) is are = tt
groups_are has_colon (suc fuel) group (octet ∷ octets) is are = (
  AreOctets-take group (octet ∷ octets) are,
  first_group_is has_colon group octet octets is,
  groups_are has_colon fuel group (drop group (octet ∷ octets)) is (AreOctets-drop group (octet ∷ octets) are),
)
