-- The names of the fields of each type, compared by computing.
use Rattle.std.proofs.Common.{◌≡◌, ℕ, ◌<◌, Bool, true, false, ◌&&◌, not, nat_lt, List, [], ◌∷◌, length, map, refl, arith}
use Rattle.std.proofs.lemmas.Bool.{and_parts, not-true}
use Rattle.std.proofs.lemmas.Bool.Decides.{nat_tests}
use Rattle.std.specs.List.{list_all, AllByRecursion, IsDistinct}
use Rattle.std.specs.Str.{bytes_eq}
use Rattle.krb_judge.specs.FieldNames.{Named}
use Rattle.krb_judge.specs.Laws.{HaveOwnNames, NamesAreOwn}
use Rattle.krb_judge.specs.declared.locating.names.Names.TheVariants as names

abbrev is_some : Named → Bool
is_some field = nat_lt 0 (length field.name)

abbrev are_distinct : List (List ℕ) → Bool
are_distinct [] = true
are_distinct (name ∷ others) = list_all (λ other. not (bytes_eq name other)) others && are_distinct others

all-some : (fields : List Named) → list_all is_some fields ≡ true → AllByRecursion (λ field. 0 < length field.name) fields
all-some [] e = tt
all-some (field ∷ fields) e = let p = and_parts (is_some field) (list_all is_some fields) e in (grind (arith, nat_tests, p.0), all-some fields p.1)

all-apart : (name : List ℕ) (others : List (List ℕ)) → list_all (λ other. not (bytes_eq name other)) others ≡ true → AllByRecursion (λ other. bytes_eq name other ≡ false) others
all-apart name [] e = tt
all-apart name (other ∷ others) e =
    let p = and_parts (not (bytes_eq name other)) (list_all (λ o. not (bytes_eq name o)) others) e in
    (not-true (bytes_eq name other) p.0, all-apart name others p.1)

all-distinct : (found : List (List ℕ)) → are_distinct found ≡ true → IsDistinct bytes_eq found
unfolding IsDistinct
all-distinct [] e = tt
all-distinct (name ∷ others) e =
    let p = and_parts (list_all (λ other. not (bytes_eq name other)) others) (are_distinct others) e in
    (all-apart name others p.0, all-distinct others p.1)

own : (fields : List Named) → (list_all is_some fields && are_distinct (map (λ field. field.name) fields)) ≡ true → HaveOwnNames fields
own fields e =
    let p = and_parts (list_all is_some fields) (are_distinct (map (λ field. field.name) fields)) e in
    record { some = all-some fields p.0; distinct = all-distinct (map (λ field. field.name) fields) p.1 }

pub names_are_own : NamesAreOwn
names_are_own names.Basic = own _ refl
names_are_own other = own _ refl
