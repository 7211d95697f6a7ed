-- The octets of names.
use Rattle.std.proofs.Common.{◌≡◌, ℕ, ℤ, ◌≤◌, ◌==◌, Bool, true, false, cond, List, [], ◌∷◌, Some, refl, subst, arith}
use Rattle.std.proofs.lemmas.Bool.{and_parts}
use Rattle.std.proofs.lemmas.Bool.Decides.{nat_tests}
use Rattle.std.proofs.lemmas.Option.{none-some, same_Some}
use Rattle.std.specs.List.{AllByRecursion, find, list_all}
use Rattle.std.specs.Option.{option_map}
use Rattle.std.specs.Ordering.{int_eq}
use Rattle.krb_registry.specs.declared.registry.Registry.{Registry}
use Rattle.krb_registry.specs.declared.registry.Registry.TheVariants as registries
use Rattle.krb_registry.specs.Laws.{is_plain, NamesArePlain}
use Rattle.krb_registry.specs.Rows.{name_in, name_of, rows}

-- a test that the name of each row passes is passed by the name that is found
found_passes : (p : List ℕ → Bool) (listed : List (ℤ × List ℕ)) (number : ℤ) (name : List ℕ) → list_all (λ row. p row.1) listed ≡ true → name_in listed number ≡ Some name → p name ≡ true
unfolding name_in
found_passes p [] number name all found = absurd (none-some name found)
found_passes p (row ∷ others) number name all found =
    let passes = and_parts (p row.1) (list_all (λ row. p row.1) others) all in
    elim (int_eq row.0 number) as (λ same. option_map (λ (row : ℤ × List ℕ). row.1) (cond same (Some row) (find (λ row. int_eq row.0 number) others)) ≡ Some name → p name ≡ true) [
      | true ↦ λ found. subst (λ name. p name ≡ true) (same_Some row.1 name found) passes.0
      | false ↦ λ found. found_passes p others number name passes.1 found
    ] found

-- the names of each registry are plain
pub all_plain : (registry : Registry) → list_all (λ row. list_all is_plain row.1) (rows registry) ≡ true
unfolding rows
all_plain registries.EncryptionTypes = refl
all_plain registries.ChecksumTypes = refl
all_plain registries.PreAuthenticationData = refl
all_plain registries.ErrorCodes = refl
all_plain registries.ErrorDataTypes = refl
all_plain registries.Statuses = refl
all_plain registries.KdcOptions = refl
all_plain registries.ApOptions = refl
all_plain registries.PacOptions = refl
all_plain registries.ContextFlags = refl
all_plain registries.TicketFlags = refl
all_plain registries.NameTypes = refl
all_plain registries.AddressTypes = refl
all_plain registries.Notes = refl

pub name_is_plain : NamesArePlain
unfolding name_of
name_is_plain registry number name found = found_passes (list_all is_plain) (rows registry) number name (all_plain registry) found

-- a plain octet is a graphic character of ASCII, and neither `"` nor `\`
pub record PlainOctet (octet : ℕ) : Type 0 where
  pub least : 0x21 ≤ octet
  pub greatest : octet ≤ 0x7E
  pub no_quotation_mark : (octet == 0x22) ≡ false
  pub no_backslash : (octet == 0x5C) ≡ false

pub plain_octet : (octet : ℕ) → is_plain octet ≡ true → PlainOctet octet
plain_octet octet plain = record {
  least = grind (arith, nat_tests);
  greatest = grind (arith, nat_tests);
  no_quotation_mark = grind (arith, nat_tests);
  no_backslash = grind (arith, nat_tests);
}

-- what holds of each plain octet holds of each octet of a name
pub each_octet : (P : ℕ → Type 0) → ((octet : ℕ) → is_plain octet ≡ true → P octet) → (name : List ℕ) → list_all is_plain name ≡ true → AllByRecursion P name
each_octet P holds [] plain = tt
each_octet P holds (octet ∷ name) plain =
    let parts = and_parts (is_plain octet) (list_all is_plain name) plain in
    (holds octet parts.0, each_octet P holds name parts.1)

-- each octet of a name is a plain octet
pub name_octets : (registry : Registry) (number : ℤ) (name : List ℕ) → name_of registry number ≡ Some name → AllByRecursion PlainOctet name
name_octets registry number name found = each_octet PlainOctet plain_octet name (name_is_plain registry number name found)
