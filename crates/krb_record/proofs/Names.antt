-- The names of numbers need no escape in a string of JSON.
use Rattle.std.proofs.Common.{◌≡◌, ℕ, ℤ, true, List, [], ◌∷◌, Some, refl}
use Rattle.std.proofs.lemmas.Bool.{and_parts}
use Rattle.std.specs.List.{flat_map, list_all}
use Rattle.krb_registry.specs.declared.registry.Registry.{Registry}
use Rattle.krb_registry.specs.Laws.{is_plain}
use Rattle.krb_registry.specs.Rows.{name_of}
use Rattle.krb_registry.proofs.Names.{name_is_plain, plain_octet}
use Rattle.krb_record.specs.Forms.{json_character}

pub plain_in_json : (name : List ℕ) → list_all is_plain name ≡ true → flat_map json_character name ≡ name
plain_in_json [] e = refl
plain_in_json (octet ∷ name) e =
    let h = and_parts (is_plain octet) (list_all is_plain name) e in
    let plain = plain_octet octet h.0 in
    rw (plain.no_quotation_mark, plain.no_backslash, plain_in_json name h.1) refl

pub name_in_json : (registry : Registry) (number : ℤ) (name : List ℕ) → name_of registry number ≡ Some name → flat_map json_character name ≡ name
name_in_json registry number name found = plain_in_json name (name_is_plain registry number name found)
