-- Laws of the registries.
use Rattle.std.specs.Prelude.{ℕ, ℤ, ◌≡◌, Bool, not, ◌&&◌, ◌||◌, ◌==◌, nat_le, IsTrue, List, map, Some}
use Rattle.std.specs.List.{list_all}
use Rattle.std.specs.List.Sorted.{IsStrictlySortedBy}
use Rattle.std.specs.Ordering.{int_cmp}
use Rattle.krb_registry.specs.declared.registry.Registry.{Registry}
use Rattle.krb_registry.specs.Rows.{name_of, rows}

-- 21 to 7E but `"`, `+`, `,`, `:`, `=`, `[`, `\` and `]`
abbrev pub is_plain : ℕ → Bool
is_plain octet = nat_le 0x21 octet && nat_le octet 0x7E && not (octet == 0x22 || octet == 0x2B || octet == 0x2C || octet == 0x3A || octet == 0x3D || octet == 0x5B || octet == 0x5C || octet == 0x5D)

-- every name is of such octets
abbrev pub NamesArePlain : Type 0
NamesArePlain = (registry : Registry) (number : ℤ) (name : List ℕ) → name_of registry number ≡ Some name → IsTrue (list_all is_plain name)

-- the rows of each registry are in order of number, no number twice
abbrev pub RowsAreInOrder : Type 0
RowsAreInOrder = (registry : Registry) → IsStrictlySortedBy int_cmp (map (λ row. row.0) (rows registry))
