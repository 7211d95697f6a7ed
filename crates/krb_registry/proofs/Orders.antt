-- The order of rows.
use Rattle.std.proofs.Common.{◌≡◌, ℤ, Ordering, Less, Equal, Greater, Bool, true, ◌&&◌, List, [], ◌∷◌, map, refl, sym, ap, subst, ◌∙◌}
use Rattle.std.proofs.lemmas.Bool.{and_parts}
use Rattle.std.specs.List.{AllByRecursion, list_all}
use Rattle.std.specs.List.Sorted.{IsStrictlySortedBy}
use Rattle.std.specs.Ordering.{is_lt, int_cmp}
use Rattle.krb_registry.specs.declared.registry.Registry.{Registry}
use Rattle.krb_registry.specs.declared.registry.Registry.TheVariants as registries
use Rattle.krb_registry.specs.declared.row.Row.{Row}
use Rattle.krb_registry.specs.Laws.{RowsAreInOrder}
use Rattle.krb_registry.specs.Rows.{number_and_name, rows}

-- a test of order, which computes
abbrev is_sorted : List ℤ → Bool
is_sorted [] = true
is_sorted (number ∷ others) = list_all (λ other. is_lt (int_cmp number other)) others && is_sorted others

less : (order : Ordering) → is_lt order ≡ true → order ≡ Less
less Less test = refl
less other test = cc

below : (number : ℤ) (others : List ℤ) → list_all (λ other. is_lt (int_cmp number other)) others ≡ true → AllByRecursion (λ other. int_cmp number other ≡ Less) others
below number [] test = tt
below number (other ∷ others) test =
    let parts = and_parts (is_lt (int_cmp number other)) (list_all (λ other. is_lt (int_cmp number other)) others) test in
    (less (int_cmp number other) parts.0, below number others parts.1)

sorted : (numbers : List ℤ) → is_sorted numbers ≡ true → IsStrictlySortedBy int_cmp numbers
unfolding IsStrictlySortedBy
sorted [] test = tt
sorted (number ∷ others) test =
    let parts = and_parts (list_all (λ other. is_lt (int_cmp number other)) others) (is_sorted others) test in
    (below number others parts.0, sorted others parts.1)

all_sorted : (registry : Registry) → is_sorted (map (λ row. row.0) (rows registry)) ≡ true
unfolding rows
all_sorted registries.EncryptionTypes = refl
all_sorted registries.ChecksumTypes = refl
all_sorted registries.PreAuthenticationData = refl
all_sorted registries.ErrorCodes = refl
all_sorted registries.ErrorDataTypes = refl
all_sorted registries.Statuses = refl
all_sorted registries.KdcOptions = refl
all_sorted registries.ApOptions = refl
all_sorted registries.PacOptions = refl
all_sorted registries.ContextFlags = refl
all_sorted registries.TicketFlags = refl
all_sorted registries.NameTypes = refl
all_sorted registries.AddressTypes = refl
all_sorted registries.Notes = refl

pub in_order : RowsAreInOrder
in_order registry = sorted (map (λ row. row.0) (rows registry)) (all_sorted registry)

-- rows in order of number, no number twice
abbrev pub AreInOrder : List Row → Type 0
AreInOrder rows = IsStrictlySortedBy int_cmp (map (λ row. row.number) rows)

numbers : (rows : List Row) → map (λ row. row.0) (map number_and_name rows) ≡ map (λ row. row.number) rows
numbers [] = refl
numbers (row ∷ rows) = ap (λ others. row.number ∷ others) (numbers rows)

-- the rows of a registry are in order
pub listed_in_order : (registry : Registry) (listed : List Row) → map number_and_name listed ≡ rows registry → AreInOrder listed
listed_in_order registry listed same = subst (IsStrictlySortedBy int_cmp) (ap (map (λ row. row.0)) (sym same) ∙ numbers listed) (in_order registry)
