-- What a search by halving finds among rows in order.
use Rattle.std.proofs.Common.{◌≡◌, ℕ, zero, suc, ℤ, ◌+◌, ◌<◌, false, cond, Less, Equal, List, [], ◌∷◌, map, length, get_or, Option, Some, None, Err, refl, sym, ap, subst, ◌∙◌, arith}
use Rattle.std.proofs.lemmas.Cmp.{alike_right, int_cmp_total}
use Rattle.std.proofs.lemmas.List.{get_or-map, length-map}
use Rattle.std.proofs.lemmas.List.Elements.{All-from_recursion}
use Rattle.std.proofs.lemmas.List.Sorted.{searchable_from_sorted}
use Rattle.std.specs.List.{AllWithin, HoldsAt, find}
use Rattle.std.specs.List.Sorted.{IsBinarySearchResult, IsSortedBy, IsStrictlySortedBy}
use Rattle.std.specs.Ordering.{int_cmp, int_eq, is_eq, is_lt, ordering_reverse}
use Rattle.krb_registry.specs.declared.row.Row.{Row}
use Rattle.krb_registry.proofs.Orders.{AreInOrder}

-- the first row has a lower number than each later one
first_below : (row : Row) (rows : List Row) (k : ℕ) (d : Row) → AreInOrder (row ∷ rows) → k < length rows → int_cmp row.number (get_or rows k d).number ≡ Less
unfolding IsStrictlySortedBy
first_below row rows k d in_order inside =
    subst (λ number. int_cmp row.number number ≡ Less) (get_or-map (λ (row : Row). row.number) rows k d d.number inside)
    (All-from_recursion (λ number. int_cmp row.number number ≡ Less) (map (λ row. row.number) rows) in_order.0 k d.number (omega (arith, length-map rows (λ (row : Row). row.number))))

-- no row has a lower number than the one before it
never_falls : (rows : List Row) → AreInOrder rows → IsSortedBy (λ row other. is_lt (int_cmp row.number other.number)) rows
unfolding IsStrictlySortedBy
never_falls [] in_order k d least inside = absurd (omega arith)
never_falls (row ∷ rows) in_order zero d least inside =
    ap is_lt (int_cmp_total.antisymm (get_or rows 0 d).number row.number ∙ ap ordering_reverse (first_below row rows 0 d in_order (omega arith)))
never_falls (row ∷ rows) in_order (suc k) d least inside =
    let next : suc k + 1 ≡ suc (k + 1) = omega arith in
    rw next (never_falls rows in_order.1 k d (omega arith) (omega arith))

module _ (number : ℤ) where
  -- the first row that has the number
  abbrev first_with : List Row → Option Row
  first_with rows = find (λ row. int_eq row.number number) rows

  -- a row that has the number is the first that has it
  pub found : (rows : List Row) (k : ℕ) (d : Row) → AreInOrder rows → k < length rows → HoldsAt (λ row. int_cmp row.number number ≡ Equal) rows k → Some (get_or rows k d) ≡ first_with rows
  unfolding IsStrictlySortedBy
  found [] k d in_order inside equal = absurd (omega arith)
  found (row ∷ rows) zero d in_order inside equal = ap (λ answer. cond (is_eq answer) (Some row) (first_with rows)) (sym (equal d))
  found (row ∷ rows) (suc k) d in_order inside equal =
      let below = sym (alike_right int_cmp_total (get_or rows k d).number number row.number (equal d)) ∙ first_below row rows k d in_order (omega arith) in
      found rows k d in_order.1 (omega arith) equal ∙ ap (λ answer. cond (is_eq answer) (Some row) (first_with rows)) (sym below)

  -- where no row has the number, none is found
  not_found : (rows : List Row) → AllWithin (λ row. int_eq row.number number ≡ false) rows 0 (length rows) → None ≡ first_with rows
  not_found [] none = refl
  not_found (row ∷ rows) none =
      not_found rows (λ k d least inside. none (suc k) d (omega arith) (omega arith)) ∙ ap (λ has. cond has (Some row) (first_with rows)) (sym (none 0 row (omega arith) (omega arith)))

  -- where a search by number ends without a row, no row has the number
  pub not_there : (rows : List Row) (at : ℕ) → AreInOrder rows → IsBinarySearchResult (λ row. int_cmp row.number number) rows (Err at) → None ≡ first_with rows
  not_there rows at in_order parts =
      let parted = parts (searchable_from_sorted int_cmp_total (λ (row : Row). row.number) rows number (never_falls rows in_order)) in
      not_found rows (λ k d least inside. grind (arith, parted.0 k d, parted.1 k d))
