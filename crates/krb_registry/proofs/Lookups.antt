-- The row that is found in the rows of a registry.
use Rattle.std.proofs.Common.{◌≡◌, ℕ, ℤ, cond, true, false, Bor, List, [], ◌∷◌, map, refl, ap, sym, ◌∙◌, Option, Some}
use Rattle.std.specs.List.{find}
use Rattle.std.specs.Option.{option_copied, option_map}
use Rattle.std.specs.Ordering.{int_eq}
use Rattle.krb_registry.specs.declared.row.Row.{Row}
use Rattle.krb_registry.specs.Rows.{name_in, number_and_name}

-- the name in rows, from their numbers and names, is that of the row that is found
name_in-rows : (rows : List Row) (number : ℤ) → name_in (map number_and_name rows) number ≡ option_map (λ row. row.name.now) (find (λ row. int_eq row.number number) rows)
unfolding name_in
name_in-rows [] number = refl
name_in-rows (row ∷ rows) number =
    elim (int_eq row.number number) as (λ same. option_map (λ row. row.1) (cond same (Some (number_and_name row)) (find (λ row. int_eq row.0 number) (map number_and_name rows))) ≡ option_map (λ row. row.name.now) (cond same (Some row) (find (λ row. int_eq row.number number) rows))) [
      | true ↦ refl
      | false ↦ name_in-rows rows number
    ]

-- the name of the row that is found is the name of the number
pub name_found : {listed : List (ℤ × List ℕ)} {result found : Option (Bor Row)} (rows : List Row) (number : ℤ) → result ≡ found → map number_and_name rows ≡ listed → option_copied result ≡ find (λ row. int_eq row.number number) rows → option_map (λ row. row.name.now) (option_copied found) ≡ name_in listed number
name_found {listed} rows number same rows-listed is =
    ap (λ row. option_map (λ row. row.name.now) (option_copied row)) (sym same)
    ∙ ap (option_map (λ row. row.name.now)) is
    ∙ sym (name_in-rows rows number)
    ∙ ap (λ listed. name_in listed number) rows-listed
