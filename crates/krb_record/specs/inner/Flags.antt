-- Flags by the rows of a registry, as the code has them.
use Rattle.std.specs.Prelude.{ℕ, ℤ, unsigned_abs, Bool, List, map}
use Rattle.std.specs.List.{filter, list_all}
use Rattle.krb_registry.specs.Laws.{is_plain}
use Rattle.krb_record.specs.declared.flags.NameForm.{NameForm}
use Rattle.krb_record.specs.declared.flags.NameForm.TheVariants as form
use Rattle.krb_record.specs.Forms.{is_set, json_string}

abbrev pub name_item : NameForm → List ℕ → List ℕ
name_item form.Word name = name
name_item form.String name = json_string name

-- whether their names are plain
abbrev pub are_plain : List (ℤ × List ℕ) → Bool
are_plain rows = list_all (λ row. list_all is_plain row.1) rows

-- the names of the bits that are set and have one
abbrev pub names_set : List ℕ → List (ℤ × List ℕ) → List (List ℕ)
names_set octets rows = map (λ row. row.1) (filter (λ row. is_set octets (unsigned_abs row.0)) rows)
