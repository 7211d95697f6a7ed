-- What the code found, as values.
use Rattle.std.specs.Prelude.{◌≡◌, List, ℕ, map}
use Rattle.std.specs.Option.{option_copied}
use Rattle.krb_choice.specs.declared.found.Found.{Found as FoundByCode}
use Rattle.krb_choice.specs.declared.found.Found.TheVariants as by_code
use Rattle.krb_choice.specs.declared.record.Record.{Record}
use Rattle.krb_choice.specs.Choices.{Choice, columns_of}
use Rattle.krb_choice.specs.Columns.{Found, Kinds, Own, Within, found}
use Rattle.krb_choice.specs.Marked.{pieces, read_pieces}

abbrev pub found_in : FoundByCode → Found
found_in (by_code.Own cell) = Own (option_copied cell)
found_in (by_code.Kinds text) = Kinds text.items
found_in (by_code.Within cells) = Within (map (λ cell. cell.now) cells.items)

abbrev pub all_in : List FoundByCode → List Found
all_in all = map found_in all

-- what the columns of a choice show of the pieces of a record was found
abbrev pub HasFound : Choice → Record → Type 0
HasFound choice of = all_in of.found.items ≡ map (found (read_pieces of.pieces.items)) (columns_of choice.print)

-- that of a text
pub record Finds (choice : Choice) (text : List ℕ) (of : Record) : Type 0 where
  pub pieces_of : of.pieces.items ≡ pieces text
  pub found_of : HasFound choice of
