use Rattle.std.proofs.Common.{◌≡◌, Bool, true, false, ◌||◌, ◌&&◌, ℕ, ◌+◌, ◌-◌, ◌≤◌, ◌==◌, [], ◌∷◌, length, map, take, drop, ◌++◌, Some, codes, if◌then◌else◌, bytes_eq}
use Rattle.std.specs.List.{list_any, filter, flat_map}
use Rattle.std.specs.Option.{option_copied}
use Rattle.krb_record.specs.Text.{joined}
use Rattle.krb_choice.specs.Choices.{greatest, is_of, inside_cell, part_cell}
use Rattle.krb_choice.specs.Columns.{all_found, cell_found, count_found}
use Rattle.krb_choice.specs.Marked.{parts_read}
use Rattle.krb_choice.specs.Read.{all_in, found_in}
use Rattle.krb_choice.specs.Shown.{shows_of}
use Rattle.krb_choice.specs.Columns.{found}
use Rattle.krb_choice.specs.Marked.{read_pieces}
use Rattle.krb_choice.proofs.record.Record.find.Given as goal

abbrev pub invariant-loop-column : goal.invariant-loop-column
invariant-loop-column l = record { pieces_of : l.self.pieces.items ≡ l.initial.self.pieces.items; same : all_in l.self.found.items ++ map (found (read_pieces l.initial.self.pieces.items)) (drop l.column-index l.columns) ≡ map (found (read_pieces l.initial.self.pieces.items)) l.columns }
