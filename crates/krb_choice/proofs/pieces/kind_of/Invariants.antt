use Rattle.std.proofs.Common.{◌≡◌, Bool, true, false, ◌||◌, ℕ, ◌+◌, ◌-◌, ◌≤◌, length, take, drop, ◌++◌}
use Rattle.std.specs.List.{list_any}
use Rattle.std.specs.Option.{option_copied}
use Rattle.krb_choice.specs.Choices.{cell_of, is_called, is_there, kind_alone}
use Rattle.krb_choice.specs.Columns.{field_found}
use Rattle.krb_choice.specs.Marked.{after_kind, aside_of, first_cells, is_marked, kind_read, own_fields, part_fields, text_of_cells, without_first}
use Rattle.krb_choice.proofs.pieces.kind_of.Given as goal

abbrev pub invariant-loop-piece : goal.invariant-loop-piece
invariant-loop-piece l = kind_read (drop l.piece-index l.pieces) ≡ kind_read l.pieces
