use Rattle.std.proofs.Common.{◌≡◌, Bool, true, false, ◌||◌, ℕ, ◌+◌, ◌-◌, ◌≤◌, length, take, drop, ◌++◌}
use Rattle.std.specs.List.{list_any}
use Rattle.std.specs.Option.{option_copied}
use Rattle.krb_choice.specs.Choices.{cell_of, is_called, is_there, kind_alone}
use Rattle.krb_choice.specs.Columns.{field_found}
use Rattle.krb_choice.specs.Marked.{after_kind, aside_of, first_cells, is_marked, kind_read, own_fields, part_fields, text_of_cells, without_first}
use Rattle.krb_choice.proofs.pieces.own_cell.Given as goal

abbrev pub invariant-pieces : goal.invariant-pieces
invariant-pieces l = record { within : l.index ≤ length l.pieces; same : field_found l.name l.path (own_fields l.is_inside (drop l.index l.pieces)) ≡ field_found l.name l.path (own_fields false l.pieces) }

abbrev pub decreases-pieces : goal.decreases-pieces
decreases-pieces l = length l.pieces - l.index
