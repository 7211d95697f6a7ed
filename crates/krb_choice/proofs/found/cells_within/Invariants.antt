use Rattle.std.proofs.Common.{◌≡◌, Bool, true, false, ◌||◌, ◌&&◌, ℕ, ◌+◌, ◌-◌, ◌≤◌, ◌==◌, [], ◌∷◌, length, map, take, drop, ◌++◌, Some, codes, if◌then◌else◌, bytes_eq}
use Rattle.std.specs.List.{list_any, filter, flat_map}
use Rattle.std.specs.Option.{option_copied}
use Rattle.krb_record.specs.Text.{joined}
use Rattle.krb_choice.specs.Choices.{greatest, is_of, inside_cell, part_cell}
use Rattle.krb_choice.specs.Columns.{all_found, cell_found, count_found}
use Rattle.krb_choice.specs.Marked.{parts_read}
use Rattle.krb_choice.specs.Read.{all_in, found_in}
use Rattle.krb_choice.specs.Shown.{shows_of}
use Rattle.krb_choice.proofs.found.cells_within.Given as goal

abbrev pub invariant-pieces : goal.invariant-pieces
invariant-pieces l = record { within : l.index ≤ length l.pieces; same : map (λ cell. cell.now) l.cells.items ++ map (λ part. part_cell (shows_of l.shows) (Some part)) (filter (is_of l.kind) (parts_read (drop l.index l.pieces))) ≡ map (λ part. part_cell (shows_of l.shows) (Some part)) (filter (is_of l.kind) (parts_read l.pieces)) }

abbrev pub decreases-pieces : goal.decreases-pieces
decreases-pieces l = length l.pieces - l.index
