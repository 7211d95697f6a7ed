use Rattle.std.proofs.Common.{◌≡◌, Bool, true, false, ◌||◌, ◌&&◌, ℕ, ◌+◌, ◌-◌, ◌≤◌, ◌==◌, [], ◌∷◌, length, map, take, drop, ◌++◌, Some, codes, if◌then◌else◌, bytes_eq}
use Rattle.std.specs.List.{list_any, filter, flat_map}
use Rattle.std.specs.Option.{option_copied}
use Rattle.krb_record.specs.Text.{joined}
use Rattle.krb_choice.specs.Choices.{greatest, is_of, inside_cell, part_cell}
use Rattle.krb_choice.specs.Columns.{all_found, cell_found, count_found}
use Rattle.krb_choice.specs.Marked.{parts_read}
use Rattle.krb_choice.specs.Read.{all_in, found_in}
use Rattle.krb_choice.specs.Shown.{shows_of}
use Rattle.krb_choice.proofs.record.has_all.Given as goal

abbrev pub invariant-columns : goal.invariant-columns
invariant-columns l = record { within : l.index ≤ length l.columns; also : l.index ≤ length l.found; same : all_found (drop l.index l.columns) (all_in (drop l.index l.found)) ≡ all_found l.columns (all_in l.found) }

abbrev pub decreases-columns : goal.decreases-columns
decreases-columns l = length l.columns - l.index
