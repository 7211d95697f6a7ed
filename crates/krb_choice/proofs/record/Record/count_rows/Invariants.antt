use Rattle.std.proofs.Common.{◌≡◌, Bool, true, false, ◌||◌, ◌&&◌, ℕ, ◌+◌, ◌-◌, ◌≤◌, ◌==◌, [], ◌∷◌, length, map, take, drop, ◌++◌, Some, codes, if◌then◌else◌, bytes_eq}
use Rattle.std.specs.List.{list_any, filter, flat_map}
use Rattle.std.specs.Option.{option_copied}
use Rattle.krb_record.specs.Text.{joined}
use Rattle.krb_choice.specs.Choices.{greatest, is_of, inside_cell, part_cell}
use Rattle.krb_choice.specs.Columns.{all_found, cell_found, count_found}
use Rattle.krb_choice.specs.Marked.{parts_read}
use Rattle.krb_choice.specs.Read.{all_in, found_in}
use Rattle.krb_choice.specs.Shown.{shows_of}
use Rattle.krb_choice.proofs.record.Record.count_rows.Given as goal

abbrev pub invariant-loop-found : goal.invariant-loop-found
invariant-loop-found l = greatest (l.count ∷ map count_found (all_in (drop l.found-index l.self.found.items))) ≡ greatest (1 ∷ map count_found (all_in l.self.found.items))
