use Rattle.std.proofs.Common.{◌≡◌, Bool, true, false, ◌||◌, ◌&&◌, ℕ, ◌+◌, ◌-◌, ◌≤◌, ◌==◌, [], ◌∷◌, length, map, take, drop, ◌++◌, Some, codes, if◌then◌else◌, bytes_eq}
use Rattle.std.specs.List.{list_any, filter, flat_map}
use Rattle.std.specs.Option.{option_copied}
use Rattle.krb_record.specs.Text.{joined}
use Rattle.krb_choice.specs.Choices.{greatest, is_of, inside_cell, part_cell}
use Rattle.krb_choice.specs.Columns.{all_found, cell_found, count_found}
use Rattle.krb_choice.specs.Marked.{parts_read}
use Rattle.krb_choice.specs.Read.{all_in, found_in}
use Rattle.krb_choice.specs.Shown.{shows_of}
use Rattle.krb_choice.proofs.choice.is_one_of.Given as goal

abbrev pub invariant-loop-one : goal.invariant-loop-one
invariant-loop-one l = list_any (bytes_eq l.kind) (map (λ one. one.now) (drop l.one-index l.kinds)) ≡ list_any (bytes_eq l.kind) (map (λ one. one.now) l.kinds)
