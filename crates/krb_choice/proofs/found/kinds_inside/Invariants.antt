use Rattle.std.proofs.Common.{◌≡◌, Bool, true, false, ◌||◌, ◌&&◌, ℕ, ◌+◌, ◌-◌, ◌≤◌, ◌==◌, [], ◌∷◌, length, map, take, drop, ◌++◌, Some, codes, if◌then◌else◌, bytes_eq}
use Rattle.std.specs.List.{list_any, filter, flat_map}
use Rattle.std.specs.Option.{option_copied}
use Rattle.krb_record.specs.Text.{joined}
use Rattle.krb_choice.specs.Choices.{greatest, is_of, inside_cell, part_cell}
use Rattle.krb_choice.specs.Columns.{all_found, cell_found, count_found}
use Rattle.krb_choice.specs.Marked.{parts_read}
use Rattle.krb_choice.specs.Read.{all_in, found_in}
use Rattle.krb_choice.specs.Shown.{shows_of}
use Rattle.krb_choice.proofs.found.kinds_inside.Given as goal

abbrev pub invariant-loop-piece : goal.invariant-loop-piece
invariant-loop-piece l = l.text.items ++ (if l.is_any then flat_map (λ part. codes "," ++ part.kind) (parts_read (drop l.piece-index l.pieces)) else inside_cell (Some (parts_read (drop l.piece-index l.pieces)))) ≡ inside_cell (Some (parts_read l.pieces))
