use Rattle.std.proofs.Common.{◌≡◌, Bool, true, false, ◌||◌, ◌&&◌, ℕ, ◌+◌, ◌-◌, ◌≤◌, ◌==◌, [], ◌∷◌, length, map, take, drop, ◌++◌, Some, codes, if◌then◌else◌, bytes_eq}
use Rattle.std.specs.List.{list_any, filter, flat_map}
use Rattle.std.specs.Option.{option_copied}
use Rattle.krb_record.specs.Text.{joined}
use Rattle.krb_choice.specs.Choices.{greatest, is_of, inside_cell, part_cell}
use Rattle.krb_choice.specs.Columns.{all_found, cell_found, count_found}
use Rattle.krb_choice.specs.Marked.{parts_read}
use Rattle.krb_choice.specs.Read.{all_in, found_in}
use Rattle.krb_choice.specs.Shown.{shows_of}
use Rattle.krb_choice.specs.Marked.{kept_piece, pieces, unmarked}
use Rattle.krb_choice.proofs.mark.put_whole.Given as goal

abbrev pub invariant-pieces : goal.invariant-pieces
invariant-pieces l = record { at_mark : unmarked l.others ≡ []; same : l.out.items ++ flat_map kept_piece (pieces l.others) ≡ l.initial.out.items ++ flat_map kept_piece (pieces l.fn.text) }

abbrev pub decreases-pieces : goal.decreases-pieces
decreases-pieces l = length l.others
