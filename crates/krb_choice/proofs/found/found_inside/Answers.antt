use Rattle.std.proofs.Common.{◌∙◌, ◌≡◌, ◌||◌, ap, arith, false, sym, true}
use Rattle.std.specs.List.{list_any}
use Rattle.std.proofs.lemmas.Grind.{common_steps}
use Rattle.krb_choice.proofs.Columns.{kinds_none, kinds_there}
use Rattle.krb_choice.proofs.Marks.{any_part}
use Rattle.krb_choice.specs.Columns.{is_any}
use Rattle.krb_choice.specs.Marked.{after_kind, is_marked, parts_read}
use Rattle.krb_choice.proofs.found.found_inside.Goals as goal

pub returns-then-not-has_inside : goal.returns-then-not-has_inside
returns-then-not-has_inside c =
    let all = c.args.pieces.now in
    let none : (list_any (is_marked 4) all || is_any (parts_read (after_kind all))) ≡ false = grind (arith, common_steps, any_part (after_kind all)) in
    sym (kinds_none (list_any (is_marked 4) all) (parts_read (after_kind all)) none)

pub returns : goal.returns
returns c =
    let all = c.args.pieces.now in
    let some : (list_any (is_marked 4) all || is_any (parts_read (after_kind all))) ≡ true = grind (arith, common_steps, any_part (after_kind all)) in
    let is = kinds_there (list_any (is_marked 4) all) (parts_read (after_kind all)) some in
    grind (arith, common_steps, is)
