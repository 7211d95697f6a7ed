use Rattle.std.proofs.Common.{◌++◌, ◌≤◌, ◌∙◌, ap, sym, length, rules}
use Rattle.std.proofs.lemmas.Result.{on_ok_weaker}
use Rattle.krb_record.specs.Forms.{string_cell}
use Rattle.krb_record.proofs.Cells.{plain_cell}
use Rattle.krb_record.proofs.cell.put_string_cell.Goals as goal

pub returns-in-4-to-32 : goal.returns-in-4-to-32
returns-in-4-to-32 c =
    let long : 4 ≤ length c.args.octets.now = search rules in
    on_ok_weaker c.push_ascii.result
    (λ e. e ∙ ap (λ l. c.args.text.now ++ l) (sym (plain_cell c.args.octets.now long (sym c.are_plain.ensures ∙ c.if-are_plain.true))))
    c.push_ascii.ensures

pub returns-in_default : goal.returns-in_default
unfolding string_cell
returns-in_default c = c.put_any.ensures
