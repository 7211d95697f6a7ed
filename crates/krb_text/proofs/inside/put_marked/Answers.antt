use Rattle.std.proofs.Common.{◌∙◌, sym}
use Rattle.std.proofs.lemmas.Result.{on_ok_weaker}
use Rattle.krb_text.proofs.Parts.{marked_inside, unmarked_inside}
use Rattle.krb_text.proofs.inside.put_marked.Goals as goal

pub returns-then-not-has_inside : goal.returns-then-not-has_inside
returns-then-not-has_inside g c =
    unmarked_inside c.args.wanted c.args.text.now (g.M.HasParts.parts c.args.message.now) (sym c.has_inside.ensures ∙ c.if-not-has_inside.true)

pub returns : goal.returns
returns g c =
    on_ok_weaker c.push_str-2.result
    (marked_inside c.args.wanted c.args.text.now (g.M.HasParts.parts c.args.message.now) (sym c.has_inside.ensures ∙ c.if-not-has_inside.false) c.in_ok-push_str.ensures c.in_ok-put_parts.ensures)
    c.push_str-2.ensures
