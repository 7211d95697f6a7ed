use Rattle.std.proofs.Common.{pos}
use Rattle.krb_msg.specs.Term.{Tagged}
use Rattle.krb_msg.specs.Grammar.{exactly}
use Rattle.krb_msg.proofs.FieldViews.{else_both, required_rest_none, required_some}
use Rattle.krb_msg.proofs.fields.view.FixedViewFields.view_fields.Goals as goal

pub returns-in-Some : goal.returns-in-Some
returns-in-Some g c =
    else_both _ _ _ _ _ _ _ (required_rest_none g.row.INDEX (exactly g.row.NUMBER) g.F.ViewFields.fields c.args.octets.now c.in-Some.rest.now (pos g.row.NUMBER) c.in-Some.ensures)
    (λ a. required_some (Tagged g.row.INDEX (exactly g.row.NUMBER)) g.F.ViewFields.fields c.args.octets.now c.in-Some.rest.now (pos g.row.NUMBER) (g.F.ViewFields.values c.view_fields.new.seen) c.in-Some.ensures a)
    (λ known. known) c.view_fields.ensures
