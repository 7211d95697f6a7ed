use Rattle.krb_msg.specs.Term.{Tagged}
use Rattle.krb_msg.proofs.FieldViews.{else_both, required_rest_none, required_some}
use Rattle.krb_msg.proofs.fields.view.RequiredViewFields.view_fields.Goals as goal

pub returns-in-Some : goal.returns-in-Some
returns-in-Some g c =
    else_both _ _ _ _ _ _ _ (required_rest_none g.row.INDEX g.T.View.term g.F.ViewFields.fields c.args.octets.now c.in-Some.rest.now (g.T.View.value c.view_field.new.seen) c.in-Some.ensures.0)
    (λ a. required_some (Tagged g.row.INDEX g.T.View.term) g.F.ViewFields.fields c.args.octets.now c.in-Some.rest.now (g.T.View.value c.view_field.new.seen) (g.F.ViewFields.values c.view_fields.new.seen) c.in-Some.ensures.0 a)
    (λ known. (c.in-Some.ensures.1, known)) c.view_fields.ensures
