use Rattle.krb_msg.proofs.FieldViews.{else_both, sequence_none, sequence_some}
use Rattle.krb_msg.proofs.fields.view.SequenceViewSequence.view_into.Goals as goal

pub returns : goal.returns
returns g c =
    else_both _ _ _ _ _ _ _ (sequence_none g.F.ViewFields.fields c.args.contents.now)
    (λ a. sequence_some g.F.ViewFields.fields c.args.contents.now (g.F.ViewFields.values c.view_fields.new.seen) a) (λ known. known) c.view_fields.ensures
