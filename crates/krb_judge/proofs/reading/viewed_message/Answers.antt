use Rattle.krb_msg.proofs.FieldViews.{match_map}
use Rattle.krb_judge.proofs.Slices.{no_message_refused, view_not_refused}
use Rattle.krb_judge.proofs.reading.viewed_message.Goals as goal

pub returns : goal.returns
returns c = match_map c.view_message.result _ _ _ _ (no_message_refused c.args.octets.now) (λ seen v. (v, view_not_refused c.args.octets.now seen v)) c.view_message.ensures
