use Rattle.std.proofs.Common.{sym}
use Rattle.krb_msg.specs.ViewValues.{message_of_view}
use Rattle.krb_frame.proofs.framed.Framed.realm.Goals as goal

pub returns : goal.returns
returns c = record { message = message_of_view c.view.result; in_profile = c.view.ensures.in_profile; form = c.view.ensures.form; same_realm = sym c.realm.ensures }
