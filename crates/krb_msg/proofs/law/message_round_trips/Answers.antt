use Rattle.krb_msg.proofs.Judged.{message_round_trips}
use Rattle.krb_msg.proofs.law.message_round_trips.Goals as goal

pub returns : goal.returns
returns c = message_round_trips
