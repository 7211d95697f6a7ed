use Rattle.krb_msg.proofs.Judged.{refusal_is_right}
use Rattle.krb_msg.proofs.law.refusal_is_right.Goals as goal

pub returns : goal.returns
returns c = refusal_is_right
