use Rattle.krb_msg.proofs.Reasons.{refusal_is_not_truncated}
use Rattle.krb_msg.proofs.law.refusal_is_not_truncated.Goals as goal

pub returns : goal.returns
returns c = refusal_is_not_truncated
