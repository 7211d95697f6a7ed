use Rattle.krb_msg.proofs.Reasons.{item_is_not_truncated}
use Rattle.krb_msg.proofs.law.item_is_not_truncated.Goals as goal

pub returns : goal.returns
returns c = item_is_not_truncated
