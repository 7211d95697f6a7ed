use Rattle.krb_msg.proofs.Judged.{message_is_whole}
use Rattle.krb_msg.proofs.law.message_is_whole.Goals as goal

pub returns : goal.returns
returns c = message_is_whole
