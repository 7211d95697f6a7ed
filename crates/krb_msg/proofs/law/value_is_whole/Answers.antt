use Rattle.krb_msg.proofs.Grammars.{value_is_whole}
use Rattle.krb_msg.proofs.law.value_is_whole.Goals as goal

pub returns : goal.returns
returns c = value_is_whole
