use Rattle.krb_msg.proofs.Grammars.{all_is_decided}
use Rattle.krb_msg.proofs.law.all_is_decided.Goals as goal

pub returns : goal.returns
returns c = all_is_decided
