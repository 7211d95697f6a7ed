use Rattle.krb_msg.proofs.Grammars.{whole_is_value}
use Rattle.krb_msg.proofs.law.whole_is_value.Goals as goal

pub returns : goal.returns
returns c = whole_is_value
