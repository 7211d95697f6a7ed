use Rattle.krb_msg.proofs.Grammars.{one_of_is_prefix_free}
use Rattle.krb_msg.proofs.law.one_of_is_prefix_free.Goals as goal

pub returns : goal.returns
returns c = one_of_is_prefix_free
