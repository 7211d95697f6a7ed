use Rattle.krb_msg.proofs.Grammars.{one_of_is_octets}
use Rattle.krb_msg.proofs.law.one_of_is_octets.Goals as goal

pub returns : goal.returns
returns c = one_of_is_octets
