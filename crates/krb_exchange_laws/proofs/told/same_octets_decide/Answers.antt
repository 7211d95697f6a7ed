use Rattle.krb_exchange_laws.proofs.Octets.{same_octets_decide}
use Rattle.krb_exchange_laws.proofs.told.same_octets_decide.Goals as goal

pub returns : goal.returns
returns c = same_octets_decide
