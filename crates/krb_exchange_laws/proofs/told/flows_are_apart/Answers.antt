use Rattle.krb_exchange_laws.proofs.Apart.{flows_are_apart}
use Rattle.krb_exchange_laws.proofs.told.flows_are_apart.Goals as goal

pub returns : goal.returns
returns c = flows_are_apart
