use Rattle.krb_exchange_laws.proofs.Once.{requests_are_told_once}
use Rattle.krb_exchange_laws.proofs.told.requests_are_told_once.Goals as goal

pub returns : goal.returns
returns c = requests_are_told_once
