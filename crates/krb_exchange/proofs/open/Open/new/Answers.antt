use Rattle.krb_exchange.proofs.Keys.{has-none}
use Rattle.krb_exchange.proofs.open.Open.new.Goals as goal

pub returns : goal.returns
returns c = has-none _ c.new.ensures.empty
