use Rattle.krb_exchange.proofs.Keys.{has-removed}
use Rattle.krb_exchange.proofs.open.Open.remove.Goals as goal

pub returns : goal.returns
returns c = has-removed c.args.self.now (record { keys = c.remove.new.self }) c.args.flow c.args.request c.args.number c.new.result c.new.ensures c.remove.ensures.updates.0
