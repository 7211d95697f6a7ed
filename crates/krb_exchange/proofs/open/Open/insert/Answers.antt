use Rattle.krb_exchange.proofs.Keys.{has-put, has-same, on-err}
use Rattle.krb_exchange.proofs.open.Open.insert.Goals as goal

pub returns-clause-added : goal.returns-clause-added
returns-clause-added c = has-put c.args.self.now (record { keys = c.insert.new.self }) c.args.flow c.args.request c.args.number c.new.result c.new.ensures c.in_ok-insert.ensures.updates.0

pub returns-in_err-insert-clause-same : goal.returns-in_err-insert-clause-same
returns-in_err-insert-clause-same c = on-err c.from_residual.result (has-same c.args.self.now (record { keys = c.insert.new.self }) c.in_err-insert.ensures.err)
