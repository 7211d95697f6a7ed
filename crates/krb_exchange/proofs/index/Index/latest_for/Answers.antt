use Rattle.krb_exchange.specs.Happened.{fits}
use Rattle.krb_exchange.proofs.Windows.{latest-fitting}
use Rattle.krb_exchange.proofs.index.Index.latest_for.Goals as goal

pub returns : goal.returns
returns c = λ gone xs few h. latest-fitting c.args.self.now gone xs h few c.args.flow (fits c.args.reply) c.latest_for.result c.latest_for.ensures
