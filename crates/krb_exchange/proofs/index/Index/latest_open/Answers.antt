use Rattle.krb_exchange.proofs.Windows.{latest-found}
use Rattle.krb_exchange.proofs.index.Index.latest_open.Goals as goal

pub returns : goal.returns
returns c = λ gone xs few h. latest-found c.args.self.now gone xs h few c.args.flow c.args.request c.latest_of.result c.latest_of.ensures
