use Rattle.krb_exchange.proofs.Windows.{first-found}
use Rattle.krb_exchange.proofs.index.Index.first_open.Goals as goal

pub returns : goal.returns
returns c = λ gone xs few h. first-found c.args.self.now gone xs h few c.args.flow c.first.result c.first.ensures
