use Rattle.krb_exchange.proofs.Windows.{place-back, place-none}
use Rattle.krb_exchange.proofs.window.Window.place_of.Goals as goal

pub returns-in-Some : goal.returns-in-Some
returns-in-Some c = λ place q. place-back c.args.self.now.gone c.in-Some.number c.saturating_sub.result c.args.number place c.in-Some.is c.saturating_sub.ensures q

pub returns-in-None : goal.returns-in-None
returns-in-None c = λ place q. place-none c.args.self.now.gone c.args.number place c.in-None.is q
