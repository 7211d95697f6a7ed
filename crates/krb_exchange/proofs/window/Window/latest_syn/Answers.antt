use Rattle.krb_exchange.specs.Happened.{is_syn_of, latest_place}
use Rattle.krb_exchange.proofs.window.Window.latest_syn.Goals as goal

pub returns : goal.returns
returns c = λ k. c.place_of.ensures (latest_place (is_syn_of c.args.flow) c.args.self.now.sendings.items) (c.latest_syn.ensures c.args.self.now.gone c.args.self.now.sendings.items k.indexes)
