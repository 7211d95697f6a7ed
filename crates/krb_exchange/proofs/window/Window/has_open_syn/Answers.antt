use Rattle.krb_exchange.proofs.window.Window.has_open_syn.Goals as goal

pub returns : goal.returns
returns c = λ k. c.has_open_syn.ensures c.args.self.now.gone c.args.self.now.sendings.items k.indexes
