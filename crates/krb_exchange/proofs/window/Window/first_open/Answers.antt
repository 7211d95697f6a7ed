use Rattle.std.proofs.Common.{true, arith}
use Rattle.krb_exchange.specs.Happened.{first_place, is_open_request}
use Rattle.krb_exchange.proofs.window.Window.first_open.Goals as goal

pub returns : goal.returns
returns c = λ k. c.place_of.ensures (first_place (is_open_request c.args.flow (λ _. true)) c.args.self.now.sendings.items) (c.first_open.ensures c.args.self.now.gone c.args.self.now.sendings.items (omega (arith, k.numbers)) k.indexes)
