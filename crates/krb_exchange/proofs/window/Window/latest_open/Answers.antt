use Rattle.std.proofs.Common.{true, arith, ◌∙◌, ap}
use Rattle.krb_exchange.specs.Happened.{is_open_request, later_place, latest_place}
use Rattle.krb_exchange.proofs.window.Window.latest_open.Goals as goal

pub returns : goal.returns
returns c = λ k.
    let xs = c.args.self.now.sendings.items in
    let place = latest_place (is_open_request c.args.flow (λ _. true)) xs in
    c.later.ensures
    ∙ ap (λ p. later_place p c.open_syn.result) (c.place_of-request.ensures place (c.latest_for.ensures c.args.self.now.gone xs (omega (arith, k.numbers)) k.indexes))
    ∙ ap (λ p. later_place place p) (c.open_syn.ensures k)
