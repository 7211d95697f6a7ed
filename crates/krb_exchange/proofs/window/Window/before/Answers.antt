use Rattle.std.proofs.Common.{◌∙◌, ap}
use Rattle.krb_exchange.specs.Happened.{at_place, latest_place}
use Rattle.krb_exchange.specs.inner.Indexes.{with_octets}
use Rattle.krb_exchange.proofs.window.Window.before.Goals as goal

pub returns : goal.returns
returns c = λ k.
    let xs = c.args.self.now.sendings.items in
    let place = latest_place (with_octets c.args.octets.now) xs in
    c.at.ensures ∙ ap (λ p. at_place p xs) (c.place_of.ensures place (c.latest_with.ensures c.args.self.now.gone xs k.indexes))
