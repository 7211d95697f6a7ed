use Rattle.std.proofs.Common.{arith, sym, ◌∙◌, ap}
use Rattle.krb_exchange.specs.Happened.{has_octets, is_open_request, latest_place, replaced_over, same_kind}
use Rattle.krb_exchange.proofs.Windows.{kept-if}
use Rattle.krb_exchange.proofs.window.Window.replaced.Goals as goal

pub returns-in-Udp : goal.returns-in-Udp
returns-in-Udp c = λ k.
    let xs = c.args.self.now.sendings.items in
    let place = latest_place (is_open_request c.args.flow (same_kind c.args.request)) xs in
    kept-if (λ one. has_octets c.args.octets.now one.what) xs place c.place_of-latest.result c.has_octets.result c.keep_if.result (c.place_of-latest.ensures place (c.latest_open.ensures c.args.self.now.gone xs (omega (arith, k.numbers)) k.indexes)) c.has_octets.ensures c.keep_if.ensures
    ∙ sym (ap (λ t. replaced_over t c.args.request c.args.flow c.args.octets.now xs) c.in-Udp.is)

pub returns-in-Tcp : goal.returns-in-Tcp
returns-in-Tcp c = λ k. sym (ap (λ t. replaced_over t c.args.request c.args.flow c.args.octets.now c.args.self.now.sendings.items) c.in-Tcp.is)
