use Rattle.std.proofs.Common.{true, arith, sym, ◌∙◌, ap}
use Rattle.krb_exchange.specs.Happened.{answered_over, first_place, fits, is_open_request, is_request, latest_place}
use Rattle.krb_exchange.proofs.Windows.{kept-if}
use Rattle.krb_exchange.proofs.window.Window.answered.Goals as goal

pub returns-in-Udp : goal.returns-in-Udp
returns-in-Udp c = λ k.
    let xs = c.args.self.now.sendings.items in
    let place = latest_place (is_open_request c.args.flow (fits c.args.reply)) xs in
    c.place_of.ensures place (c.latest_for.ensures c.args.self.now.gone xs (omega (arith, k.numbers)) k.indexes)
    ∙ sym (ap (λ t. answered_over t c.args.reply c.args.flow xs) c.in-Udp.is)

pub returns-in-Tcp : goal.returns-in-Tcp
returns-in-Tcp c = λ k.
    let xs = c.args.self.now.sendings.items in
    let place = first_place (is_open_request c.args.flow (λ _. true)) xs in
    kept-if (λ one. is_request (fits c.args.reply) one.what) xs place c.first_open-first.result c.is_for.result c.keep_if.result (c.first_open-first.ensures k) c.is_for.ensures c.keep_if.ensures
    ∙ sym (ap (λ t. answered_over t c.args.reply c.args.flow xs) c.in-Tcp.is)
