use Rattle.krb_exchange.specs.Happened.{is_open, latest_syn}
use Rattle.krb_exchange.proofs.Syns.{none-waits, not-positive}
use Rattle.krb_exchange.proofs.Windows.{kept-if}
use Rattle.krb_exchange.proofs.window.Window.open_syn.Goals as goal

pub returns : goal.returns
returns c = λ k.
    let xs = c.args.self.now.sendings.items in
    kept-if (λ one. is_open one.state) xs (latest_syn c.args.flow xs) c.latest_syn-latest.result c.is_open.result c.keep_if.result (c.latest_syn-latest.ensures k) c.is_open.ensures c.keep_if.ensures

pub returns-then-not-has_open_syn : goal.returns-then-not-has_open_syn
returns-then-not-has_open_syn c = λ k.
    let xs = c.args.self.now.sendings.items in none-waits c.args.flow xs (not-positive xs c.has_open_syn.result (c.has_open_syn.ensures c.args.self.now.gone xs k.indexes) c.if-not-has_open_syn.true)
