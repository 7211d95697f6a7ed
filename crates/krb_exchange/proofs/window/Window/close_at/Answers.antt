use Rattle.std.proofs.Common.{◌≡◌, Some, slice_get, refl, sym, ◌∙◌}
use Rattle.krb_exchange.specs.inner.Indexes.{with_ahead}
use Rattle.krb_exchange.proofs.Keeping.{closed}
use Rattle.krb_exchange.proofs.Windows.{few-ahead, get-ahead, get-few}
use Rattle.krb_exchange.proofs.window.Window.close_at.Goals as goal

pub returns-in-Some-clause-keeps : goal.returns-in-Some-clause-keeps
returns-in-Some-clause-keeps c = λ ahead over k.
    let xs = c.args.self.now.sendings.items in
    let one = c.in-Some.sending in
    let at : slice_get xs c.args.place ≡ Some one = sym c.at.ensures ∙ c.in-Some.is in
    closed c.args.self.now _ c.args.place one c.args.state ahead at refl refl (c.close.ensures c.args.self.now.gone (with_ahead ahead xs) c.args.place c.args.state k.indexes (get-ahead ahead xs c.args.place one at) (few-ahead ahead xs c.args.place (get-few xs c.args.place one at)) refl over) k
