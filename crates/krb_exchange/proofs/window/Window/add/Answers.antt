use Rattle.std.proofs.Common.{[], ◌∷◌, Some, refl, arith, length-append}
use Rattle.krb_exchange.specs.inner.Indexes.{Keeps}
use Rattle.krb_exchange.proofs.Keeping.{pushed}
use Rattle.krb_exchange.proofs.window.Window.add.Goals as goal

pub make_room-missed-requires-clause-numbers : goal.make_room-missed-requires-clause-numbers
make_room-missed-requires-clause-numbers c =
    let k : Keeps c.close.new.self (Some c.args.sending) = c.close.ensures.keeps (Some c.args.sending) refl c.in_ok-prepare.ensures.ahead in
    omega (arith, k.numbers, length-append c.close.new.self.sendings.items (c.args.sending ∷ []))

pub returns-clause-keeps : goal.returns-clause-keeps
returns-clause-keeps c =
    let k : Keeps c.close.new.self (Some c.args.sending) = c.close.ensures.keeps (Some c.args.sending) refl c.in_ok-prepare.ensures.ahead in
    pushed c.make_room-missed.new.self (record { sendings = c.push_back_reserved.new.self; gone = c.make_room-missed.new.self.gone; index = c.make_room-missed.new.self.index }) c.args.sending c.push_back_reserved.ensures.items refl refl c.make_room-missed.ensures.few (c.make_room-missed.ensures.keeps (Some c.args.sending) k)
