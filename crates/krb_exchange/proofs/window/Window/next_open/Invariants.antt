use Rattle.std.proofs.Common.{◌≡◌, None, length}
use Rattle.krb_exchange.specs.Happened.{open_in}
use Rattle.krb_exchange.specs.inner.Indexes.{Keeps}
use Rattle.krb_exchange.proofs.window.Window.next_open.Given as goal

abbrev pub invariant-loop-first : goal.invariant-loop-first
invariant-loop-first l = Keeps l.self None × (open_in l.self.sendings.items ≡ open_in l.initial.self.sendings.items)

abbrev pub decreases-loop-first : goal.decreases-loop-first
decreases-loop-first l = length l.self.sendings.items
