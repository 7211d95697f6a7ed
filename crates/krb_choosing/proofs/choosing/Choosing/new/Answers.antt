use Rattle.std.proofs.Common.{ap}
use Rattle.krb_choosing.proofs.Taken.{follows-none}
use Rattle.krb_choosing.proofs.choosing.Choosing.new.Goals as goal

pub invariant_of-result : goal.invariant_of-result
invariant_of-result g c = record { follows = follows-none _ _ _ _ _ _ _ _ (ap g.W.Write.contents c.of-before.ensures) c.none.ensures c.new.ensures.none.1 c.new.ensures.none.0 c.new.ensures.none.2 }
