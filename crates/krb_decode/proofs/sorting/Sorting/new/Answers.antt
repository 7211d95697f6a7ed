use Rattle.std.proofs.Common.{ap}
use Rattle.krb_decode.proofs.Sorters.{sorts-none}
use Rattle.krb_decode.proofs.sorting.Sorting.new.Goals as goal

pub invariant_of-result : goal.invariant_of-result
invariant_of-result g c = record { sorts = sorts-none (g.T.Tell.IsTold c.args.teller.now) _ _ _ _ _ _ (ap g.W.Write.contents c.of-before.ensures) c.none.ensures c.new.ensures.none.0 c.new.ensures.none.1 c.new.ensures.none.2 }
