use Rattle.std.proofs.Common.{arith}
use Rattle.krb_flow.proofs.Runs.{apart_fits}
use Rattle.krb_flow.proofs.waiting.Runs.keep.Goals as goal

pub overflow_add-self : goal.overflow_add-self
overflow_add-self c = omega (arith, c.self.invariant.1, c.in-Ok.ensures.count, apart_fits 0 c.keep_all.new.runs.entries c.in-Ok.ensures.apart)
