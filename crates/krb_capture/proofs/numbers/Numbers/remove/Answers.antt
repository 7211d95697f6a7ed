use Rattle.std.proofs.Common.{None, arith}
use Rattle.krb_capture.proofs.Noted.{noted-set}
use Rattle.krb_capture.proofs.numbers.Numbers.remove.Goals as goal

pub invariant_of-self : goal.invariant_of-self
invariant_of-self c =
    noted-set c.self.inside.map.entries c.remove.new.self.entries c.args.flow.now c.remove.ensures.updates.2 c.self.inside.recent c.place_of.result None c.self.invariant c.place_of.ensures.value (omega arith) tt
