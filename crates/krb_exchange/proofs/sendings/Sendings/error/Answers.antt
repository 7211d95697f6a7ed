use Rattle.std.proofs.Common.{None, refl}
use Rattle.krb_exchange.proofs.sendings.Sendings.error.Goals as goal

pub invariant_of-self : goal.invariant_of-self
invariant_of-self c = c.close.ensures.keeps None refl c.self.invariant
