use Rattle.std.proofs.Common.{length}
use Rattle.krb_host.proofs.Stand.{Grows}
use Rattle.krb_host.proofs.sources.expand.Given as goal

-- what stands for the rest completes what stands for the sources so far
abbrev pub invariant-given : goal.invariant-given
invariant-given g l = Grows (g.H.Host.around l.fn.host) l.fn.given l.rest l.sources.items l.status

abbrev pub decreases-given : goal.decreases-given
decreases-given g l = length l.rest
