use Rattle.std.proofs.Common.{length}
use Rattle.krb_c.proofs.Sorted.{AreSorted}
use Rattle.krb_c.proofs.turning.sorted.Given as goal

-- the lines so far
abbrev pub invariant-octets : goal.invariant-octets
invariant-octets l = AreSorted l.fn.text l.begun l.rest l.lines.items l.said.items

abbrev pub decreases-octets : goal.decreases-octets
decreases-octets l = length l.rest
