use Rattle.std.proofs.Common.{length}
use Rattle.krb_choosing.proofs.Writes.{IsWritten}
use Rattle.krb_choosing.proofs.choosing.write_octets.Given as goal

abbrev pub invariant-writes : goal.invariant-writes
invariant-writes g l = IsWritten (g.W.Write.contents l.initial.writer) (g.W.Write.contents l.writer) l.octets l.rest

abbrev pub decreases-writes : goal.decreases-writes
decreases-writes g l = length l.rest
