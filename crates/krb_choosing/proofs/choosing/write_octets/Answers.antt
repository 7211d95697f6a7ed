use Rattle.krb_choosing.proofs.Writes.{written-more}
use Rattle.krb_choosing.proofs.choosing.write_octets.Goals as goal

pub writes-preserved : goal.writes-preserved
writes-preserved g c = written-more _ _ _ _ _ _ c.writes.invariant c.in-Ok.ensures.bytes
