use Rattle.krb_run.proofs.Transfers.{IsWritten-more}
use Rattle.krb_run.proofs.transfer.write_octets.Goals as goal

pub writes-preserved : goal.writes-preserved
writes-preserved g c = IsWritten-more _ _ _ _ _ _ c.writes.invariant c.in-Ok.ensures.bytes
