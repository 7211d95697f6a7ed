use Rattle.krb_run.proofs.Transfers.{Appends-kept, on-ok, on-err, whole-prefix}
use Rattle.krb_run.proofs.transfer.write_all.Goals as goal

pub returns-clause-all : goal.returns-clause-all
returns-clause-all g c = on-ok c.flush.result (Appends-kept _ _ _ _ c.in_ok-write_octets.ensures.all c.flush.ensures.kept)

pub returns-clause-prefix : goal.returns-clause-prefix
returns-clause-prefix g c = on-err c.flush.result (whole-prefix _ _ _ (Appends-kept _ _ _ _ c.in_ok-write_octets.ensures.all c.flush.ensures.kept))
