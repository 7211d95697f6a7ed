use Rattle.std.proofs.lemmas.Result.{on_ok_weaker}
use Rattle.krb_record.proofs.Appended.{two_lists}
use Rattle.krb_record.proofs.refusal.put_located.Goals as goal

pub returns : goal.returns
returns c = on_ok_weaker c.put_extent.result (two_lists _ _ _ _ c.in_ok-put_path.ensures) c.put_extent.ensures
