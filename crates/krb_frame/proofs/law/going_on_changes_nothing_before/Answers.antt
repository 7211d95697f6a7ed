use Rattle.krb_frame.proofs.GoingOn.{begins}
use Rattle.krb_frame.proofs.law.going_on_changes_nothing_before.Goals as goal

pub returns : goal.returns
returns c = begins
