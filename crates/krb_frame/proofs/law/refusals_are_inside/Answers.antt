use Rattle.krb_frame.proofs.Refusals.{refusals_are_inside}
use Rattle.krb_frame.proofs.law.refusals_are_inside.Goals as goal

pub returns : goal.returns
returns c = refusals_are_inside
