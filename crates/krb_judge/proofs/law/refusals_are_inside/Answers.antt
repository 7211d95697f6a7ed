use Rattle.krb_judge.proofs.Inside.{refusals_are_inside}
use Rattle.krb_judge.proofs.law.refusals_are_inside.Goals as goal

pub returns : goal.returns
returns c = refusals_are_inside
