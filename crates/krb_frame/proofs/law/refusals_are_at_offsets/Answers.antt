use Rattle.krb_frame.proofs.Offsets.{refusals_are_at_offsets}
use Rattle.krb_frame.proofs.law.refusals_are_at_offsets.Goals as goal

pub returns : goal.returns
returns c = refusals_are_at_offsets
