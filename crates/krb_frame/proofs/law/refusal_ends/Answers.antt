use Rattle.krb_frame.proofs.Ends.{refusal_ends}
use Rattle.krb_frame.proofs.law.refusal_ends.Goals as goal

pub returns : goal.returns
returns c = refusal_ends
