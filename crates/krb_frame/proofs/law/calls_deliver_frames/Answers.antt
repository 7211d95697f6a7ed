use Rattle.krb_frame.proofs.Calls.{calls_deliver_frames}
use Rattle.krb_frame.proofs.law.calls_deliver_frames.Goals as goal

pub returns : goal.returns
returns c = calls_deliver_frames
