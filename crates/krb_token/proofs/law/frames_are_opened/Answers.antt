use Rattle.krb_token.proofs.Frames as frames
use Rattle.krb_token.proofs.law.frames_are_opened.Goals as goal

pub returns : goal.returns
returns c = frames.frames_are_opened
