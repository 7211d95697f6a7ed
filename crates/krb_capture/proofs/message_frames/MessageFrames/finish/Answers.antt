use Rattle.std.proofs.Common.{◌∙◌, ap}
use Rattle.std.specs.Result.{result_err}
use Rattle.krb_capture.proofs.Over.{finish-is}
use Rattle.krb_capture.proofs.message_frames.MessageFrames.finish.Goals as goal

pub returns : goal.returns
returns c = λ profile limit stream t e. c.err.ensures.value ∙ ap result_err c.finish.ensures ∙ finish-is profile c.args.self.now limit stream t e
