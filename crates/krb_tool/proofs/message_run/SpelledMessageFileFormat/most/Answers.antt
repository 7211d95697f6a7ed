use Rattle.krb_tool.proofs.Messages.{cut-listed}
use Rattle.krb_tool.proofs.message_run.SpelledMessageFileFormat.most.Goals as goal

pub returns : goal.returns
returns c = cut-listed _ _
