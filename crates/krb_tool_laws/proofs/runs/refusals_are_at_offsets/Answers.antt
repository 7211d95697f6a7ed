use Rattle.krb_msg.specs.Grammar.{messages}
use Rattle.krb_tool_laws.proofs.runs.refusals_are_at_offsets.Goals as goal

pub returns : goal.returns
returns c = λ profile limit stream place reason e. c.refusals_are_at_offsets.ensures (messages profile) limit stream place reason e
