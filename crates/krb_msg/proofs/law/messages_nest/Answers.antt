use Rattle.krb_msg.proofs.Judged.{messages_nest}
use Rattle.krb_msg.proofs.law.messages_nest.Goals as goal

pub returns : goal.returns
returns c = messages_nest
