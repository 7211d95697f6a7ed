use Rattle.krb_laws.proofs.Messages.{messages_are_spelled}
use Rattle.krb_laws.proofs.spelled.messages_are_spelled.Goals as goal

pub returns : goal.returns
returns c = messages_are_spelled
