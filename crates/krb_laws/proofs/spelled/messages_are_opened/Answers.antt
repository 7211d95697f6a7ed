use Rattle.krb_laws.proofs.Opened.{messages_are_opened}
use Rattle.krb_laws.proofs.spelled.messages_are_opened.Goals as goal

pub returns : goal.returns
returns c = messages_are_opened
