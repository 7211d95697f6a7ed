use Rattle.krb_message_laws.proofs.OwnNames.{names_are_own}
use Rattle.krb_message_laws.proofs.judge.names_are_own.Goals as goal

pub returns : goal.returns
returns c = names_are_own
