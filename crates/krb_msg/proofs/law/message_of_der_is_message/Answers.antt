use Rattle.krb_msg.proofs.MessageOfDer.{message_of_der_is_message}
use Rattle.krb_msg.proofs.law.message_of_der_is_message.Goals as goal

pub returns : goal.returns
returns c = message_of_der_is_message
