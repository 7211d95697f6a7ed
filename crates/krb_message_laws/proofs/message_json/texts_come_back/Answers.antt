use Rattle.krb_json.proofs.Messages.{texts_come_back}
use Rattle.krb_message_laws.proofs.message_json.texts_come_back.Goals as goal

pub returns : goal.returns
returns c = texts_come_back
