use Rattle.krb_json.proofs.Messages.{texts_are_json}
use Rattle.krb_message_laws.proofs.message_json.texts_are_json.Goals as goal

pub returns : goal.returns
returns c = texts_are_json
