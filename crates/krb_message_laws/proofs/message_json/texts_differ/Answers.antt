use Rattle.krb_json.proofs.Messages.{texts_differ}
use Rattle.krb_message_laws.proofs.message_json.texts_differ.Goals as goal

pub returns : goal.returns
returns c = texts_differ
