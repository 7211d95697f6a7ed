use Rattle.krb_message_laws.proofs.Lengths.{texts_are_short}
use Rattle.krb_message_laws.proofs.message_json.texts_are_short.Goals as goal

pub returns : goal.returns
returns c = texts_are_short
