use Rattle.krb_message_laws.proofs.Spellings.{blanks_and_escapes_change_nothing}
use Rattle.krb_message_laws.proofs.message_json.blanks_and_escapes_change_nothing.Goals as goal

pub returns : goal.returns
returns c = blanks_and_escapes_change_nothing
