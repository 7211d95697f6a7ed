use Rattle.krb_message_laws.proofs.Masks.{unencrypted_changes_nothing}
use Rattle.krb_message_laws.proofs.message_json.unencrypted_changes_nothing.Goals as goal

pub returns : goal.returns
returns c = unencrypted_changes_nothing
