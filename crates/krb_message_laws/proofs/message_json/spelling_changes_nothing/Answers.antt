use Rattle.krb_message_laws.proofs.Reorders.{spelling_changes_nothing}
use Rattle.krb_message_laws.proofs.message_json.spelling_changes_nothing.Goals as goal

pub returns : goal.returns
returns c = spelling_changes_nothing
