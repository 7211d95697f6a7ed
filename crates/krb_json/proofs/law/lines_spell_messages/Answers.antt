use Rattle.krb_json.proofs.Messages.{lines_spell_messages}
use Rattle.krb_json.proofs.law.lines_spell_messages.Goals as goal

pub returns : goal.returns
returns c = lines_spell_messages
