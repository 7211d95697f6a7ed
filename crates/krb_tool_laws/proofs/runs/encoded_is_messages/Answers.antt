use Rattle.krb_tool_laws.proofs.EncodedMessages.{encoded_is_messages}
use Rattle.krb_tool_laws.proofs.runs.encoded_is_messages.Goals as goal

pub returns : goal.returns
returns c = encoded_is_messages c.lines_spell_messages.ensures c.lines_spell_octets.ensures
