use Rattle.krb_tool_laws.proofs.DecodedTexts.{decoded_is_lines}
use Rattle.krb_tool_laws.proofs.runs.decoded_is_lines.Goals as goal

pub returns : goal.returns
returns c = decoded_is_lines c.texts_are_json.ensures
