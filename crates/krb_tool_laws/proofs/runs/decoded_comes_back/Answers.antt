use Rattle.krb_tool_laws.proofs.RoundTrips.{decoded_comes_back}
use Rattle.krb_tool_laws.proofs.runs.decoded_comes_back.Goals as goal

pub returns : goal.returns
returns c = decoded_comes_back c.texts_are_json.ensures c.texts_are_short.ensures c.texts_come_back.ensures c.lines_spell_octets.ensures
