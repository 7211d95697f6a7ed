use Rattle.krb_json.proofs.TicketLaws.{lines_spell_octets}
use Rattle.krb_json.proofs.law.lines_spell_octets.Goals as goal

pub returns : goal.returns
returns c = lines_spell_octets
