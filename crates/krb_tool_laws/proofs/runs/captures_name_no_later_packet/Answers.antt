use Rattle.krb_tool_laws.proofs.Latest.{captures_name_no_later_packet}
use Rattle.krb_tool_laws.proofs.runs.captures_name_no_later_packet.Goals as goal

pub returns : goal.returns
returns c = captures_name_no_later_packet
