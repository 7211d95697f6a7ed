use Rattle.krb_judge.proofs.Values.{ticket_node, strict_ticket_node}
use Rattle.krb_json.proofs.ticket_reading.ticket_node_in.Goals as goal

pub returns-in-Lenient-clause-term : goal.returns-in-Lenient-clause-term
returns-in-Lenient-clause-term c = rw c.in-Lenient.is ticket_node

pub returns-in-Strict-clause-term : goal.returns-in-Strict-clause-term
returns-in-Strict-clause-term c = rw c.in-Strict.is strict_ticket_node
