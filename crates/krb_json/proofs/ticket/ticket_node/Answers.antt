use Rattle.krb_judge.proofs.Values.{ticket_node}
use Rattle.krb_json.proofs.ticket.ticket_node.Goals as goal

pub returns-clause-term : goal.returns-clause-term
returns-clause-term c = ticket_node
