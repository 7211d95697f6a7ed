use Rattle.std.proofs.Common.{Err, ap, subst, ◌∙◌, arith}
use Rattle.json.specs.Value.{value_view}
use Rattle.krb_judge.specs.declared.locating.names.Names.TheVariants as names
use Rattle.krb_msg.specs.Nodes.{term_at}
use Rattle.krb_msg.specs.Term.{der}
use Rattle.krb_json.specs.Spelled.{spelled}
use Rattle.krb_json.specs.inner.Reading.{Reads}
use Rattle.krb_json.proofs.ReadTickets.{ticket-at, ticket-fault, ticket-returned}
use Rattle.krb_json.proofs.ticket_reading.read_ticket.Goals as goal

pub returns-in-Ok : goal.returns-in-Ok
returns-in-Ok c =
    ticket-returned c.args.profile c.args.limit (value_view c.args.value.now) c.read_item.new.out c.within.result (omega (arith, c.read_item.new.out.ok.0))
    (ticket-at c.args.profile c.args.limit (value_view c.args.value.now) c.ticket_node_in-node.result c.new-octets.result.items c.read_item.new.out.items c.ticket_node_in-node.ensures.term c.new-octets.ensures.items c.in-Ok.ensures)
    c.within.ensures.octets c.within.ensures.fault

pub returns : goal.returns
returns c =
    ticket-fault c.args.profile c.args.limit (value_view c.args.value.now) c.ticket_node_in-node.result c.new-octets.result.items c.read_item.new.out.items c.in-Err-At.field-0-0 c.fault_in.result c.ticket_node_in-node.ensures.term
    (subst (Reads (λ path. spelled (term_at c.ticket_node_in-node.result) names.Ticket path (value_view c.args.value.now)) (der (term_at c.ticket_node_in-node.result)) c.new-octets.result.items c.read_item.new.out.items) (c.in-Err-At.is ∙ ap Err c.in-Err-At.field-0-is) c.read_item.ensures)
    c.fault_in.ensures
