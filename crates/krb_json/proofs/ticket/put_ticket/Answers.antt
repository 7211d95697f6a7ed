use Rattle.std.proofs.Common.{◌++◌, ◌∷◌, [], ap, ◌∙◌}
use Rattle.krb_json.proofs.Tickets.{puts-ticket, puts-no_ticket}
use Rattle.krb_json.proofs.Walks.{on-ok}
use Rattle.krb_json.proofs.ticket.put_ticket.Goals as goal

pub returns-in_default-clause-written : goal.returns-in_default-clause-written
returns-in_default-clause-written c = puts-no_ticket c.ticket_node-node.result c.tag_of.result c.args.octets.now c.args.out.now.tokens c.args.out.now.tokens c.ticket_node-node.ensures.term c.tag_of.ensures c.in_default.ensures

pub returns-clause-written : goal.returns-clause-written
returns-clause-written c =
    on-ok c.end_object.result
    (puts-ticket c.ticket_node-node.result c.tag_of.result c.args.octets.now c.in-Some.contents.now c.in-Some._rest.now c.args.out.now.tokens c.begin_object.new.self.tokens c.key.new.self.tokens c.put_contents.new.out.tokens c.end_object.new.self.tokens
    c.ticket_node-node.ensures.term c.tag_of.ensures c.in-Some.ensures c.in_ok-begin_object.ensures.ok c.in_ok-key.ensures.ok
    c.in_ok-put_contents.ensures.written)
    c.end_object.ensures.ok
