use Rattle.std.proofs.Common.{Err, ap, subst, ◌∙◌, arith}
use Rattle.json.specs.Value.{value_view}
use Rattle.krb_msg.specs.Nodes.{term_at}
use Rattle.krb_msg.specs.Term.{der}
use Rattle.krb_json.specs.Spelled.{spelled}
use Rattle.krb_json.specs.inner.Reading.{Reads}
use Rattle.krb_json.proofs.ReadMessages.{message-at, message-returned, fault-returned}
use Rattle.krb_json.proofs.reading.read_message.Goals as goal

pub returns-in-Ok : goal.returns-in-Ok
returns-in-Ok c =
    message-returned c.args.profile c.args.limit c.args.kind (value_view c.args.value.now) c.read_item.new.out c.within.result c.requires.short (omega (arith, c.read_item.new.out.ok.0))
    (message-at c.args.profile c.args.limit c.args.kind (value_view c.args.value.now) c.message_node-node.result c.of_kind.result c.new-octets.result.items c.read_item.new.out.items c.message_node-node.ensures.term c.of_kind.ensures c.new-octets.ensures.items c.in-Ok.ensures)
    c.within.ensures.octets c.within.ensures.fault

pub returns : goal.returns
returns c =
    fault-returned c.args.profile c.args.limit c.args.kind (value_view c.args.value.now) c.message_node-node.result c.of_kind.result c.new-octets.result.items c.read_item.new.out.items c.in-Err-At.field-0-0 c.fault_in.result c.message_node-node.ensures.term c.of_kind.ensures
    (subst (Reads (λ path. spelled (term_at c.message_node-node.result) c.of_kind.result path (value_view c.args.value.now)) (der (term_at c.message_node-node.result)) c.new-octets.result.items c.read_item.new.out.items) (c.in-Err-At.is ∙ ap Err c.in-Err-At.field-0-is) c.read_item.ensures)
    c.fault_in.ensures
