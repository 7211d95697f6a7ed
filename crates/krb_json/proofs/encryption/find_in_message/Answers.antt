use Rattle.std.proofs.Common.{◌++◌, Some, None, option_map, sym, ap, subst, ◌∙◌}
use Rattle.std.specs.Prelude.{string_bytes}
use Rattle.krb_msg.specs.Nodes.{term_at}
use Rattle.krb_json.specs.inner.Searching.{Finds}
use Rattle.krb_json.proofs.Searches.{finds-message, finds-no_message}
use Rattle.krb_json.proofs.encryption.find_in_message.Goals as goal

pub returns-in_default : goal.returns-in_default
returns-in_default c = finds-no_message c.args.kind c.message_node-node.result c.tag_of.result c.args.octets.now None c.message_node-node.ensures.term c.tag_of.ensures c.in_default.ensures

pub returns-in_ok-joined-in-Some-2 : goal.returns-in_ok-joined-in-Some-2
returns-in_ok-joined-in-Some-2 c m i same form =
    finds-message c.args.kind c.message_node-node.result c.tag_of.result c.args.octets.now c.in-Some.contents.now c.in-Some._rest.now (Some (string_bytes c.in-Some-2.more)) c.message_node-node.ensures.term c.tag_of.ensures c.in-Some.ensures
    (subst (λ names. Finds (term_at c.message_node-node.result) names c.in-Some.contents.now (Some (string_bytes c.in-Some-2.more))) c.of_kind.ensures
    (subst (λ o. Finds (term_at c.message_node-node.result) c.of_kind.result c.in-Some.contents.now (option_map string_bytes o)) c.in-Some-2.is c.in_ok-more.ensures)) m i same form
    ∙ ap (λ name. Some (name ++ string_bytes c.in-Some-2.more)) (sym c.name.ensures)
    ∙ ap Some (sym c.in_ok-joined-in-Some-2.ensures)

pub returns-in-None : goal.returns-in-None
returns-in-None c m i same form =
    finds-message c.args.kind c.message_node-node.result c.tag_of.result c.args.octets.now c.in-Some.contents.now c.in-Some._rest.now None c.message_node-node.ensures.term c.tag_of.ensures c.in-Some.ensures
    (subst (λ names. Finds (term_at c.message_node-node.result) names c.in-Some.contents.now None) c.of_kind.ensures
    (subst (λ o. Finds (term_at c.message_node-node.result) c.of_kind.result c.in-Some.contents.now (option_map string_bytes o)) c.in-None.is c.in_ok-more.ensures)) m i same form
