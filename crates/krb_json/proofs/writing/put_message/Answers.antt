use Rattle.std.proofs.Common.{◌++◌, ◌∷◌, [], ap, subst, ◌∙◌}
use Rattle.json.specs.Token.{key}
use Rattle.krb_msg.specs.Nodes.{term_at}
use Rattle.krb_json.specs.inner.Writing.{Puts}
use Rattle.krb_json.proofs.Walks.{on-ok, puts-message, puts-no_message}
use Rattle.krb_json.proofs.writing.put_message.Goals as goal

pub returns-in_default-clause-written : goal.returns-in_default-clause-written
returns-in_default-clause-written c = puts-no_message c.args.kind c.message_node-node.result c.tag_of.result c.args.octets.now c.args.out.now.tokens c.args.out.now.tokens c.message_node-node.ensures.term c.tag_of.ensures c.in_default.ensures

pub returns-clause-written : goal.returns-clause-written
returns-clause-written c =
    on-ok c.end_object.result
    (puts-message c.args.kind c.message_node-node.result c.tag_of.result c.args.octets.now c.in-Some.contents.now c.in-Some._rest.now c.args.out.now.tokens c.begin_object.new.self.tokens c.key.new.self.tokens c.put_contents.new.out.tokens c.end_object.new.self.tokens
    c.message_node-node.ensures.term c.tag_of.ensures c.in-Some.ensures c.in_ok-begin_object.ensures.ok (c.in_ok-key.ensures.ok ∙ ap (λ name. c.begin_object.new.self.tokens ++ key name ∷ []) c.name.ensures)
    (subst (λ names. Puts (term_at c.message_node-node.result) names c.in-Some.contents.now c.key.new.self.tokens c.put_contents.new.out.tokens) c.of_kind.ensures c.in_ok-put_contents.ensures.written))
    c.end_object.ensures.ok
