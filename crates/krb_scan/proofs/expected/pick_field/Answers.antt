use Rattle.std.proofs.Common.{◌+◌, sym, ap, ◌∙◌, subst, arith}
use Rattle.krb_msg.specs.Table.{IsSlot}
use Rattle.krb_scan.specs.Scan.{Listed}
use Rattle.krb_scan.specs.inner.Machine.{pick}
use Rattle.krb_scan.specs.inner.Choices.{AreSame}
use Rattle.krb_scan.proofs.Choices.{fields_left, picks_required, picks_optional, passes_optional, slots_end, slot_known}
use Rattle.krb_scan.proofs.expected.pick_field.Goals as goal

pub fields-init : goal.fields-init
fields-init c = ap (λ fields. pick c.args.octet (Listed fields)) (fields_left c.fields_at-fields.result.now c.args.sequence c.args.from c.fields_at-fields.ensures.fields)

pub pick_node-requires-clause-node : goal.pick_node-requires-clause-node
pick_node-requires-clause-node c = subst IsSlot c.in-Required.is (slot_known c.fields_at-fields.result.now c.fields.at _ c.fields_at-fields.ensures.known c.fields-test.true)

pub tag_of-requires : goal.tag_of-requires
tag_of-requires c = subst IsSlot c.in-Optional.is (slot_known c.fields_at-fields.result.now c.fields.at _ c.fields_at-fields.ensures.known c.fields-test.true)

pub returns-in-Required : goal.returns-in-Required
returns-in-Required c =
    subst (AreSame c.pick_node.result)
    (sym (c.fields.invariant ∙ picks_required c.args.octet c.fields_at-fields.result.now _ c.fields.at _ c.in-Required.node c.fields-test.true c.in-Required.is (fields_left c.fields_at-fields.result.now c.args.sequence (c.fields.at + 1) c.fields_at-fields.ensures.fields)))
    c.pick_node.ensures

pub returns-then-tag_of-octet : goal.returns-then-tag_of-octet
returns-then-tag_of-octet c = record {
  known = subst IsSlot c.in-Optional.is (slot_known c.fields_at-fields.result.now c.fields.at _ c.fields_at-fields.ensures.known c.fields-test.true);
  leads = c.requires;
  is = c.fields.invariant ∙ picks_optional c.args.octet c.fields_at-fields.result.now _ c.fields.at _ c.in-Optional.node c.fields-test.true c.in-Optional.is (fields_left c.fields_at-fields.result.now c.args.sequence (c.fields.at + 1) c.fields_at-fields.ensures.fields) (sym c.tag_of.ensures ∙ c.if-tag_of-octet.true);
}

pub fields-preserved : goal.fields-preserved
fields-preserved c = c.fields.invariant ∙ passes_optional c.args.octet c.fields_at-fields.result.now c.fields.at _ c.in-Optional.node c.fields-test.true c.in-Optional.is (λ e. c.if-tag_of-octet.false (c.tag_of.ensures ∙ e))

pub returns : goal.returns
returns c = c.fields.invariant ∙ ap (λ fields. pick c.args.octet (Listed fields)) (slots_end c.fields_at-fields.result.now c.fields.at (omega (arith, c.fields-test.false)))
