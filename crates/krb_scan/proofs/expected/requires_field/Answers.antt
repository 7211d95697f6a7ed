use Rattle.std.proofs.Common.{sym, ap, ◌∙◌, arith}
use Rattle.krb_scan.specs.inner.Machine.{requires_field}
use Rattle.krb_scan.proofs.Choices.{fields_left, required_here, optional_here, slots_end}
use Rattle.krb_scan.proofs.expected.requires_field.Goals as goal

pub fields-init : goal.fields-init
fields-init c = ap requires_field (fields_left c.fields_at-fields.result.now c.args.sequence c.args.from c.fields_at-fields.ensures.fields)

pub returns-in-Required : goal.returns-in-Required
returns-in-Required c = sym (c.fields.invariant ∙ required_here c.fields_at-fields.result.now c.fields.at _ c.in-Required.node c.fields-test.true c.in-Required.is)

pub fields-preserved : goal.fields-preserved
fields-preserved c = c.fields.invariant ∙ optional_here c.fields_at-fields.result.now c.fields.at _ c.in_default.field-0 c.fields-test.true c.in_default.is

pub returns : goal.returns
returns c = sym (c.fields.invariant ∙ ap requires_field (slots_end c.fields_at-fields.result.now c.fields.at (omega (arith, c.fields-test.false))))
