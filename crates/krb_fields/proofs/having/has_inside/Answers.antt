use Rattle.std.proofs.Common.{◌∙◌, sym}
use Rattle.krb_fields.specs.Fields.{field_of}
use Rattle.krb_fields.specs.Names.{is_inside}
use Rattle.krb_fields.proofs.Anys.{any_map, seen}
use Rattle.krb_fields.proofs.having.has_inside.Goals as goal

pub returns : goal.returns
returns c =
    seen (λ field. is_inside field.value) c.args.shape.now.fields.now c.loop-field.field-index c.loop-field.found c.loop-field-test.false c.loop-field.invariant
    ∙ sym (any_map (λ field. is_inside field.value) field_of c.args.shape.now.fields.now)
