use Rattle.std.proofs.Common.{Bool, ◌∙◌, ◌&&◌, sym}
use Rattle.std.specs.Str.{bytes_eq}
use Rattle.krb_fields.specs.Fields.{Field, field_of}
use Rattle.krb_fields.specs.Names.{is_among}
use Rattle.krb_fields.specs.Table.{endings}
use Rattle.krb_fields.proofs.Anys.{any_map, seen}
use Rattle.krb_fields.proofs.having.has_member.Goals as goal

pub returns : goal.returns
returns c =
    let test : Field → Bool = λ field. bytes_eq field.name c.args.name.now.field.now && is_among c.args.name.now.ending.now (endings field.value) in
    seen (λ field. test (field_of field)) c.args.fields.now c.loop-field.field-index c.loop-field.found c.loop-field-test.false c.loop-field.invariant
    ∙ sym (any_map test field_of c.args.fields.now)
