use Rattle.std.proofs.Common.{◌∙◌, sym, map}
use Rattle.std.specs.Str.{bytes_eq}
use Rattle.krb_fields.specs.Fields.{field_of}
use Rattle.krb_fields.specs.Names.{is_among, member_names}
use Rattle.krb_fields.proofs.Anys.{any_flat_map, any_map, known_at, known_none}
use Rattle.krb_fields.proofs.found.member_of.Goals as goal

pub returns-in-Some-clause-known : goal.returns-in-Some-clause-known
returns-in-Some-clause-known c =
    known_at (λ field. is_among c.args.word.now (member_names (field_of field))) c.args.fields.now c.loop-field.field-index _ c.loop-field-test.true (sym c.in-Some.ensures.known)
    ∙ sym (any_flat_map (bytes_eq c.args.word.now) member_names (map field_of c.args.fields.now) ∙ any_map (λ field. is_among c.args.word.now (member_names field)) field_of c.args.fields.now)

pub returns-clause-known : goal.returns-clause-known
returns-clause-known c =
    known_none (λ field. is_among c.args.word.now (member_names (field_of field))) c.args.fields.now c.loop-field.field-index c.loop-field-test.false c.loop-field.invariant
    ∙ sym (any_flat_map (bytes_eq c.args.word.now) member_names (map field_of c.args.fields.now) ∙ any_map (λ field. is_among c.args.word.now (member_names field)) field_of c.args.fields.now)
