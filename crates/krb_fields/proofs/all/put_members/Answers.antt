use Rattle.std.proofs.Common.{◌∙◌, ◌++◌, ap, map, string_bytes, sym}
use Rattle.std.proofs.lemmas.List.Folds.{flat_map-map}
use Rattle.std.specs.List.{flat_map}
use Rattle.krb_fields.specs.Fields.{field_of}
use Rattle.krb_fields.specs.Names.{member_names, with_all, within_text}
use Rattle.krb_fields.proofs.Once.{all_seen, before_each, step_of}
use Rattle.krb_fields.proofs.all.put_members.Goals as goal

pub loop-field-preserved : goal.loop-field-preserved
loop-field-preserved c =
    step_of (map string_bytes c.put_member.new.names.items) (map string_bytes c.loop-field.names.items) (map string_bytes c.args.names.now.items) (λ field. map (λ name. within_text c.args.within ++ name) (member_names (field_of field))) c.args.fields.now c.loop-field.field-index _ c.loop-field-test.true c.loop-field.invariant c.in_ok-put_member.ensures

pub returns : goal.returns
returns c =
    all_seen (map string_bytes c.loop-field.names.items) (map string_bytes c.args.names.now.items) (flat_map (λ field. map (λ name. within_text c.args.within ++ name) (member_names (field_of field)))) c.args.fields.now c.loop-field.field-index c.loop-field-test.false c.loop-field.invariant
    ∙ ap (with_all (map string_bytes c.args.names.now.items)) (
    before_each (within_text c.args.within) (λ field. member_names (field_of field)) c.args.fields.now
    ∙ ap (map (λ name. within_text c.args.within ++ name)) (sym (flat_map-map member_names field_of c.args.fields.now)))
