use Rattle.std.proofs.Common.{◌≡◌, ◌++◌, map, string_bytes, take}
use Rattle.std.specs.List.{flat_map}
use Rattle.krb_fields.specs.Fields.{field_of}
use Rattle.krb_fields.specs.Names.{member_names, with_all, within_text}
use Rattle.krb_fields.proofs.all.put_members.Given as goal

-- the names of the fields so far are there
abbrev pub invariant-loop-field : goal.invariant-loop-field
invariant-loop-field l = map string_bytes l.names.items ≡ with_all (map string_bytes l.initial.names.items) (flat_map (λ field. map (λ name. within_text l.within ++ name) (member_names (field_of field))) (take l.field-index l.fields))
