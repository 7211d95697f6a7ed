use Rattle.std.proofs.Common.{◌≡◌, false, take}
use Rattle.std.specs.List.{list_any}
use Rattle.krb_fields.specs.Fields.{field_of}
use Rattle.krb_fields.specs.Names.{is_among, member_names}
use Rattle.krb_fields.proofs.found.member_of.Given as goal

-- the word names no member of the fields so far
abbrev pub invariant-loop-field : goal.invariant-loop-field
invariant-loop-field l = list_any (λ field. is_among l.word (member_names (field_of field))) (take l.field-index l.fields) ≡ false
