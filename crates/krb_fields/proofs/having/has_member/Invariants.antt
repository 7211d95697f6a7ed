use Rattle.std.proofs.Common.{◌≡◌, ◌&&◌, take}
use Rattle.std.specs.List.{list_any}
use Rattle.std.specs.Str.{bytes_eq}
use Rattle.krb_fields.specs.Names.{is_among}
use Rattle.krb_fields.specs.Table.{endings}
use Rattle.krb_fields.proofs.having.has_member.Given as goal

-- the fields so far
abbrev pub invariant-loop-field : goal.invariant-loop-field
invariant-loop-field l = l.found ≡ list_any (λ field. bytes_eq field.name.now l.name.field.now && is_among l.name.ending.now (endings field.value)) (take l.field-index l.fields)
