use Rattle.std.proofs.Common.{◌≡◌, take}
use Rattle.std.specs.List.{list_any}
use Rattle.krb_fields.specs.Names.{is_inside}
use Rattle.krb_fields.proofs.having.has_inside.Given as goal

-- the fields so far
abbrev pub invariant-loop-field : goal.invariant-loop-field
invariant-loop-field l = l.found ≡ list_any (λ field. is_inside field.value) (take l.field-index l.field-items)
