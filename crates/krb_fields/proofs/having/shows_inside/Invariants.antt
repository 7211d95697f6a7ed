use Rattle.std.proofs.Common.{◌≡◌, take}
use Rattle.std.specs.List.{list_any}
use Rattle.krb_fields.specs.Fields.{shape_of}
use Rattle.krb_fields.specs.Names.{has_inside}
use Rattle.krb_fields.proofs.having.shows_inside.Given as goal

-- the shapes so far
abbrev pub invariant-loop-shape : goal.invariant-loop-shape
invariant-loop-shape l = l.found ≡ list_any (λ s. has_inside (shape_of s)) (take l.shape-index l.shape-items)
