use Rattle.std.proofs.Common.{◌≡◌, map, string_bytes, take}
use Rattle.krb_fields.specs.Names.{with_all}
use Rattle.krb_fields.proofs.all.put_kinds.Given as goal

-- the kinds so far are there
abbrev pub invariant-loop-shape : goal.invariant-loop-shape
invariant-loop-shape l = map string_bytes l.kinds.items ≡ with_all (map string_bytes l.initial.kinds.items) (map (λ s. s.kind.now) (take l.shape-index l.shapes))
