use Rattle.std.proofs.Common.{◌≡◌, ◌∷◌, [], map, take}
use Rattle.std.specs.List.{filter, flat_map, list_all}
use Rattle.krb_fields.specs.Fields.{shape_of}
use Rattle.krb_fields.specs.Names.{has, kind_text, with_all}
use Rattle.krb_fields.proofs.having.put_kinds.Given as goal

-- the kinds of the shapes so far
abbrev pub invariant-loop-shape : goal.invariant-loop-shape
invariant-loop-shape l = map (λ kind. kind.now) l.kinds.items ≡ with_all (map (λ kind. kind.now) l.initial.kinds.items) (flat_map (λ s. map kind_text (filter (λ s. list_all (has s) l.names) (shape_of s ∷ []))) (take l.shape-index l.shapes))
