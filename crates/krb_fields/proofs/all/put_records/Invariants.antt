use Rattle.std.proofs.Common.{◌≡◌, ◌++◌, [], map, string_bytes, take}
use Rattle.std.specs.List.{flat_map}
use Rattle.krb_fields.specs.Fields.{shape_of}
use Rattle.krb_fields.specs.Names.{shape_names, with_all}
use Rattle.krb_fields.proofs.all.put_records.Given as goal

-- the names of the shapes so far are there
abbrev pub invariant-loop-shape : goal.invariant-loop-shape
invariant-loop-shape l = map string_bytes l.names.items ≡ with_all (map string_bytes l.initial.names.items) (flat_map (λ s. map (λ name. [] ++ name) (shape_names (shape_of s))) (take l.shape-index l.shape-items))
