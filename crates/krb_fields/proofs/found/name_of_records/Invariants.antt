use Rattle.std.proofs.Common.{◌≡◌, false, take}
use Rattle.std.specs.List.{list_any}
use Rattle.krb_fields.specs.Fields.{shape_of}
use Rattle.krb_fields.specs.Names.{shape_names, is_among}
use Rattle.krb_fields.proofs.found.name_of_records.Given as goal

-- the word is no name of the shapes so far
abbrev pub invariant-loop-shape : goal.invariant-loop-shape
invariant-loop-shape l = list_any (λ s. is_among l.word (shape_names (shape_of s))) (take l.shape-index l.shape-items) ≡ false
