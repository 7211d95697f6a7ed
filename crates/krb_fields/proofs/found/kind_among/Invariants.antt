use Rattle.std.proofs.Common.{◌≡◌, false, take}
use Rattle.std.specs.List.{list_any}
use Rattle.std.specs.Str.{bytes_eq}
use Rattle.krb_fields.proofs.found.kind_among.Given as goal

-- the word is none of the kinds so far
abbrev pub invariant-loop-shape : goal.invariant-loop-shape
invariant-loop-shape l = list_any (λ s. bytes_eq l.word s.kind.now) (take l.shape-index l.shapes) ≡ false
