use Rattle.std.proofs.Common.{◌≡◌, false, take}
use Rattle.std.specs.List.{list_any}
use Rattle.std.specs.Str.{bytes_eq}
use Rattle.krb_fields.proofs.found.ending_of.Given as goal

-- the text is none of the endings so far
abbrev pub invariant-loop-ending : goal.invariant-loop-ending
invariant-loop-ending l = list_any (λ ending. bytes_eq l.text ending.now) (take l.ending-index l.ending-items) ≡ false
