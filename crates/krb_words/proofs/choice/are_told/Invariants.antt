use Rattle.std.proofs.Common.{◌≡◌, map, take, true}
use Rattle.std.specs.List.{list_all}
use Rattle.krb_words.specs.Chosen.{is_told}
use Rattle.krb_words.proofs.choice.are_told.Given as goal

-- all so far
abbrev pub invariant-loop-kind : goal.invariant-loop-kind
invariant-loop-kind l = list_all is_told (map (λ kind. kind.now) (take l.kind-index l.kinds)) ≡ true
