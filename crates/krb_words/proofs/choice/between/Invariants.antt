use Rattle.std.proofs.Common.{◌≡◌, map, take}
use Rattle.std.specs.List.{filter}
use Rattle.krb_words.specs.Chosen.{is_between}
use Rattle.krb_words.proofs.choice.between.Given as goal

-- those of the kinds so far
abbrev pub invariant-loop-kind : goal.invariant-loop-kind
invariant-loop-kind l = map (λ kind. kind.now) l.others.items ≡ filter is_between (map (λ kind. kind.now) (take l.kind-index l.kind-items))
