use Rattle.std.proofs.Common.{◌≡◌, drop, map}
use Rattle.krb_choice.specs.Wanted.{with_kinds}
use Rattle.krb_choice.proofs.choice.with_kinds.Given as goal

-- with the kinds that follow it is that with all
abbrev pub invariant-loop-kind : goal.invariant-loop-kind
invariant-loop-kind l = with_kinds l.all l.by_kind (map (λ kind. kind.now) (drop l.kind-index l.kinds)) ≡ with_kinds l.fn.wanted l.by_kind (map (λ kind. kind.now) l.kinds)
