use Rattle.std.proofs.Common.{◌≡◌, length}
use Rattle.krb_input.specs.Comments.{unclosed, unclosed_from}
use Rattle.krb_input.proofs.text.unclosed.Given as goal

abbrev pub invariant-loop-rest : goal.invariant-loop-rest
invariant-loop-rest l = unclosed l.fn.text ≡ unclosed_from l.comments l.opened l.rest

abbrev pub decreases-loop-rest : goal.decreases-loop-rest
decreases-loop-rest l = length l.rest
