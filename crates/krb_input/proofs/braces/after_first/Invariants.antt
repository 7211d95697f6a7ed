use Rattle.std.proofs.Common.{◌≡◌, length}
use Rattle.krb_input.specs.Braces.{after_first}
use Rattle.krb_input.proofs.braces.after_first.Given as goal

abbrev pub invariant-loop-rest : goal.invariant-loop-rest
invariant-loop-rest l = after_first l.fn.octet l.fn.text ≡ after_first l.fn.octet l.rest

abbrev pub decreases-loop-rest : goal.decreases-loop-rest
decreases-loop-rest l = length l.rest
