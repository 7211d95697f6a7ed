use Rattle.std.proofs.Common.{◌≡◌, length}
use Rattle.krb_input.specs.Octets.{first_no_text}
use Rattle.krb_input.proofs.octets.first_no_text.Given as goal

abbrev pub invariant-loop-rest : goal.invariant-loop-rest
invariant-loop-rest l = first_no_text l.fn.text ≡ first_no_text l.rest

abbrev pub decreases-loop-rest : goal.decreases-loop-rest
decreases-loop-rest l = length l.rest
