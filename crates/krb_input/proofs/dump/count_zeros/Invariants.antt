use Rattle.std.proofs.Common.{◌≡◌, ◌+◌, length}
use Rattle.krb_input.specs.Dumps.{count_zeros}
use Rattle.krb_input.proofs.dump.count_zeros.Given as goal

abbrev pub invariant-loop-rest : goal.invariant-loop-rest
invariant-loop-rest l = (count_zeros l.fn.text ≡ l.count + count_zeros l.rest) × (length l.fn.text ≡ l.count + length l.rest)

abbrev pub decreases-loop-rest : goal.decreases-loop-rest
decreases-loop-rest l = length l.rest
