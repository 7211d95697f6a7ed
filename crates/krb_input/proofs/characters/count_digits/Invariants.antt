use Rattle.std.proofs.Common.{◌≡◌, ◌+◌, length}
use Rattle.krb_input.specs.Characters.{count_digits}
use Rattle.krb_input.proofs.characters.count_digits.Given as goal

abbrev pub invariant-loop-rest : goal.invariant-loop-rest
invariant-loop-rest l = (count_digits l.fn.text ≡ l.count + count_digits l.rest) × (length l.fn.text ≡ l.count + length l.rest)

abbrev pub decreases-loop-rest : goal.decreases-loop-rest
decreases-loop-rest l = length l.rest
