use Rattle.std.proofs.Common.{◌≡◌, ◌+◌, length}
use Rattle.krb_input.specs.Characters.{length_before}
use Rattle.krb_input.proofs.characters.length_before.Given as goal

abbrev pub invariant-loop-rest : goal.invariant-loop-rest
invariant-loop-rest l = (length_before l.fn.octet l.fn.text ≡ l.count + length_before l.fn.octet l.rest) × (length l.fn.text ≡ l.count + length l.rest)

abbrev pub decreases-loop-rest : goal.decreases-loop-rest
decreases-loop-rest l = length l.rest
