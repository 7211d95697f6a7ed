use Rattle.std.proofs.Common.{◌≡◌, length}
use Rattle.krb_input.specs.Characters.{skip_blanks}
use Rattle.krb_input.proofs.characters.skip_blanks.Given as goal

abbrev pub invariant-loop-rest : goal.invariant-loop-rest
invariant-loop-rest l = skip_blanks l.fn.text ≡ skip_blanks l.rest

abbrev pub decreases-loop-rest : goal.decreases-loop-rest
decreases-loop-rest l = length l.rest
