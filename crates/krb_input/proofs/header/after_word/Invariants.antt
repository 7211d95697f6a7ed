use Rattle.std.proofs.Common.{◌≡◌, length}
use Rattle.krb_input.specs.Headers.{after_word}
use Rattle.krb_input.proofs.header.after_word.Given as goal

abbrev pub invariant-loop-letters : goal.invariant-loop-letters
invariant-loop-letters l = after_word l.fn.word l.fn.text ≡ after_word l.letters l.rest

abbrev pub decreases-loop-letters : goal.decreases-loop-letters
decreases-loop-letters l = length l.letters
