use Rattle.std.proofs.Common.{◌≡◌, length, false}
use Rattle.krb_input.specs.Tokens.{first_unfit}
use Rattle.krb_input.specs.Comments.{text_left}
use Rattle.krb_input.proofs.tokens.first_unfit.Given as goal

abbrev pub invariant-loop-octet : goal.invariant-loop-octet
invariant-loop-octet l = first_unfit false (text_left l.fn.text) ≡ first_unfit l.is_after_zero (text_left l.rest)

abbrev pub decreases-loop-octet : goal.decreases-loop-octet
decreases-loop-octet l = length (text_left l.rest)
