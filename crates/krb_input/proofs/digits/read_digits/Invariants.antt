use Rattle.std.proofs.Common.{◌≡◌, length}
use Rattle.krb_input.specs.Digits.{digits}
use Rattle.krb_input.specs.Readings.{prepend}
use Rattle.krb_input.specs.inner.Results.{digits_on}
use Rattle.krb_input.proofs.digits.read_digits.Given as goal

abbrev pub invariant-loop-rest : goal.invariant-loop-rest
invariant-loop-rest l = digits l.fn.text ≡ prepend l.octets.items (digits_on l.high l.rest)

abbrev pub decreases-loop-rest : goal.decreases-loop-rest
decreases-loop-rest l = length l.rest
