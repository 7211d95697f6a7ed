use Rattle.std.proofs.Common.{◌≡◌, take}
use Rattle.krb_input.specs.Digits.{are_digits}
use Rattle.krb_input.proofs.digits.are_fit.Given as goal

abbrev pub invariant-loop-octet : goal.invariant-loop-octet
invariant-loop-octet l = l.are ≡ are_digits (take l.octet-index l.text)
