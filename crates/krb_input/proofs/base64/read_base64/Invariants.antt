use Rattle.std.proofs.Common.{◌≡◌, length}
use Rattle.krb_input.specs.Base64.{base64, base64_from}
use Rattle.krb_input.specs.Readings.{prepend}
use Rattle.krb_input.specs.inner.Results.{AreBits}
use Rattle.krb_input.proofs.base64.read_base64.Given as goal

abbrev pub invariant-loop-rest : goal.invariant-loop-rest
invariant-loop-rest l = record { reads : base64 l.fn.text ≡ prepend l.octets.items (base64_from l.bits l.last l.rest); bits : AreBits l.bits }

abbrev pub decreases-loop-rest : goal.decreases-loop-rest
decreases-loop-rest l = length l.rest
