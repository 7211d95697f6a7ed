use Rattle.std.proofs.Common.{◌≡◌, ◌^◌, ◌<◌, drop}
use Rattle.krb_der.specs.Octets.{number, number_from, complement}
use Rattle.krb_der.proofs.number.number_of_complement.Given as goal

abbrev pub invariant-loop-octet : goal.invariant-loop-octet
invariant-loop-octet l = (number (complement l.octets) ≡ number_from l.number (complement (drop l.octet-index l.octets))) × (l.number < 256 ^ l.octet-index)
