use Rattle.std.proofs.Common.{◌≡◌, take}
use Rattle.std.specs.List.{fold}
use Rattle.krb_exchange.specs.Fingerprints.{fnv1a_step}
use Rattle.krb_exchange.proofs.fingerprint.Fingerprint.of.Given as goal

abbrev pub invariant-loop-octet : goal.invariant-loop-octet
invariant-loop-octet l = l.hash ≡ fold fnv1a_step 14695981039346656037 (take l.octet-index l.octets)
