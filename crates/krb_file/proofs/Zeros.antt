-- Octets that are all 00.
use Rattle.std.proofs.Common.{◌≡◌, ℕ, zero, suc, length, refl, ap, arith}
use Rattle.krb_der.specs.Octets.{AreOctets}
use Rattle.krb_file.specs.Fields.{zeros}

pub length-zeros : (n : ℕ) → length (zeros n) ≡ n
length-zeros zero = refl
length-zeros (suc n) = ap suc (length-zeros n)

pub AreOctets-zeros : (n : ℕ) → AreOctets (zeros n)
AreOctets-zeros zero = tt
AreOctets-zeros (suc n) = (omega arith, AreOctets-zeros n)
