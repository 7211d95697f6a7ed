-- An octet of a list, or 0 after the last.
use Rattle.std.proofs.Common.{◌≡◌, ℕ, zero, suc, ◌-◌, ◌≤◌, ◌==◌, false, List, [], ◌∷◌, length, get_or, refl, arith}
use Rattle.std.proofs.lemmas.Bool.Decides.{nat_tests}
use Rattle.krb_record.specs.Forms.{octet_at}

not_zero : (k : ℕ) → (suc k == 0) ≡ false
not_zero k = grind (arith, nat_tests)

one_less : (k : ℕ) → suc k - 1 ≡ k
one_less k = omega arith

pub octet_after : (octets : List ℕ) (k : ℕ) → length octets ≤ k → octet_at octets k ≡ 0
octet_after [] k h = refl
octet_after (octet ∷ octets) zero h = absurd (omega arith)
octet_after (octet ∷ octets) (suc k) h = rw (not_zero k, one_less k) (octet_after octets k (omega arith))

pub octet_is : (octets : List ℕ) (k : ℕ) → octet_at octets k ≡ get_or octets k 0
octet_is (octet ∷ octets) (suc k) = rw (not_zero k, one_less k) (octet_is octets k)
octet_is other another = refl
