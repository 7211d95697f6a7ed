-- The numbers of an extended error are of 32 bits.
use Rattle.std.proofs.Common.{ℕ, zero, suc, ◌==◌, ◌<◌, ◌^◌, Bool, true, false, List, [], ◌∷◌, length, take, drop, Some, None, IfSome, if◌then◌else◌, arith}
use Rattle.std.specs.Int.{from_le_bytes, w32}
use Rattle.krb_der.specs.Octets.{AreOctets}
use Rattle.krb_padata.specs.ExtendedError.{kerb_ext_error_in, number_after}
use Rattle.krb_padata.specs.declared.kerb_ext_error.KerbExtError.{KerbExtError}

pub record IsOf32Bits (e : KerbExtError) : Type 0 where
  pub status : e.status < 2 ^ 32
  pub reserved : e.reserved < 2 ^ 32
  pub flags : e.flags < 2 ^ 32

-- ---- a number
first_four : (octets : List ℕ) → AreOctets octets → from_le_bytes w32 (take 4 octets) < 2 ^ 32
first_four [] h = omega arith
first_four (a ∷ []) h = omega (arith, h.0)
first_four (a ∷ b ∷ []) h = omega (arith, h.0, h.1.0)
first_four (a ∷ b ∷ c ∷ []) h = omega (arith, h.0, h.1.0, h.1.1.0)
first_four (a ∷ b ∷ c ∷ d ∷ rest) h = omega (arith, h.0, h.1.0, h.1.1.0, h.1.1.1.0)

others : (at : ℕ) (octets : List ℕ) → AreOctets octets → AreOctets (drop at octets)
others zero octets h = h
others (suc at) [] h = tt
others (suc at) (octet ∷ octets) h = others at octets h.1

small : (at : ℕ) (octets : List ℕ) → AreOctets octets → number_after at octets < 2 ^ 32
small at octets h = first_four (drop at octets) (others at octets h)

-- ---- all three
pub of_32_bits : (octets : List ℕ) → AreOctets octets → IfSome (kerb_ext_error_in octets) IsOf32Bits
of_32_bits octets h = by (length octets == 12)
  where
    by : (twelve : Bool) → IfSome (if twelve then Some (record { status = number_after 0 octets; reserved = number_after 4 octets; flags = number_after 8 octets }) else None) IsOf32Bits
    by true = record { status = small 0 octets h; reserved = small 4 octets h; flags = small 8 octets h }
    by false = tt
