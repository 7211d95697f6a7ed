-- By what the octets of a request are known: how many they are, and their FNV-1a of 64 bits.
use Rattle.std.specs.Prelude.{ℕ, ◌≡◌, refl, ◌*◌, ◌%◌, ◌^◌, List, [], ◌∷◌, length, bit_xor}
use Rattle.std.specs.List.{fold}
use Rattle.krb_exchange.specs.declared.fingerprint.Fingerprint.{Fingerprint}

-- one more octet
abbrev pub fnv1a_step : ℕ → ℕ → ℕ
fnv1a_step hash octet = bit_xor hash octet * 1099511628211 % 2 ^ 64

abbrev pub fnv1a : List ℕ → ℕ
fnv1a octets = fold fnv1a_step 14695981039346656037 octets

fnv1a_of_61 : fnv1a (97 ∷ []) ≡ 12638187200555641996
fnv1a_of_61 = refl

abbrev pub fingerprint_of : List ℕ → Fingerprint
fingerprint_of octets = record { hash = fnv1a octets; length = length octets }
