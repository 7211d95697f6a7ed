-- The values of scalars and of lists fit their terms.
use Rattle.std.proofs.Common.{ℕ, pos, ◌+◌, ◌*◌, ◌≤◌, List, [], ◌∷◌, length, map, refl, arith}
use Rattle.std.specs.List.{AllByRecursion}
use Rattle.std.proofs.lemmas.Int.{ints}
use Rattle.krb_der.specs.Octets.{AreOctets, AreBits}
use Rattle.krb_der.specs.Scalars.{IsMicros}
use Rattle.krb_msg.specs.Term.{Term, Value, Fits}
use Rattle.krb_msg.specs.Grammar.{microseconds, kerberos_string, kerberos_flags, sequence_of}

pub micros_fit : (number : ℕ) → IsMicros number → Fits microseconds (pos number)
micros_fit number f = (omega (arith, ints), omega (arith, ints, f))

at_most_255 : (octets : List ℕ) → AreOctets octets → AllByRecursion (λ octet. octet ≤ 255) octets
at_most_255 [] f = tt
at_most_255 (octet ∷ octets) f = (omega (arith, f.0), at_most_255 octets f.1)

pub string_fits : (octets : List ℕ) → AreOctets octets → Fits kerberos_string octets
string_fits octets f = (f, at_most_255 octets f)

-- there are at least as many bits as are unused
unused_there : (unused : ℕ) (octets : List ℕ) → AreBits unused octets → 0 + unused ≤ 8 * length octets
unused_there unused [] f = omega (arith, f.none_unused refl)
unused_there unused (octet ∷ octets) f = omega (arith, f.few)

pub flags_fit : (bits : ℕ × List ℕ) → AreBits bits.0 bits.1 × AreOctets bits.1 → Fits kerberos_flags bits
flags_fit bits f = (f.0, f.1, unused_there bits.0 bits.1 f.0)

all_fit : {A : Type 0} (term : Term) (value : A → Value term) (xs : List A) → AllByRecursion (λ x. Fits term (value x)) xs → AllByRecursion (Fits term) (map value xs)
all_fit term value [] f = tt
all_fit term value (x ∷ xs) f = (f.0, all_fit term value xs f.1)

pub many_fit : {A : Type 0} (term : Term) (value : A → Value term) (xs : List A) → AllByRecursion (λ x. Fits term (value x)) xs → Fits (sequence_of term) (map value xs)
many_fit term value xs f = (refl, all_fit term value xs f)
