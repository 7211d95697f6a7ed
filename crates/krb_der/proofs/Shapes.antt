-- The shapes of times and of bit strings.
use Rattle.std.proofs.Common.{◌≡◌, ℕ, zero, suc, ◌+◌, ◌-◌, ◌*◌, ◌/◌, ◌%◌, ◌^◌, ◌<◌, ◌≤◌, nat_eq, bit_and, true, false, List, [], ◌∷◌, length, take, get_or, refl, sym, ap, ◌∙◌, arith}
use Rattle.std.proofs.Math.Pow.{mod-mod-pow}
use Rattle.std.proofs.lemmas.Grind.{common_steps}
use Rattle.std.proofs.lemmas.Nat.{mod-pow-add, pow_pos}
use Rattle.std.proofs.lemmas.Nat.Bits.{shr_and_one}
use Rattle.std.proofs.lemmas.Bool.Decides.{nat_tests}
use Rattle.std.specs.Char.{is_ascii_digit}
use Rattle.std.specs.List.{list_all}
use Rattle.krb_der.specs.Octets.{AreBits, last_or_zero}
use Rattle.krb_der.specs.Scalars.{IsTimeFrom}

-- ---- times
pub ascii-from_time : (n : ℕ) (octets : List ℕ) → IsTimeFrom n octets → (i : ℕ) → get_or octets i 0 < 128
ascii-from_time zero [] t i = absurd t
ascii-from_time zero (last ∷ []) t zero = omega (arith, t)
ascii-from_time zero (last ∷ []) t (suc i) = omega arith
ascii-from_time zero (last ∷ more ∷ octets) t i = absurd t
ascii-from_time (suc n) [] t i = absurd t
ascii-from_time (suc n) (digit ∷ octets) t zero = omega (arith, t.1)
ascii-from_time (suc n) (digit ∷ octets) t (suc i) = ascii-from_time n octets t.2 i

pub length-time : (n : ℕ) (octets : List ℕ) → IsTimeFrom n octets → n + 1 ≡ length octets
length-time zero [] t = absurd t
length-time zero (last ∷ []) t = refl
length-time zero (last ∷ more ∷ octets) t = absurd t
length-time (suc n) [] t = absurd t
length-time (suc n) (digit ∷ octets) t = omega (arith, length-time n octets t.2)

pub is-time : (n : ℕ) (octets : List ℕ) → length octets ≡ suc n → list_all is_ascii_digit (take n octets) ≡ true → get_or octets n 0 ≡ 90 → IsTimeFrom n octets
is-time zero [] l d z = absurd (omega (arith, l))
is-time zero (last ∷ []) l d z = z
is-time zero (last ∷ more ∷ octets) l d z = absurd (omega (arith, l))
is-time (suc n) [] l d z = absurd (omega (arith, l))
is-time (suc n) (digit ∷ octets) l d z =
    let first : (48 ≤ digit) × (digit ≤ 57) = grind (arith, nat_tests, d) in
    (first.0, first.1, is-time n octets (omega (arith, l)) (grind (arith, nat_tests, d)) z)

pub time-is : (n : ℕ) (octets : List ℕ) → IsTimeFrom n octets → (list_all is_ascii_digit (take n octets) ≡ true) × (get_or octets n 0 ≡ 90)
time-is zero [] t = absurd t
time-is zero (last ∷ []) t = (refl, t)
time-is zero (last ∷ more ∷ octets) t = absurd t
time-is (suc n) [] t = absurd t
time-is (suc n) (digit ∷ octets) t =
    let rest : (list_all is_ascii_digit (take n octets) ≡ true) × (get_or octets n 0 ≡ 90) = time-is n octets t.2 in
    (grind (arith, nat_tests, t.0, t.1, rest.0), rest.1)

-- ---- bit strings
pub last_octet : (octets : List ℕ) → 0 < length octets → get_or octets (length octets - 1) 0 ≡ last_or_zero octets
last_octet [] h = absurd (omega arith)
last_octet (octet ∷ []) h = refl
last_octet (octet ∷ next ∷ octets) h =
    let e : length (octet ∷ next ∷ octets) - 1 ≡ suc (length (next ∷ octets) - 1) = omega arith in
    rw e (last_octet (next ∷ octets) (omega arith))

-- the bits below a power of two that divides a number are clear
clear_bit : (n above k : ℕ) → n % 2 ^ ((above + 1) + k) ≡ 0 → n / 2 ^ k % 2 ≡ 0
clear_bit n above k h =
    let p : n / 2 ^ k % 2 ^ (above + 1) * 2 ^ k ≡ 0 = omega (arith, mod-pow-add n (above + 1) k, h) in
    let q : n / 2 ^ k % 2 ^ (above + 1) ≡ 0 = grind (arith, common_steps, p, pow_pos k) in
    sym (mod-mod-pow (n / 2 ^ k) above 1) ∙ ap (λ m. m % 2) q

pub missing_bit : (unused : ℕ) (octets : List ℕ) (index : ℕ) → AreBits unused octets → 8 * length octets - unused ≤ index → index / 8 < length octets → get_or octets (index / 8) 0 / 2 ^ (7 - index % 8) % 2 ≡ 0
missing_bit unused octets index b m h =
    let last : index / 8 ≡ length octets - 1 = omega (arith, b.few) in
    let width : unused ≡ (unused - (7 - index % 8) - 1 + 1) + (7 - index % 8) = omega (arith, b.few) in
    let clear : get_or octets (index / 8) 0 % 2 ^ ((unused - (7 - index % 8) - 1 + 1) + (7 - index % 8)) ≡ 0 = rw (← width, last, last_octet octets (omega arith)) b.clear in
    clear_bit (get_or octets (index / 8) 0) (unused - (7 - index % 8) - 1) (7 - index % 8) clear

-- the code's test of such a bit
pub missing_bit-test : (unused : ℕ) (octets : List ℕ) (index octet : ℕ) → AreBits unused octets → 8 * length octets - unused ≤ index → index / 8 < length octets → octet ≡ get_or octets (index / 8) 0 → nat_eq (bit_and (octet / 2 ^ (7 - index % 8)) 1) 1 ≡ false
missing_bit-test unused octets index octet b m h e =
    ap (λ n. nat_eq n 1) (shr_and_one octet (7 - index % 8) ∙ ap (λ n. n / 2 ^ (7 - index % 8) % 2) e ∙ missing_bit unused octets index b m h)
