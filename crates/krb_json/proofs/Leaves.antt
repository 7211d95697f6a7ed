-- Each scalar is spelled by its JSON.
use Rattle.std.proofs.Common.{◌≡◌, ℕ, ℤ, pos, negsuc, zero, suc, ◌+◌, ◌-◌, ◌*◌, ◌/◌, ◌%◌, ◌^◌, ◌<◌, ◌≤◌, true, false, ◌&&◌, ◌||◌, ◌==◌, not, Bool, if◌then◌else◌, List, [], ◌∷◌, ◌++◌, length, slice_index, Some, option_map, Ok, codes, decimal, refl, sym, ◌∙◌, ap, arith}
use Rattle.std.specs.Prelude.{◌≤ℤ◌, nat_le, nat_lt}
use Rattle.std.proofs.lemmas.Bool.{true≢false, le-leb, and_parts, ne_eqb, le-ltb}
use Rattle.std.proofs.lemmas.Int.{ints}
use Rattle.std.specs.List.{list_any, AllByRecursion}
use Rattle.std.specs.Fmt.{signed_decimal}
use Rattle.std.specs.Str.Parse.{AllDigits, digits_value, signed_digits_value}
use Rattle.std.proofs.lemmas.Fmt.{decimal_is_IsNumeral}
use Rattle.std.proofs.lemmas.Str.Parse.{digit_from_value}
use lib.Signed.{mag}
use Rattle.hex.specs.Hex.{encode_lower, encode_with, lower_digits, IsBytes}
use Rattle.hex.proofs.HexLemmas.{decode_of-encode_lower, IsDigits-lower_digits}
use Rattle.json.specs.Json.{number, string}
use Rattle.krb_der.specs.Octets.{AreOctets, AreBits}
use Rattle.krb_der.specs.Scalars.{IsTimeFrom}
use Rattle.krb_msg.proofs.Integers.{int_le-from}
use Rattle.krb_judge.specs.Paths.{field_path}
use Rattle.krb_json.specs.Spelling.{shown, octet_of, unshown, is_time_from, is_integer, bit_count}
use Rattle.krb_json.specs.Objects.{bits_json}
use Rattle.krb_json.specs.Spelled.{number_spelled, integer_spelled, text_spelled, octets_spelled, time_spelled, bits_spelled, bits_from, decoded}

-- ---- numbers
no_mark : (ds : List ℕ) → AllDigits 10 ds → list_any (λ c. c == 0x2E || c == 0x65 || c == 0x45) ds ≡ false
no_mark [] digits = refl
no_mark (d ∷ ds) digits =
    let digit = digit_from_value d digits.0 in
    rw (ne_eqb d 0x2E (λ e. omega (arith, digit)), ne_eqb d 0x65 (λ e. omega (arith, digit)), ne_eqb d 0x45 (λ e. omega (arith, digit)), no_mark ds digits.1) refl

digits-value : (n : ℕ) → n < 2 ^ 64 → digits_value 10 (decimal n) ≡ n
digits-value n small = (decimal_is_IsNumeral n small).1

first-digit : (n : ℕ) → n < 2 ^ 64 → (slice_index (decimal n) 0 == 45 ≡ false) × (slice_index (decimal n) 0 == 43 ≡ false)
first-digit n small = of (decimal n) (decimal_is_IsNumeral n small).0.0 (decimal_is_IsNumeral n small).0.1
  where
    of : (ds : List ℕ) → 0 < length ds → AllDigits 10 ds → (slice_index ds 0 == 45 ≡ false) × (slice_index ds 0 == 43 ≡ false)
    of [] some digits = absurd (omega arith)
    of (d ∷ ds) some digits =
        let digit = digit_from_value d digits.0 in
        (ne_eqb d 45 (λ e. omega (arith, digit)), ne_eqb d 43 (λ e. omega (arith, digit)))

signed-value : (z : ℤ) → mag z < 2 ^ 63 → signed_digits_value 10 (signed_decimal z) ≡ z
signed-value (pos n) small =
    let first = first-digit n (omega arith) in
    rw (first.0, first.1) (ap pos (digits-value n (omega arith)))
signed-value (negsuc n) small = rw (digits-value (suc n) (omega arith)) refl

signed-integer : (z : ℤ) → mag z < 2 ^ 63 → is_integer (signed_decimal z) ≡ true
signed-integer (pos n) small = ap not (no_mark (decimal n) (decimal_is_IsNumeral n (omega arith)).0.1)
signed-integer (negsuc n) small = ap not (no_mark (decimal (suc n)) (decimal_is_IsNumeral (suc n) (omega arith)).0.1)

pub number-back : (low high : ℤ) (path : List ℕ) (z : ℤ) → mag z < 2 ^ 63 → low ≤ℤ z → z ≤ℤ high → number_spelled low high path (signed_decimal z) ≡ Ok z
number-back low high path z small above below =
    rw (signed-integer z small, signed-value z small, int_le-from low z above, int_le-from z high below) refl

-- ---- strings
-- the two digits of an octet
pub octet-back : (octet : ℕ) → octet < 256 → octet_of (slice_index lower_digits (octet / 16)) (slice_index lower_digits (octet % 16)) ≡ Some octet
octet-back octet small =
    let whole : 16 * (octet / 16) + octet % 16 ≡ octet = omega arith in
    rw (IsDigits-lower_digits (octet / 16) (omega arith), IsDigits-lower_digits (octet % 16) (omega arith)) (ap Some whole)

shown-one : (plain : Bool) (octet : ℕ) (rest : List ℕ) → octet < 256 → (plain ≡ true → octet == 0x5C ≡ false) → unshown ((if plain then octet ∷ [] else codes "\\x" ++ encode_lower (octet ∷ [])) ++ rest) ≡ option_map (λ octets. octet ∷ octets) (unshown rest)
unfolding encode_with
shown-one true octet rest small other = rw (other refl) refl
shown-one false octet rest small other = rw (octet-back octet small) refl

plain-other : (octet : ℕ) → (nat_le 0x20 octet && nat_le octet 0x7E && not (octet == 0x5C)) ≡ true → octet == 0x5C ≡ false
plain-other octet plain = not_true _ (and_parts (nat_le 0x20 octet && nat_le octet 0x7E) _ plain).1
  where
    not_true : (b : Bool) → not b ≡ true → b ≡ false
    not_true true is = absurd (true≢false (sym is))
    not_true false is = refl

pub unshown-shown : (octets : List ℕ) → AreOctets octets → unshown (shown octets) ≡ Some octets
unshown-shown [] are = refl
unshown-shown (octet ∷ octets) are =
    shown-one (nat_le 0x20 octet && nat_le octet 0x7E && not (octet == 0x5C)) octet (shown octets) are.0 (plain-other octet)
    ∙ ap (option_map (λ others. octet ∷ others)) (unshown-shown octets are.1)

none-above : (greatest : ℕ) (octets : List ℕ) → AllByRecursion (λ octet. octet ≤ greatest) octets → list_any (λ octet. nat_lt greatest octet) octets ≡ false
none-above greatest [] within = refl
none-above greatest (octet ∷ octets) within = rw (le-ltb greatest octet within.0, none-above greatest octets within.1) refl

pub text-back : (greatest : ℕ) (path : List ℕ) (octets : List ℕ) → AreOctets octets → AllByRecursion (λ octet. octet ≤ greatest) octets → text_spelled greatest path (string (shown octets)) ≡ Ok octets
text-back greatest path octets are within = rw (unshown-shown octets are, none-above greatest octets within) refl

-- ---- octets
pub bytes-of : (octets : List ℕ) → AreOctets octets → IsBytes octets
bytes-of [] are i = omega arith
bytes-of (octet ∷ octets) are zero = are.0
bytes-of (octet ∷ octets) are (suc i) = bytes-of octets are.1 i

pub octets-back : (path : List ℕ) (octets : List ℕ) → AreOctets octets → octets_spelled path (string (encode_lower octets)) ≡ Ok octets
octets-back path octets are = ap (decoded path) (decode_of-encode_lower octets (bytes-of octets are))

-- ---- times
pub is-time : (digits : ℕ) (octets : List ℕ) → IsTimeFrom digits octets → is_time_from digits octets ≡ true
is-time zero [] are = absurd are
is-time zero (last ∷ []) are = rw are refl
is-time zero (last ∷ next ∷ octets) are = absurd are
is-time (suc digits) [] are = absurd are
is-time (suc digits) (digit ∷ octets) are = rw (le-leb 48 digit are.0, le-leb digit 57 are.1, is-time digits octets are.2) refl

pub time-back : (path : List ℕ) (octets : List ℕ) → IsTimeFrom 14 octets → time_spelled path (string octets) ≡ Ok octets
time-back path octets are = rw (is-time 14 octets are) refl

-- ---- flags
-- unused bits of octets are no more than their bits
pub few-unused : (unused : ℕ) (octets : List ℕ) → AreBits unused octets → unused ≤ 8 * length octets
few-unused unused [] are = omega (arith, are.none_unused refl)
few-unused unused (octet ∷ octets) are = omega (arith, are.few)

pub bits-from-back : (least : ℕ) (path : List ℕ) (bits : ℕ × List ℕ) → AreBits bits.0 bits.1 → least + bits.0 ≤ 8 * length bits.1 → bits_from least path bits.1 (bit_count bits) ≡ Ok bits
bits-from-back least path bits are enough =
    let unused : 8 * length bits.1 - (8 * length bits.1 - bits.0) ≡ bits.0 = omega (arith, few-unused bits.0 bits.1 are) in
    rw (unused, are.clear, le-ltb (8 * length bits.1 - bits.0) least (omega (arith, enough))) refl

pub bits-back : (least : ℕ) (path : List ℕ) (bits : ℕ × List ℕ) → AreBits bits.0 bits.1 → AreOctets bits.1 → least + bits.0 ≤ 8 * length bits.1 → length bits.1 < 2 ^ 31 → bits_spelled least path (bits_json bits) ≡ Ok bits
bits-back least path bits are octets enough short =
    let value : octets_spelled (field_path path (codes "value")) (string (encode_lower bits.1)) ≡ Ok bits.1 = octets-back (field_path path (codes "value")) bits.1 octets in
    let count : integer_spelled (pos (8 * length bits.1 - 7)) (pos (8 * length bits.1)) (field_path path (codes "length")) (number (decimal (bit_count bits))) ≡ Ok (pos (bit_count bits)) =
    number-back (pos (8 * length bits.1 - 7)) (pos (8 * length bits.1)) (field_path path (codes "length")) (pos (bit_count bits)) (omega arith) (omega (arith, ints, are.few)) (omega (arith, ints)) in
    rw (value, count) (bits-from-back least path bits are enough)
