-- The two digits of an octet.
use Rattle.std.proofs.Common.{ℕ, suc, ◌+◌, ◌*◌, ◌/◌, ◌%◌, ◌==◌, ◌≡◌, ◌<◌, true, false, List, [], ◌∷◌, ◌++◌, length, slice_index, Option, Some, refl, ap, ◌∙◌, arith}
use Rattle.std.proofs.lemmas.Bool.Decides.{nat_tests}
use Rattle.std.specs.Option.{option_map, option_and_then, is_some}
use Rattle.base64.specs.Tables.{is_printable}
use Rattle.hex.specs.Hex.{encode_lower, encode_with, hex_digit_value, is_hex_digit, lower_digits}
use Rattle.hex.proofs.HexLemmas.{IsDigits-lower_digits}
use Rattle.krb_der.specs.Octets.{AreOctets, number_from, when}
use Rattle.krb_input.specs.Characters.{count_digits, is_blank, is_x, octet_of}
use Rattle.krb_input.specs.Dumps.{digit_below, is_bar, number_from as number_of_digits}

-- the digit of a number
abbrev pub digit_of : ℕ → ℕ
digit_of number = slice_index lower_digits number

digit_value : (number : ℕ) → number < 16 → hex_digit_value (digit_of number) ≡ Some number
digit_value number small = IsDigits-lower_digits number small

is_digit : (number : ℕ) → number < 16 → is_hex_digit (digit_of number) ≡ true
is_digit number small = ap is_some (digit_value number small)

-- ---- what no digit is
pub digit_no_blank : (octet : ℕ) → is_hex_digit octet ≡ true → is_blank octet ≡ false
digit_no_blank octet is = grind (arith, nat_tests)

pub digit_no_colon : (octet : ℕ) → is_hex_digit octet ≡ true → (octet == 0x3A) ≡ false
digit_no_colon octet is = grind (arith, nat_tests)

pub digit_no_x : (octet : ℕ) → is_hex_digit octet ≡ true → is_x octet ≡ false
digit_no_x octet is = grind (arith, nat_tests)

pub digit_no_bar : (octet : ℕ) → is_hex_digit octet ≡ true → is_bar octet ≡ false
digit_no_bar octet is = grind (arith, nat_tests)

pub digit_printable : (octet : ℕ) → is_hex_digit octet ≡ true → is_printable octet ≡ true
digit_printable octet is = grind (arith, nat_tests)

-- ---- pairs
pub record IsPair (octet high low : ℕ) : Type 0 where
  pub spells : octet_of high low ≡ Some octet
  pub high_digit : is_hex_digit high ≡ true
  pub low_digit : is_hex_digit low ≡ true

pair_spells : (octet : ℕ) (high low : Option ℕ) → high ≡ Some (octet / 16) → low ≡ Some (octet % 16) → option_and_then (λ h. option_map (λ l. 16 * h + l) low) high ≡ Some octet
pair_spells octet high low is_high is_low =
    let whole : 16 * (octet / 16) + octet % 16 ≡ octet = omega arith in
    ap (λ o. option_and_then (λ h. option_map (λ l. 16 * h + l) low) o) is_high ∙ ap (option_map (λ l. 16 * (octet / 16) + l)) is_low ∙ ap Some whole

pub digits_pair : (octet : ℕ) → octet < 256 → IsPair octet (digit_of (octet / 16)) (digit_of (octet % 16))
digits_pair octet small =
    let high : octet / 16 < 16 = omega arith in
    let low : octet % 16 < 16 = omega arith in
    record {
      spells = pair_spells octet (hex_digit_value (digit_of (octet / 16))) (hex_digit_value (digit_of (octet % 16))) (digit_value (octet / 16) high) (digit_value (octet % 16) low);
      high_digit = is_digit (octet / 16) high;
      low_digit = is_digit (octet % 16) low;
    }

-- ---- digits in a row
count_digit : (first : ℕ) (text : List ℕ) → is_hex_digit first ≡ true → count_digits (first ∷ text) ≡ suc (count_digits text)
count_digit first text is = ap (λ b. when b (λ _. suc (count_digits text)) (λ _. 0)) is

count_pair : (octet high low : ℕ) (text : List ℕ) → IsPair octet high low → count_digits (high ∷ low ∷ text) ≡ suc (suc (count_digits text))
count_pair octet high low text is = count_digit high (low ∷ text) is.high_digit ∙ ap suc (count_digit low text is.low_digit)

pub count_encoded : (octets text : List ℕ) → AreOctets octets → count_digits text ≡ 0 → count_digits (encode_lower octets ++ text) ≡ length (encode_lower octets)
unfolding encode_with
count_encoded [] text are none = none
count_encoded (octet ∷ octets) text are none =
    count_pair octet (digit_of (octet / 16)) (digit_of (octet % 16)) (encode_lower octets ++ text) (digits_pair octet are.0)
    ∙ ap (λ n. suc (suc n)) (count_encoded octets text are.1 none)

-- ---- numbers
digit_fits : (value : ℕ) → value < 16 → digit_below 16 value ≡ Some value
digit_fits value small = grind (arith, nat_tests)

digit_read : (number value digit : ℕ) (text : List ℕ) → value < 16 → hex_digit_value digit ≡ Some value → number_of_digits 16 number (digit ∷ text) ≡ number_of_digits 16 (number * 16 + value) text
digit_read number value digit text small is =
    ap (λ v. option_and_then (λ value. number_of_digits 16 (number * 16 + value) text) (option_and_then (digit_below 16) v)) is
    ∙ ap (option_and_then (λ value. number_of_digits 16 (number * 16 + value) text)) (digit_fits value small)

-- the digits of octets spell the number that the octets do
pub number_encoded : (number : ℕ) (octets : List ℕ) → AreOctets octets → number_of_digits 16 number (encode_lower octets) ≡ Some (number_from number octets)
unfolding encode_with
number_encoded number [] are = refl
number_encoded number (octet ∷ octets) are =
    let small : octet < 256 = are.0 in
    let high : octet / 16 < 16 = omega arith in
    let low : octet % 16 < 16 = omega arith in
    let whole : (number * 16 + octet / 16) * 16 + octet % 16 ≡ number * 256 + octet = omega arith in
    digit_read number (octet / 16) (digit_of (octet / 16)) (digit_of (octet % 16) ∷ encode_lower octets) high (digit_value (octet / 16) high)
    ∙ digit_read (number * 16 + octet / 16) (octet % 16) (digit_of (octet % 16)) (encode_lower octets) low (digit_value (octet % 16) low)
    ∙ ap (λ n. number_of_digits 16 n (encode_lower octets)) whole
    ∙ number_encoded (number * 256 + octet) octets are.1
