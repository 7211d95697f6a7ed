-- Octets of hexadecimal digits.
use Rattle.std.proofs.Common.{◌≡◌, ℕ, ◌+◌, ◌*◌, ◌%◌, ◌==◌, Bool, true, false, List, [], ◌∷◌, length, map, Option, Some, None, Result, Ok, Err, refl, sym, ◌∙◌, ap, arith}
use Rattle.std.specs.Prelude.{if◌then◌else◌}
use Rattle.std.specs.List.{list_all}
use Rattle.std.proofs.lemmas.List.{length-map}
use Rattle.std.proofs.lemmas.List.Sums.{list_all-from_AllPass}
use Rattle.hex.specs.Hex.{decode_of, decode_pairs, hex_digit_value, is_hex_digit, pair_value}
use Rattle.hex.specs.declared.error.FromHexError.{FromHexError}
use Rattle.hex.specs.declared.error.FromHexError.TheVariants.{InvalidHexCharacter, OddLength}
use Rattle.hex.proofs.HexLemmas.{decode_of-ok}
use Rattle.hex.proofs.Pairs.{cons_byte, decode_pairs-err_pair, decode_pairs-ok_pair}
use Rattle.json.specs.Json.{string}
use Rattle.krb_json.specs.declared.wrong.Wrong.TheVariants.{NotHexadecimal}
use Rattle.krb_json.specs.Faults.{Fault, fault, ◌>>=◌}
use Rattle.krb_json.specs.Spelled.{decoded, octets_spelled}

-- the octet of two digits
pub pair-read : (high low h l i : ℕ) → hex_digit_value high ≡ Some h → hex_digit_value low ≡ Some l → pair_value high low i ≡ Ok (16 * h + l)
pair-read high low h l i first second =
    let same : h * 16 + l ≡ 16 * h + l = omega arith in
    rw (first, second) (ap Ok same)

-- what decodes is an even number of digits
pub even-digits : (text octets : List ℕ) → decode_of text ≡ Ok octets → (length text % 2 ≡ 0) × (list_all is_hex_digit text ≡ true)
even-digits text octets e =
    let d = decode_of-ok text octets e in
    (d.0, list_all-from_AllPass is_hex_digit text d.1)

-- ---- of either case
-- an octet of two digits before others
before : (path : List ℕ) (high low : Option ℕ) (others : Result (List ℕ) Fault) → Result (List ℕ) Fault
before path (Some h) (Some l) others = others >>= λ octets. Ok ((h * 16 + l) ∷ octets)
before path other another others = fault path NotHexadecimal

cons-decoded : (path : List ℕ) (octet : ℕ) (others : Result (List ℕ) FromHexError) → decoded path (cons_byte octet others) ≡ (decoded path others >>= λ octets. Ok (octet ∷ octets))
cons-decoded path octet (Ok octets) = refl
cons-decoded path octet (Err error) = refl

pair-decoded : (path : List ℕ) (i a b : ℕ) (text : List ℕ) (high low : Option ℕ) → hex_digit_value a ≡ high → hex_digit_value b ≡ low → decoded path (decode_pairs i (a ∷ b ∷ text)) ≡ before path high low (decoded path (decode_pairs (i + 2) text))
unfolding before
pair-decoded path i a b text None low first second =
    let e : pair_value a b i ≡ Err (InvalidHexCharacter a i) = rw first refl in
    ap (decoded path) (decode_pairs-err_pair i a b (InvalidHexCharacter a i) text e)
pair-decoded path i a b text (Some h) None first second =
    let e : pair_value a b i ≡ Err (InvalidHexCharacter b (i + 1)) = rw (first, second) refl in
    ap (decoded path) (decode_pairs-err_pair i a b (InvalidHexCharacter b (i + 1)) text e)
pair-decoded path i a b text (Some h) (Some l) first second =
    let e : pair_value a b i ≡ Ok (h * 16 + l) = rw (first, second) refl in
    ap (decoded path) (decode_pairs-ok_pair i a b (h * 16 + l) text e) ∙ cons-decoded path (h * 16 + l) (decode_pairs (i + 2) text)

first_of : List (Option ℕ) → Option ℕ
first_of [] = None
first_of (digit ∷ digits) = digit

rest_of : List (Option ℕ) → List (Option ℕ)
rest_of [] = []
rest_of (digit ∷ digits) = digits

pairs-same : (path : List ℕ) (i : ℕ) (text other : List ℕ) → map hex_digit_value text ≡ map hex_digit_value other → decoded path (decode_pairs i text) ≡ decoded path (decode_pairs i other)
unfolding decode_pairs first_of rest_of
pairs-same path i [] [] e = refl
pairs-same path i [] (b ∷ other) e = cc e
pairs-same path i (a ∷ []) [] e = cc e
pairs-same path i (a ∷ []) (b ∷ []) e = refl
pairs-same path i (a ∷ []) (b ∷ d ∷ other) e = let never : [] ≡ hex_digit_value d ∷ map hex_digit_value other = ap rest_of e in cc never
pairs-same path i (a ∷ c ∷ text) [] e = cc e
pairs-same path i (a ∷ c ∷ text) (b ∷ []) e = let never : hex_digit_value c ∷ map hex_digit_value text ≡ [] = ap rest_of e in cc never
pairs-same path i (a ∷ c ∷ text) (b ∷ d ∷ other) e =
    let high : hex_digit_value a ≡ hex_digit_value b = ap first_of e in
    let low : hex_digit_value c ≡ hex_digit_value d = ap (λ l. first_of (rest_of l)) e in
    let rest : map hex_digit_value text ≡ map hex_digit_value other = ap (λ l. rest_of (rest_of l)) e in
    pair-decoded path i a c text (hex_digit_value b) (hex_digit_value d) high low
    ∙ ap (before path (hex_digit_value b) (hex_digit_value d)) (pairs-same path (i + 2) text other rest)
    ∙ sym (pair-decoded path i b d other (hex_digit_value b) (hex_digit_value d) refl refl)

pub case-same : (path text other : List ℕ) → map hex_digit_value text ≡ map hex_digit_value other → octets_spelled path (string text) ≡ octets_spelled path (string other)
case-same path text other e =
    let size : length text ≡ length other = sym (length-map text hex_digit_value) ∙ ap length e ∙ length-map other hex_digit_value in
    ap (λ n. decoded path (if n % 2 == 1 then Err OddLength else decode_pairs 0 text)) size ∙ by (length other % 2 == 1)
  where
    by : (odd : Bool) → decoded path (if odd then Err OddLength else decode_pairs 0 text) ≡ decoded path (if odd then Err OddLength else decode_pairs 0 other)
    by true = refl
    by false = pairs-same path 0 text other e
