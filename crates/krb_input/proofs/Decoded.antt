-- Hexadecimal with blanks anywhere, as it is decoded without them.
use Rattle.std.proofs.Common.{ℕ, suc, ◌+◌, ◌*◌, ◌==◌, ◌%◌, ◌≡◌, ◌&&◌, ◌||◌, if◌then◌else◌, Bool, true, false, List, [], ◌∷◌, ◌++◌, length, drop, Option, Some, None, Result, Ok, Err, refl, sym, ap, ◌∙◌, arith}
use Rattle.std.proofs.lemmas.Bool.Decides.{nat_tests}
use Rattle.std.specs.Option.{option_and_then, option_map, is_some}
use Rattle.hex.specs.Hex.{decode_pairs, digit_or_error, hex_digit_value, is_hex_digit, pair_value, ◌>>=◌}
use Rattle.hex.specs.declared.error.FromHexError.{FromHexError}
use Rattle.hex.specs.declared.error.FromHexError.TheVariants.{OddLength}
use Rattle.krb_der.specs.Octets.{when}
use Rattle.krb_input.specs.Characters.{is_blank, is_text, octet_of}
use Rattle.krb_input.specs.Readings.{Reading, prepend, then_octet}
use Rattle.krb_input.specs.Digits.{are_digits, digits, digits_after}
use Rattle.krb_input.specs.Octets.{first_no_text, is_marked, without_mark}
use Rattle.krb_input.specs.Inputs.{as_form, line_spelled, line_spelled_by, spelled_in_braces}
use Rattle.krb_input.specs.Braces.{after_first}
use Rattle.krb_input.specs.Laws.{without_blanks, DecodedLinesAreSpelled}
use Rattle.krb_source.specs.declared.spelling.Spelling.TheVariants as form
use Rattle.krb_input.proofs.Prepends.{prepend_none, prepend_twice}

pub record AreRead (text : List ℕ) (reading : Reading) (octets : List ℕ) : Type 0 where
  pub read : reading ≡ Ok octets
  pub all_digits : are_digits text ≡ true
  pub no_other : first_no_text text ≡ None

-- what is decoded of a text, and of a digit before it
pub record IsDecoded (text : List ℕ) : Type 0 where
  pub whole : (i : ℕ) (octets : List ℕ) → decode_pairs i (without_blanks text) ≡ Ok octets → AreRead text (digits text) octets
  pub half : (high i : ℕ) (octets : List ℕ) → decode_pairs i (high ∷ without_blanks text) ≡ Ok octets → (is_hex_digit high ≡ true) × AreRead text (digits_after high text) octets

blank_is_text : (octet : ℕ) → is_blank octet ≡ true → is_text octet ≡ true
blank_is_text octet is = grind (arith, nat_tests)

digit_is_text : (octet : ℕ) → is_hex_digit octet ≡ true → is_text octet ≡ true
digit_is_text octet is = grind (arith, nat_tests)

all_text : (octet : ℕ) (text : List ℕ) → is_text octet ≡ true → first_no_text text ≡ None → first_no_text (octet ∷ text) ≡ None
all_text octet text is others = ap (λ b. when b (λ _. first_no_text text) (λ _. Some (suc (length text)))) is ∙ others

or_true : (b : Bool) → (b || true) ≡ true
or_true true = refl
or_true false = refl

blank_digits : (octet : ℕ) (text : List ℕ) → is_blank octet ≡ true → are_digits text ≡ true → are_digits (octet ∷ text) ≡ true
blank_digits octet text is others = ap (λ b. (is_hex_digit octet || b) && are_digits text) is ∙ ap (λ b. b && are_digits text) (or_true (is_hex_digit octet)) ∙ others

digit_digits : (octet : ℕ) (text : List ℕ) → is_hex_digit octet ≡ true → are_digits text ≡ true → are_digits (octet ∷ text) ≡ true
digit_digits octet text is others = ap (λ b. (b || is_blank octet) && are_digits text) is ∙ others

-- a pair that is decoded, and a text
both_ok : (first : Result ℕ FromHexError) (rest : Result (List ℕ) FromHexError) (octets : List ℕ) → (first >>= λ byte. rest >>= λ bytes. Ok (byte ∷ bytes)) ≡ Ok octets →
    (byte : ℕ) × (bytes : List ℕ) × (first ≡ Ok byte) × (rest ≡ Ok bytes) × (byte ∷ bytes ≡ octets)
both_ok (Ok byte) (Ok bytes) octets is = (byte, bytes, refl, refl, cc)
both_ok other another octets is = absurd (cc)

pair_of : (high low i : ℕ) (h l : Option ℕ) (byte : ℕ) → (digit_or_error high i h >>= λ a. digit_or_error low (i + 1) l >>= λ b. Ok (a * 16 + b)) ≡ Ok byte →
    (option_and_then (λ a. option_map (λ b. 16 * a + b) l) h ≡ Some byte) × (is_some h ≡ true) × (is_some l ≡ true)
pair_of high low i (Some a) (Some b) byte is = let same : a * 16 + b ≡ byte = cc in (let e : 16 * a + b ≡ byte = omega (arith, same) in ap Some e, refl, refl)
pair_of high low i other another byte is = absurd (cc)

-- the octet of two digits
pub pair_read : (high low h l i : ℕ) → hex_digit_value high ≡ Some h → hex_digit_value low ≡ Some l → pair_value high low i ≡ Ok (16 * h + l)
pair_read high low h l i first second =
    let same : h * 16 + l ≡ 16 * h + l = omega arith in
    rw (first, second) (ap Ok same)

digit_no_blank : (octet : ℕ) → is_hex_digit octet ≡ true → is_blank octet ≡ false
digit_no_blank octet is = grind (arith, nat_tests)

-- digits that are decoded, before others
pub pairs_read : (i : ℕ) (pairs octets others : List ℕ) → decode_pairs i pairs ≡ Ok octets → digits (pairs ++ others) ≡ prepend octets (digits others)
unfolding decode_pairs
pairs_read i [] octets others is =
    let none : [] ≡ octets = cc in sym (prepend_none (digits others)) ∙ ap (λ o. prepend o (digits others)) none
pairs_read i (digit ∷ []) octets others is = absurd (cc)
pairs_read i (high ∷ low ∷ pairs) octets others is =
    let parts = both_ok (pair_value high low i) (decode_pairs (i + 2) pairs) octets is in
    let pair = pair_of high low i (hex_digit_value high) (hex_digit_value low) parts.0 parts.2 in
    let first : digits (high ∷ low ∷ pairs ++ others) ≡ digits_after high (low ∷ pairs ++ others) = rw (digit_no_blank high pair.1) refl in
    let second : digits_after high (low ∷ pairs ++ others) ≡ then_octet (octet_of high low) (suc (length (pairs ++ others))) (digits (pairs ++ others)) = rw (digit_no_blank low pair.2) refl in
    first ∙ second
    ∙ ap (λ o. then_octet o (suc (length (pairs ++ others))) (digits (pairs ++ others))) pair.0
    ∙ ap (λ r. prepend (parts.0 ∷ []) r) (pairs_read (i + 2) pairs parts.1 others parts.3)
    ∙ prepend_twice (parts.0 ∷ []) parts.1 (digits others)
    ∙ ap (λ o. prepend o (digits others)) parts.4

blank_before : (octet : ℕ) (text : List ℕ) → is_blank octet ≡ true → IsDecoded text → IsDecoded (octet ∷ text)
blank_before octet text is decoded = record {
  whole = λ i octets given.
      let kept : without_blanks (octet ∷ text) ≡ without_blanks text = rw is refl in
      let others = decoded.whole i octets (ap (decode_pairs i) (sym kept) ∙ given) in
      let same : digits (octet ∷ text) ≡ digits text = rw is refl in
      record { read = same ∙ others.read; all_digits = blank_digits octet text is others.all_digits; no_other = all_text octet text (blank_is_text octet is) others.no_other };
  half = λ high i octets given.
      let kept : without_blanks (octet ∷ text) ≡ without_blanks text = rw is refl in
      let others = decoded.half high i octets (ap (λ t. decode_pairs i (high ∷ t)) (sym kept) ∙ given) in
      let same : digits_after high (octet ∷ text) ≡ digits_after high text = rw is refl in
      (others.0, record { read = same ∙ others.1.read; all_digits = blank_digits octet text is others.1.all_digits; no_other = all_text octet text (blank_is_text octet is) others.1.no_other });
}

digit_before : (octet : ℕ) (text : List ℕ) → is_blank octet ≡ false → IsDecoded text → IsDecoded (octet ∷ text)
unfolding decode_pairs
digit_before octet text is decoded = record {
  whole = λ i octets given.
      let kept : without_blanks (octet ∷ text) ≡ octet ∷ without_blanks text = rw is refl in
      let others = decoded.half octet i octets (ap (decode_pairs i) (sym kept) ∙ given) in
      let same : digits (octet ∷ text) ≡ digits_after octet text = rw is refl in
      record { read = same ∙ others.1.read; all_digits = digit_digits octet text others.0 others.1.all_digits; no_other = all_text octet text (digit_is_text octet others.0) others.1.no_other };
  half = λ high i octets given.
      let kept : without_blanks (octet ∷ text) ≡ octet ∷ without_blanks text = rw is refl in
      let parts = both_ok (pair_value high octet i) (decode_pairs (i + 2) (without_blanks text)) octets (ap (λ t. decode_pairs i (high ∷ t)) (sym kept) ∙ given) in
      let pair = pair_of high octet i (hex_digit_value high) (hex_digit_value octet) parts.0 parts.2 in
      let others = decoded.whole (i + 2) parts.1 parts.3 in
      let same : digits_after high (octet ∷ text) ≡ then_octet (octet_of high octet) (suc (length text)) (digits text) = rw is refl in (
        pair.1,
        record {
          read = same ∙ ap (λ o. then_octet o (suc (length text)) (digits text)) pair.0 ∙ ap (λ r. prepend (parts.0 ∷ []) r) others.read ∙ ap Ok parts.4;
          all_digits = digit_digits octet text pair.2 others.all_digits;
          no_other = all_text octet text (digit_is_text octet pair.2) others.no_other;
        },
      );
}

octet_before : (octet : ℕ) (text : List ℕ) (blank : Bool) → is_blank octet ≡ blank → IsDecoded text → IsDecoded (octet ∷ text)
octet_before octet text true is decoded = blank_before octet text is decoded
octet_before octet text false is decoded = digit_before octet text is decoded

pub is_decoded : (text : List ℕ) → IsDecoded text
unfolding decode_pairs
is_decoded [] = record {
  whole = λ i octets given. record { read = cc; all_digits = refl; no_other = refl };
  half = λ high i octets given. absurd (cc);
}
is_decoded (octet ∷ text) = octet_before octet text (is_blank octet) refl (is_decoded text)

even_decoded : (text octets : List ℕ) (odd : Bool) → (if odd then Err OddLength else decode_pairs 0 text) ≡ Ok octets → decode_pairs 0 text ≡ Ok octets
even_decoded text octets true is = absurd (cc)
even_decoded text octets false is = is

-- EF is no text
no_mark : (text : List ℕ) → first_no_text text ≡ None → is_marked text ≡ false
no_mark [] none = refl
no_mark (a ∷ []) none = refl
no_mark (a ∷ b ∷ []) none = refl
no_mark (a ∷ b ∷ c ∷ text) none = by_first (a == 0xEF) refl
  where
    by_first : (first : Bool) → (a == 0xEF) ≡ first → ((a == 0xEF) && (b == 0xBB) && (c == 0xBF)) ≡ false
    by_first false is = ap (λ f. f && (b == 0xBB) && (c == 0xBF)) is
    by_first true is =
        let other : is_text a ≡ false = grind (arith, nat_tests) in
        let some : first_no_text (a ∷ b ∷ c ∷ text) ≡ Some (suc (length (b ∷ c ∷ text))) = ap (λ t. when t (λ _. first_no_text (b ∷ c ∷ text)) (λ _. Some (suc (length (b ∷ c ∷ text))))) other in
        absurd (cc)

no_mark_before : (text : List ℕ) → first_no_text text ≡ None → without_mark text ≡ text
no_mark_before text none = ap (λ marked. if marked then drop 3 text else text) (no_mark text none)

line_read : (line octets : List ℕ) → AreRead line (digits line) octets → line_spelled line ≡ Ok (form.Hex, octets)
unfolding line_spelled
line_read line octets are =
    ap (λ text. line_spelled_by (length line) (first_no_text text) text) (no_mark_before line are.no_other)
    ∙ ap (λ left. line_spelled_by (length line) left line) are.no_other
    ∙ ap (λ b. when b (λ _. as_form (length line) form.Hex (digits line)) (λ _. spelled_in_braces (length line) (after_first 0x7B line) line)) are.all_digits
    ∙ ap (as_form (length line) form.Hex) are.read

pub decoded_lines_are_spelled : DecodedLinesAreSpelled
decoded_lines_are_spelled line octets is =
    line_read line octets ((is_decoded line).whole 0 octets (even_decoded (without_blanks line) octets (length (without_blanks line) % 2 == 1) is))
