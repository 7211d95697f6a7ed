-- Hexadecimal that does not begin as a dump.
use Rattle.std.proofs.Common.{ℕ, zero, suc, ◌==◌, ◌≡◌, ◌<◌, ◌&&◌, ◌||◌, nat_le, not, if◌then◌else◌, Bool, true, false, List, [], ◌∷◌, length, drop, Ok, Err, refl, sym, subst, ap, ◌∙◌, arith}
use Rattle.std.proofs.lemmas.Bool.{and_parts, and_right, eqb-true}
use Rattle.std.proofs.lemmas.List.Elements.{All-head, All-tail}
use Rattle.std.specs.List.{AllPass}
use Rattle.std.proofs.lemmas.Bool.Decides.{nat_tests}
use Rattle.hex.specs.Hex.{decode_of, encode_lower, encode_upper, is_hex_digit, IsBytes}
use Rattle.hex.proofs.HexLemmas.{decode_of-ok, decode_of-even, decode_of-encode_lower, decode_of-encode_upper}
use Rattle.krb_der.specs.Octets.{AreOctets, when, begins_with}
use Rattle.krb_input.specs.Characters.{is_blank, is_x, begins_blank, count_digits, skip_blanks}
use Rattle.krb_input.specs.Readings.{Reading, prepend}
use Rattle.krb_input.specs.Digits.{are_digits, digits}
use Rattle.krb_input.specs.Dumps.{is_prefixed, without_prefix, count_zeros, begins_octets, begins_after, begins_dump, is_offset_long}
use Rattle.krb_input.specs.Braces.{after_first}
use Rattle.krb_input.specs.Inputs.{as_form, spelled, spelled_in_braces}
use Rattle.krb_input.specs.Laws.{without_blanks}
use Rattle.krb_source.specs.declared.spelling.Spelling.TheVariants as form
use Rattle.krb_input.proofs.Decoded.{AreRead, is_decoded}
use Rattle.krb_laws.specs.Spelled.{HexadecimalIsSpelled, HexadecimalIsNoDump, DigitsAreSpelled}
use Rattle.krb_laws.proofs.Inputs.{spelled_no_dump}
use Rattle.krb_laws.proofs.Pairs.{digit_no_blank, digit_no_colon, digit_no_x}

-- what is decoded of a text without its blanks is read of it
decoded_read : (text octets : List ℕ) → decode_of (without_blanks text) ≡ Ok octets → AreRead text (digits text) octets
decoded_read text octets is =
    let even = (decode_of-ok (without_blanks text) octets is).0 in
    (is_decoded text).whole 0 octets (sym (decode_of-even (without_blanks text) even) ∙ is)

pub hexadecimal_is_spelled : HexadecimalIsSpelled
hexadecimal_is_spelled text octets is other =
    let are = decoded_read text octets is in
    spelled_no_dump text are.no_other other
    ∙ ap (λ b. when b (λ _. as_form (length text) form.Hex (digits text)) (λ _. spelled_in_braces (length text) (after_first 0x7B text) text)) are.all_digits
    ∙ ap (as_form (length text) form.Hex) are.read

-- ---- how a dump begins
pub not_skipped : (first : ℕ) (text : List ℕ) → is_blank first ≡ false → skip_blanks (first ∷ text) ≡ first ∷ text
not_skipped first text no_blank = ap (λ b. when b (λ _. skip_blanks text) (λ _. first ∷ text)) no_blank

-- whether a text that begins with no blank begins as a dump
abbrev pub begins_at : List ℕ → Bool
begins_at text = begins_after (is_prefixed text) (count_zeros (without_prefix text)) (without_prefix text)

pub begins_unprefixed : (first : ℕ) (text : List ℕ) → is_prefixed (first ∷ text) ≡ false → begins_at (first ∷ text) ≡ begins_after false (count_zeros (first ∷ text)) (first ∷ text)
begins_unprefixed first text unprefixed = ap (λ p. begins_after p (count_zeros (if p then drop 2 (first ∷ text) else first ∷ text)) (if p then drop 2 (first ∷ text) else first ∷ text)) unprefixed

begins_after_zeros : (first : ℕ) (text : List ℕ) → is_blank first ≡ false → is_prefixed (first ∷ text) ≡ false → begins_dump (first ∷ text) ≡ begins_after false (count_zeros (first ∷ text)) (first ∷ text)
begins_after_zeros first text no_blank unprefixed = ap begins_at (not_skipped first text no_blank) ∙ begins_unprefixed first text unprefixed

-- ---- a first octet that is not 00
too_few : (zeros : ℕ) (text : List ℕ) → nat_le 4 zeros ≡ false → begins_after false zeros text ≡ false
too_few zeros text few = ap (λ b. (b && nat_le zeros 16) && begins_octets (zeros == 7 && true) (drop zeros text)) few

one_or_none : (zero : Bool) → nat_le 4 (when zero (λ _. 1) (λ _. 0)) ≡ false
one_or_none true = refl
one_or_none false = refl

no_x : (octet : ℕ) → (is_hex_digit octet || is_blank octet) ≡ true → is_x octet ≡ false
no_x octet is = grind (arith, nat_tests)

pub no_prefix : (high low : ℕ) (text : List ℕ) → is_x low ≡ false → is_prefixed (high ∷ low ∷ text) ≡ false
no_prefix high low text is = and_right (high == 0x30) (is_x low) is

begins_with_zero : (reading : Reading) (octets : List ℕ) → prepend (0 ∷ []) reading ≡ Ok octets → begins_with 0x00 octets ≡ true
begins_with_zero (Ok others) octets is = let same : 0 ∷ others ≡ octets = cc in ap (begins_with 0x00) (sym same)
begins_with_zero (Err left) octets is = absurd (cc)

-- two digits before others, which are not both 0, or are read as 00
two_zeros : (high low : ℕ) (text octets : List ℕ) (first second : Bool) → (high == 0x30) ≡ first → (low == 0x30) ≡ second → digits (high ∷ low ∷ text) ≡ Ok octets → begins_with 0x00 octets ≡ false →
    nat_le 4 (count_zeros (high ∷ low ∷ text)) ≡ false
two_zeros high low text octets false second is_first is_second read other = ap (λ z. nat_le 4 (when z (λ _. suc (count_zeros (low ∷ text))) (λ _. 0))) is_first
two_zeros high low text octets true false is_first is_second read other =
    ap (λ z. nat_le 4 (when z (λ _. suc (count_zeros (low ∷ text))) (λ _. 0))) is_first
    ∙ ap (λ z. nat_le 4 (suc (when z (λ _. suc (count_zeros text)) (λ _. 0)))) is_second
two_zeros high low text octets true true is_first is_second read other =
    let high_is : high ≡ 0x30 = eqb-true high 0x30 is_first in
    let low_is : low ≡ 0x30 = eqb-true low 0x30 is_second in
    let same : digits (0x30 ∷ 0x30 ∷ text) ≡ Ok octets = subst (λ l. digits (0x30 ∷ l ∷ text) ≡ Ok octets) low_is (subst (λ h. digits (h ∷ low ∷ text) ≡ Ok octets) high_is read) in
    let zero = begins_with_zero (digits text) octets same in
    absurd (cc)

-- a text that begins with no blank, and is read as octets of which the first is not 00
begins_no_dump : (high : ℕ) (text octets : List ℕ) → is_blank high ≡ false → are_digits (high ∷ text) ≡ true → digits (high ∷ text) ≡ Ok octets → begins_with 0x00 octets ≡ false → begins_dump (high ∷ text) ≡ false
begins_no_dump high [] octets no_blank all read other = begins_after_zeros high [] no_blank refl ∙ too_few (count_zeros (high ∷ [])) (high ∷ []) (one_or_none (high == 0x30))
begins_no_dump high (low ∷ text) octets no_blank all read other =
    let both = and_parts (is_hex_digit high || is_blank high) (are_digits (low ∷ text)) all in
    let fits = and_parts (is_hex_digit low || is_blank low) (are_digits text) both.1 in
    begins_after_zeros high (low ∷ text) no_blank (no_prefix high low text (no_x low fits.0))
    ∙ too_few (count_zeros (high ∷ low ∷ text)) (high ∷ low ∷ text) (two_zeros high low text octets (high == 0x30) (low == 0x30) refl refl read other)

by_blank : (first : ℕ) (text octets : List ℕ) (blank : Bool) → is_blank first ≡ blank → (digits text ≡ Ok octets → begins_dump text ≡ false) → are_digits (first ∷ text) ≡ true → digits (first ∷ text) ≡ Ok octets → begins_with 0x00 octets ≡ false →
    begins_dump (first ∷ text) ≡ false
by_blank first text octets false is others all read other = begins_no_dump first text octets is all read other
by_blank first text octets true is others all read other =
    let same : digits (first ∷ text) ≡ digits text = rw is refl in
    let begins : begins_dump (first ∷ text) ≡ begins_dump text = ap (λ t. begins_after (is_prefixed t) (count_zeros (without_prefix t)) (without_prefix t)) (ap (λ b. when b (λ _. skip_blanks text) (λ _. first ∷ text)) is) in
    begins ∙ others (sym same ∙ read)

read_no_dump : (text octets : List ℕ) → are_digits text ≡ true → digits text ≡ Ok octets → begins_with 0x00 octets ≡ false → begins_dump text ≡ false
read_no_dump [] octets all read other = refl
read_no_dump (first ∷ text) octets all read other =
    let fits = and_parts (is_hex_digit first || is_blank first) (are_digits text) all in
    by_blank first text octets (is_blank first) refl (λ is. read_no_dump text octets fits.1 is other) all read other

pub hexadecimal_is_no_dump : HexadecimalIsNoDump
hexadecimal_is_no_dump text octets is other =
    let are = decoded_read text octets is in
    read_no_dump text octets are.all_digits are.read other

-- ---- digits without blanks
abbrev IsDigit : ℕ → Type 0
IsDigit octet = is_hex_digit octet ≡ true

digit_begins_nothing : (as_of_od : Bool) (first : ℕ) (text : List ℕ) → is_hex_digit first ≡ true → begins_octets as_of_od (first ∷ text) ≡ false
digit_begins_nothing as_of_od first text is =
    ap (λ c. if c then begins_blank text && nat_le 2 (count_digits (skip_blanks text)) else is_blank first && (count_digits (skip_blanks text) == 2 || as_of_od)) (digit_no_colon first is)
    ∙ ap (λ b. b && (count_digits (skip_blanks text) == 2 || as_of_od)) (digit_no_blank first is)

-- after zeros there is a digit or nothing
after_zero : (as_of_od : Bool) (first : ℕ) (text : List ℕ) (is_zero : Bool) → is_hex_digit first ≡ true → begins_octets as_of_od (drop (count_zeros text) text) ≡ false →
    begins_octets as_of_od (drop (when is_zero (λ _. suc (count_zeros text)) (λ _. 0)) (first ∷ text)) ≡ false
after_zero as_of_od first text true is others = others
after_zero as_of_od first text false is others = digit_begins_nothing as_of_od first text is

digit_after : (as_of_od : Bool) (text : List ℕ) → AllPass is_hex_digit text → begins_octets as_of_od (drop (count_zeros text) text) ≡ false
digit_after as_of_od [] all = refl
digit_after as_of_od (first ∷ text) all = after_zero as_of_od first text (first == 0x30) (All-head IsDigit first text all) (digit_after as_of_od text (All-tail IsDigit first text all))

digits_unprefixed : (first : ℕ) (text : List ℕ) → AllPass is_hex_digit text → is_prefixed (first ∷ text) ≡ false
digits_unprefixed first [] all = refl
digits_unprefixed first (second ∷ text) all = no_prefix first second text (digit_no_x second (All-head IsDigit second text all))

digits_no_dump : (text : List ℕ) → AllPass is_hex_digit text → begins_dump text ≡ false
digits_no_dump [] all = refl
digits_no_dump (first ∷ text) all =
    begins_after_zeros first text (digit_no_blank first (All-head IsDigit first text all)) (digits_unprefixed first text (All-tail IsDigit first text all))
    ∙ and_right (is_offset_long (count_zeros (first ∷ text))) (begins_octets (count_zeros (first ∷ text) == 7 && true) (drop (count_zeros (first ∷ text)) (first ∷ text))) (digit_after (count_zeros (first ∷ text) == 7 && true) (first ∷ text) all)

digits_unblanked : (text : List ℕ) → AllPass is_hex_digit text → without_blanks text ≡ text
digits_unblanked [] all = refl
digits_unblanked (first ∷ text) all =
    ap (λ b. if not b then first ∷ without_blanks text else without_blanks text) (digit_no_blank first (All-head IsDigit first text all))
    ∙ ap (λ t. first ∷ t) (digits_unblanked text (All-tail IsDigit first text all))

digits_spelled : (text octets : List ℕ) → decode_of text ≡ Ok octets → spelled text ≡ Ok (form.Hex, octets)
digits_spelled text octets is =
    let all = (decode_of-ok text octets is).1 in
    hexadecimal_is_spelled text octets (ap decode_of (digits_unblanked text all) ∙ is) (digits_no_dump text all)

each_byte : (octet : ℕ) (octets : List ℕ) → octet < 256 → IsBytes octets → IsBytes (octet ∷ octets)
each_byte octet octets first others zero = first
each_byte octet octets first others (suc i) = others i

bytes_of : (octets : List ℕ) → AreOctets octets → IsBytes octets
bytes_of [] are = λ i. omega arith
bytes_of (octet ∷ octets) are = each_byte octet octets are.0 (bytes_of octets are.1)

pub digits_are_spelled : DigitsAreSpelled
digits_are_spelled octets are = record {
  lower = digits_spelled (encode_lower octets) octets (decode_of-encode_lower octets (bytes_of octets are));
  upper = digits_spelled (encode_upper octets) octets (decode_of-encode_upper octets (bytes_of octets are));
}
