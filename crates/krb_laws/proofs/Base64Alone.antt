-- Base64 that is read by no rule before its own.
use Rattle.std.proofs.Common.{ℕ, suc, ◌+◌, ◌-◌, ◌*◌, ◌/◌, ◌%◌, ◌==◌, ◌≡◌, ◌<◌, ◌&&◌, ◌||◌, not, Bool, true, false, List, [], ◌∷◌, length, Option, Some, None, Ok, Err, refl, sym, subst, ap, ◌∙◌, arith, codes}
use Rattle.std.proofs.lemmas.Bool.{and_parts, eqb-true, not-true, or_parts}
use Rattle.std.proofs.lemmas.Bool.Decides.{nat_tests}
use Rattle.std.proofs.lemmas.List.Elements.{All-head, All-tail, All-weaker}
use Rattle.std.specs.List.{AllPass}
use Rattle.std.specs.Option.{is_some, option_and_then}
use Rattle.base64.proofs.Tables.{all_below_at}
use Rattle.hex.specs.Hex.{is_hex_digit}
use Rattle.krb_der.specs.Octets.{when, begins_with}
use Rattle.krb_input.specs.Base64.{base64, first_octet}
use Rattle.krb_input.specs.Braces.{after_first}
use Rattle.krb_input.specs.Characters.{is_blank, is_text, is_x, skip_blanks}
use Rattle.krb_input.specs.Digits.{are_digits, digits}
use Rattle.krb_input.specs.Dumps.{begins_after, begins_dump, count_zeros, is_prefixed}
use Rattle.krb_input.specs.Escapes.{escapes, has_escape}
use Rattle.krb_input.specs.Headers.{after_arrow, after_field, after_name, after_scheme_name, after_space, after_word, is_space, lower_case, or_other, token_of, value_or_all}
use Rattle.krb_input.specs.Inputs.{as_form, is_first, is_first_of, spelled_in_braces, spelled_in_field, spelled_in_tokens}
use Rattle.krb_input.specs.Laws.{without_blanks}
use Rattle.krb_input.specs.Tokens.{first_unfit, is_mark}
use Rattle.krb_source.specs.declared.spelling.Spelling.TheVariants as form
use Rattle.krb_laws.specs.Spelled.{Base64IsSpelled}
use Rattle.krb_laws.proofs.Base64.{base64_read, first_octet_read, high_bits, text_begins}
use Rattle.krb_laws.proofs.Blanks.{each_or_blank, next}
use Rattle.krb_laws.proofs.Characters.{AreCharacters, is_character, symbol, text_characters}
use Rattle.krb_laws.proofs.Hexadecimal.{begins_at, begins_unprefixed}
use Rattle.krb_laws.proofs.Inputs.{spelled_no_dump}
use Rattle.krb_laws.proofs.Printed.{all_text}

-- a character or a blank
abbrev is_spaced : ℕ → Bool
is_spaced octet = is_character octet || is_blank octet

abbrev IsSpaced : ℕ → Type 0
IsSpaced octet = is_spaced octet ≡ true

abbrev AreSpaced : List ℕ → Type 0
AreSpaced text = AllPass is_spaced text

spaced_text : (octet : ℕ) → is_spaced octet ≡ true → is_text octet ≡ true
spaced_text octet is = grind (arith, nat_tests)

-- ---- what none of them is
no_brace : (octet : ℕ) → is_spaced octet ≡ true → (octet == 0x7B) ≡ false
no_brace octet is = grind (arith, nat_tests)

no_backslash : (octet : ℕ) → is_spaced octet ≡ true → (octet == 0x5C) ≡ false
no_backslash octet is = grind (arith, nat_tests)

no_arrow : (octet : ℕ) → is_spaced octet ≡ true → (octet == 0x3E || octet == 0x3C) ≡ false
no_arrow octet is = grind (arith, nat_tests)

no_colon : (octet : ℕ) → is_spaced octet ≡ true → (lower_case octet == 0x3A) ≡ false
no_colon octet is = grind (arith, nat_tests)

-- ---- braces and escapes
no_braces : (text : List ℕ) → AreSpaced text → after_first 0x7B text ≡ None
no_braces [] are = refl
no_braces (octet ∷ text) are =
    ap (λ b. when b (λ _. Some text) (λ _. after_first 0x7B text)) (no_brace octet (All-head IsSpaced octet text are))
    ∙ no_braces text (All-tail IsSpaced octet text are)

no_escapes : (text : List ℕ) → AreSpaced text → has_escape text ≡ false
no_escapes [] are = refl
no_escapes (octet ∷ text) are =
    ap (λ b. b && begins_with 0x78 text || has_escape text) (no_backslash octet (All-head IsSpaced octet text are))
    ∙ no_escapes text (All-tail IsSpaced octet text are)

-- ---- header fields
no_arrow_first : (text : List ℕ) → AreSpaced text → after_arrow text ≡ text
no_arrow_first [] are = refl
no_arrow_first (octet ∷ []) are = refl
no_arrow_first (octet ∷ blank ∷ text) are = ap (λ b. when (b && is_space blank) (λ _. skip_blanks text) (λ _. octet ∷ blank ∷ text)) (no_arrow octet (All-head IsSpaced octet (blank ∷ text) are))

-- a word that has a `:` is not there
abbrev has_colon : List ℕ → Bool
has_colon [] = false
has_colon (letter ∷ word) = letter == 0x3A || has_colon word

by_letter : (letter octet : ℕ) (word text : List ℕ) (same colon : Bool) → (lower_case octet == letter) ≡ same → (letter == 0x3A) ≡ colon → is_spaced octet ≡ true → (has_colon word ≡ true → after_word word text ≡ None) →
    (colon || has_colon word) ≡ true → when same (λ _. after_word word text) (λ _. None) ≡ None
by_letter letter octet word text false colon is is_colon spaced others has = refl
by_letter letter octet word text true false is is_colon spaced others has = others has
by_letter letter octet word text true true is is_colon spaced others has =
    let letter_is : letter ≡ 0x3A = eqb-true letter 0x3A is_colon in
    let is_one : (lower_case octet == 0x3A) ≡ true = subst (λ l. (lower_case octet == l) ≡ true) letter_is is in
    let other = no_colon octet spaced in
    absurd (cc)

no_word : (word text : List ℕ) → has_colon word ≡ true → AreSpaced text → after_word word text ≡ None
no_word [] text has are = absurd (cc)
no_word (letter ∷ word) [] has are = refl
no_word (letter ∷ word) (octet ∷ text) has are =
    by_letter letter octet word text (lower_case octet == letter) (letter == 0x3A) refl refl (All-head IsSpaced octet text are) (λ more. no_word word text more (All-tail IsSpaced octet text are)) has

no_name : (text : List ℕ) → AreSpaced text → after_name text ≡ None
no_name text are =
    ap (λ o. or_other o (λ _. or_other (after_word (codes "proxy-authorization:") text) (λ _. or_other (after_word (codes "www-authenticate:") text) (λ _. after_word (codes "proxy-authenticate:") text)))) (no_word (codes "authorization:") text refl are)
    ∙ ap (λ o. or_other o (λ _. or_other (after_word (codes "www-authenticate:") text) (λ _. after_word (codes "proxy-authenticate:") text))) (no_word (codes "proxy-authorization:") text refl are)
    ∙ ap (λ o. or_other o (λ _. after_word (codes "proxy-authenticate:") text)) (no_word (codes "www-authenticate:") text refl are)
    ∙ no_word (codes "proxy-authenticate:") text refl are

no_field : (text : List ℕ) → AreSpaced text → after_field (after_arrow text) ≡ text
no_field text are = ap after_field (no_arrow_first text are) ∙ ap (λ o. value_or_all o text) (no_name text are)

-- the first character of a message's first octet, which is neither 0 nor the first letter of a scheme
abbrev is_apart : ℕ → Bool
is_apart octet = not (symbol (octet / 4) == 0x30) && not (lower_case (symbol (octet / 4)) == 0x6E) && not (lower_case (symbol (octet / 4)) == 0x6B)

abbrev is_apart_if_first : ℕ → Bool
is_apart_if_first octet = not (is_first octet) || is_apart octet

if_first : (first : ℕ) (begins : Bool) → is_first first ≡ begins → begins ≡ true → is_apart_if_first first ≡ true → is_apart first ≡ true
if_first first false is yes_it_is apart = absurd (cc)
if_first first true is yes_it_is apart = sym (ap (λ b. not b || is_apart first) is) ∙ apart

pub record Apart (first : ℕ) : Type 0 where
  pub no_zero : (symbol (first / 4) == 0x30) ≡ false
  pub no_n : (lower_case (symbol (first / 4)) == 0x6E) ≡ false
  pub no_k : (lower_case (symbol (first / 4)) == 0x6B) ≡ false

apart_of : (first : ℕ) → first < 256 → is_first first ≡ true → Apart first
apart_of first small begins =
    let apart = if_first first (is_first first) refl begins (all_below_at is_apart_if_first 256 first refl small) in
    let zero = symbol (first / 4) == 0x30 in
    let n = lower_case (symbol (first / 4)) == 0x6E in
    let k = lower_case (symbol (first / 4)) == 0x6B in
    let outer = and_parts (not zero && not n) (not k) apart in
    let inner = and_parts (not zero) (not n) outer.0 in
    record { no_zero = not-true zero inner.0; no_n = not-true n inner.1; no_k = not-true k outer.1 }

-- that character begins no scheme
abbrev is_scheme_letter : ℕ → Bool
is_scheme_letter octet = lower_case octet == 0x6E || lower_case octet == 0x6B

no_letter : (first : ℕ) → Apart first → is_scheme_letter (symbol (first / 4)) ≡ false
no_letter first apart = ap (λ b. b || lower_case (symbol (first / 4)) == 0x6B) apart.no_n ∙ apart.no_k

no_scheme : (octet : ℕ) (text : List ℕ) → is_scheme_letter octet ≡ false → after_scheme_name (octet ∷ text) ≡ None
no_scheme octet text is =
    let parts = or_parts (lower_case octet == 0x6E) (lower_case octet == 0x6B) is in
    ap (λ b. or_other (when b (λ _. after_word (codes "egotiate") text) (λ _. None)) (λ _. after_word (codes "kerberos") (octet ∷ text))) parts.0
    ∙ ap (λ b. when b (λ _. after_word (codes "erberos") text) (λ _. None)) parts.1

-- what follows blanks is such a text, too
skipped_by : (octet : ℕ) (text : List ℕ) (blank : Bool) → is_blank octet ≡ blank → AreSpaced (octet ∷ text) → AreSpaced (skip_blanks text) → AreSpaced (skip_blanks (octet ∷ text))
skipped_by octet text true is are others = subst AreSpaced (sym (ap (λ b. when b (λ _. skip_blanks text) (λ _. octet ∷ text)) is)) others
skipped_by octet text false is are others = subst AreSpaced (sym (ap (λ b. when b (λ _. skip_blanks text) (λ _. octet ∷ text)) is)) are

skipped_spaced : (text : List ℕ) → AreSpaced text → AreSpaced (skip_blanks text)
skipped_spaced [] are = are
skipped_spaced (octet ∷ text) are = skipped_by octet text (is_blank octet) refl are (skipped_spaced text (All-tail IsSpaced octet text are))

no_token : (first : ℕ) (text others : List ℕ) → Apart first → AreSpaced text → without_blanks text ≡ symbol (first / 4) ∷ others → token_of text ≡ None
no_token first text others apart are given =
    let found = next text (symbol (first / 4)) others given in
    let spaced : AreSpaced (symbol (first / 4) ∷ found.rest) = subst AreSpaced found.skipped (skipped_spaced text are) in
    ap (λ t. option_and_then after_space (after_scheme_name (after_field (after_arrow t)))) found.skipped
    ∙ ap (λ t. option_and_then after_space (after_scheme_name t)) (no_field (symbol (first / 4) ∷ found.rest) spaced)
    ∙ ap (option_and_then after_space) (no_scheme (symbol (first / 4)) found.rest (no_letter first apart))

-- ---- digits and dumps
digit_or_blank_fits : (octet : ℕ) (after_zero : Bool) → (is_hex_digit octet || is_blank octet) ≡ true → (is_hex_digit octet || is_mark octet || after_zero && is_x octet) ≡ true
digit_or_blank_fits octet after_zero is = grind (arith, nat_tests)

digits_fit : (after_zero : Bool) (text : List ℕ) → are_digits text ≡ true → first_unfit after_zero text ≡ None
digits_fit after_zero [] all = refl
digits_fit after_zero (octet ∷ text) all =
    let both = and_parts (is_hex_digit octet || is_blank octet) (are_digits text) all in
    ap (λ b. when b (λ _. first_unfit (octet == 0x30) text) (λ _. Some (suc (length text)))) (digit_or_blank_fits octet after_zero both.0)
    ∙ digits_fit (octet == 0x30) text both.1

no_digits : (text : List ℕ) (all : Bool) → are_digits text ≡ all → is_some (first_unfit false text) ≡ true → are_digits text ≡ false
no_digits text false is some = is
no_digits text true is some = let none = digits_fit false text is in absurd (cc)

unprefixed : (first : ℕ) (text : List ℕ) → (first == 0x30) ≡ false → is_prefixed (first ∷ text) ≡ false
unprefixed first [] no_zero = refl
unprefixed first (second ∷ text) no_zero = ap (λ b. b && is_x second) no_zero

no_dump : (text others : List ℕ) (first : ℕ) → without_blanks text ≡ first ∷ others → (first == 0x30) ≡ false → begins_dump text ≡ false
no_dump text others first given no_zero =
    let found = next text first others given in
    ap begins_at found.skipped
    ∙ begins_unprefixed first found.rest (unprefixed first found.rest no_zero)
    ∙ ap (λ b. begins_after false (when b (λ _. suc (count_zeros found.rest)) (λ _. 0)) (first ∷ found.rest)) no_zero

-- ---- base64
by_unfit : (size : ℕ) (text octets : List ℕ) (unfit : Option ℕ) → is_some unfit ≡ true → is_first_of (first_octet text) ≡ true → base64 text ≡ Ok octets → spelled_in_tokens size unfit text ≡ Ok (form.Base64, octets)
by_unfit size text octets None some begins read = absurd (cc)
by_unfit size text octets (Some unfit) some begins read =
    ap (λ b. when b (λ _. as_form size form.Base64 (base64 text)) (λ _. Err (form.Hex, size - unfit))) begins
    ∙ ap (as_form size form.Base64) read

pub base64_is_spelled : Base64IsSpelled
base64_is_spelled text first octets are begins given some =
    let size : ℕ = length text in
    let starts = text_begins first octets in
    let others : List ℕ = symbol (first % 4 * 16 + high_bits octets) ∷ starts.others in
    let apart = apart_of first are.0 begins in
    let spaced = each_or_blank is_character text (subst AreCharacters (sym given) (text_characters (first ∷ octets) are)) in
    spelled_no_dump text (all_text text (All-weaker IsSpaced (λ o. is_text o ≡ true) spaced_text text spaced)) (no_dump text others (symbol (first / 4)) (given ∙ starts.form) apart.no_zero)
    ∙ ap (λ b. when b (λ _. as_form size form.Hex (digits text)) (λ _. spelled_in_braces size (after_first 0x7B text) text)) (no_digits text (are_digits text) refl some)
    ∙ ap (λ o. spelled_in_braces size o text) (no_braces text spaced)
    ∙ ap (λ b. when b (λ _. as_form size form.Hex (escapes text)) (λ _. spelled_in_field size (token_of text) text)) (no_escapes text spaced)
    ∙ ap (λ o. spelled_in_field size o text) (no_token first text others apart spaced (given ∙ starts.form))
    ∙ by_unfit size text (first ∷ octets) (first_unfit false text) some (ap is_first_of (first_octet_read text first octets are given) ∙ begins) (base64_read text (first ∷ octets) are given)
