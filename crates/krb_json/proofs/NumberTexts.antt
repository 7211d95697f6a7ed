-- A number of JSON without a fraction and an exponent is digits, after a minus at most; so what is read of it is its value, if that fits.
use Rattle.std.proofs.Common.{◌≡◌, ℕ, ℤ, pos, negsuc, suc, ◌+◌, ◌<◌, ◌≤◌, true, false, cond, ◌&&◌, ◌||◌, ◌==◌, Bool, List, [], ◌∷◌, length, drop, Option, Some, None, refl, sym, ◌∙◌, ap, subst, arith, FitsSigned}
use Rattle.std.specs.Prelude.{◌≤ℤ◌, int_le, nat_le}
use Rattle.std.specs.Option.{option_and_then, ok_or, MatchOption}
use Rattle.std.specs.List.{list_any, prefix_len}
use Rattle.std.specs.Char.{digit_value, is_ascii_digit}
use Rattle.std.specs.Int.{w64}
use Rattle.std.specs.Str.Parse.{AllDigits, IsNumeral, ParsesSigned, signed_digits_value, without_leading_sign}
use Rattle.std.proofs.lemmas.Bool.{eqb-true, and_parts, leb-true, ne_eqb}
use Rattle.std.proofs.lemmas.Bool.Decides.{nat_tests}
use Rattle.std.proofs.lemmas.Int.{ints, to_z-of_z}
use Rattle.std.proofs.lemmas.Str.Parse.{digit_from_value}
use mir.Val.{to_z, of_z}
use Rattle.json.specs.Word.{head, after_digits, after_whole, after_fraction, after_exponent, after_number}
use Rattle.json.specs.Json.{Json}
use Rattle.json.specs.Json as json
use Rattle.json.specs.Find.{as_number}
use Rattle.json.specs.Print.{IsNumber}
use Rattle.json.specs.Tree.{HasNumbers}
use Rattle.krb_msg.proofs.Integers.{int_le-true}
use Rattle.krb_json.specs.declared.wrong.Wrong.TheVariants.{NotANumber, Outside}
use Rattle.krb_json.specs.declared.value_fault.ValueFault.{ValueFault}
use Rattle.krb_json.specs.inner.Reading.{IsFaultAt}
use Rattle.krb_json.specs.Faults.{fault, ◌>>=◌}
use Rattle.krb_json.specs.Spelled.{integer_spelled, number_spelled, or_fault}
use Rattle.krb_json.specs.inner.Scalars.{is_mark}
use Rattle.krb_json.proofs.Fit.{neither}

-- ---- no fraction, and no exponent
abbrev pub NoMark : List ℕ → Type 0
NoMark text = list_any is_mark text ≡ false

no-mark-drop : (k : ℕ) (text : List ℕ) → NoMark text → NoMark (drop k text)
no-mark-drop (suc k) (c ∷ text) none = no-mark-drop k text (neither (is_mark c) _ none).1
no-mark-drop other another none = none

record IsPlain (c : ℕ) : Type 0 where
  dot : c == 46 ≡ false
  lower : c == 101 ≡ false
  upper : c == 69 ≡ false

plain-head : (text : List ℕ) → NoMark text → IsPlain (head text)
plain-head [] none = record { dot = refl; lower = refl; upper = refl }
plain-head (c ∷ text) none =
    let first = neither (c == 46 || c == 101) (c == 69) (neither (is_mark c) _ none).0 in
    let two = neither (c == 46) (c == 101) first.0 in
    record { dot = two.0; lower = two.1; upper = first.1 }

fraction-none : (text : List ℕ) → NoMark text → after_fraction text ≡ Some text
fraction-none text none = ap (λ b. cond b (after_digits (drop 1 text)) (Some text)) (plain-head text none).dot

exponent-none : (text : List ℕ) → NoMark text → after_exponent text ≡ Some text
exponent-none text none = rw ((plain-head text none).lower, (plain-head text none).upper) refl

abbrev after_all : Option (List ℕ) → Option (List ℕ)
after_all rest = option_and_then after_exponent (option_and_then after_fraction rest)

some-nothing : (text : List ℕ) → Some text ≡ Some [] → text ≡ []
some-nothing text e = cc e

nothing-left : (text : List ℕ) → NoMark text → after_all (Some text) ≡ Some [] → text ≡ []
nothing-left text none e = some-nothing text (sym (ap (option_and_then after_exponent) (fraction-none text none) ∙ exponent-none text none) ∙ e)

-- ---- digits
digit-small : (c : ℕ) → is_ascii_digit c ≡ true → digit_value c < 10
digit-small c is =
    let range = and_parts (nat_le 48 c) (nat_le c 57) is in
    let low : 48 ≤ c = leb-true 48 c range.0 in
    let high : c ≤ 57 = leb-true c 57 range.1 in
    grind (arith, nat_tests)

digits-run : (text : List ℕ) → drop (prefix_len is_ascii_digit text) text ≡ [] → AllDigits 10 text
digits-run [] e = tt
digits-run (c ∷ text) e = by (is_ascii_digit c) refl e (digits-run text)
  where
    by : (b : Bool) → is_ascii_digit c ≡ b → drop (cond b (1 + prefix_len is_ascii_digit text) 0) (c ∷ text) ≡ [] → (drop (prefix_len is_ascii_digit text) text ≡ [] → AllDigits 10 text) → AllDigits 10 (c ∷ text)
    by true is e rest =
        let next : suc (prefix_len is_ascii_digit text) ≡ 1 + prefix_len is_ascii_digit text = omega arith in
        (digit-small c is, rest (ap (λ k. drop k (c ∷ text)) next ∙ e))
    by false is e rest = cc e

sole-zero : (text : List ℕ) → head text == 48 ≡ true → drop 1 text ≡ [] → IsNumeral 10 text
sole-zero [] is e = cc is
sole-zero (c ∷ []) is e = (omega arith, (subst (λ x. digit_value x < 10) (sym (eqb-true c 48 is)) (omega arith), tt))
sole-zero (c ∷ d ∷ text) is e = cc e

some-digits : (text : List ℕ) → prefix_len is_ascii_digit text == 0 ≡ false → 0 < length text
some-digits [] e = cc e
some-digits (c ∷ text) e = omega arith

digits : (text : List ℕ) → NoMark text → after_all (after_whole text) ≡ Some [] → IsNumeral 10 text
digits text none e = by-zero (head text == 48) refl e
  where
    by-count : (b : Bool) → prefix_len is_ascii_digit text == 0 ≡ b → after_all (cond b None (Some (drop (prefix_len is_ascii_digit text) text))) ≡ Some [] → IsNumeral 10 text
    by-count true is e = cc e
    by-count false is e = (some-digits text is, digits-run text (nothing-left (drop (prefix_len is_ascii_digit text) text) (no-mark-drop (prefix_len is_ascii_digit text) text none) e))

    by-zero : (b : Bool) → head text == 48 ≡ b → after_all (cond b (Some (drop 1 text)) (after_digits text)) ≡ Some [] → IsNumeral 10 text
    by-zero true is e = sole-zero text is (nothing-left (drop 1 text) (no-mark-drop 1 text none) e)
    by-zero false is e = by-count (prefix_len is_ascii_digit text == 0) refl e

-- no plus comes first
no-plus : (c : ℕ) (text : List ℕ) → IsNumeral 10 (c ∷ text) → c == 43 ≡ false
no-plus c text numeral = let digit = digit_from_value c numeral.1.0 in ne_eqb c 43 (λ e. omega (arith, digit))

pub is-numeral : (text : List ℕ) → IsNumber text → NoMark text → IsNumeral 10 (without_leading_sign text)
unfolding after_number
is-numeral [] number none = digits [] none number
is-numeral (c ∷ text) number none = by (c == 45) number
  where
    by : (b : Bool) → after_all (after_whole (cond b text (c ∷ text))) ≡ Some [] → IsNumeral 10 (cond b text (drop (cond (c == 43) 1 0) (c ∷ text)))
    by true e = digits text (neither (is_mark c) _ none).1 e
    by false e = let numeral = digits (c ∷ text) none e in subst (λ b. IsNumeral 10 (drop (cond b 1 0) (c ∷ text))) (sym (no-plus c text numeral)) numeral

-- ---- what is read of a number
-- it is not from a number to another one, if it is one at all
abbrev pub IsNotWithin : (low high : ℤ) → Option ℤ → Type 0
IsNotWithin low high None = Unit {0}
IsNotWithin low high (Some number) = (int_le low number && int_le number high) ≡ false

between : (low number high : ℤ) → FitsSigned w64 low → FitsSigned w64 high → low ≤ℤ number → number ≤ℤ high → FitsSigned w64 number
between low (pos n) (negsuc high) from to above below = absurd (omega (arith, ints, below))
between (pos low) (negsuc n) high from to above below = absurd (omega (arith, ints, above))
between other another third from to above below = omega (arith, ints, from, to, above, below)

outside-range : (low number high : ℤ) → FitsSigned w64 low → FitsSigned w64 high → ¬ (FitsSigned w64 number) → (int_le low number && int_le number high) ≡ false
outside-range low number high from to not_fits = by (int_le low number && int_le number high) refl
  where
    by : (b : Bool) → (int_le low number && int_le number high) ≡ b → b ≡ false
    by true is =
        let parts = and_parts (int_le low number) (int_le number high) is in
        absurd (not_fits (between low number high from to (int_le-true low number parts.0) (int_le-true number high parts.1)))
    by false is = refl

pub outside : (low high : ℤ) (path text : List ℕ) (number : Option ℤ) → IsNumber text → NoMark text → ParsesSigned w64 10 text (ok_or number text) → FitsSigned w64 low → FitsSigned w64 high → IsNotWithin low high number → number_spelled low high path text ≡ fault path (Outside low high)
outside low high path text (Some number) is none parses from to not_within =
    rw (none, sym parses.1, not_within) refl
outside low high path text None is none parses from to not_within =
    let not_fits : ¬ (FitsSigned w64 (signed_digits_value 10 text)) = λ fits. parses (is-numeral text is none, fits) in
    rw (none, outside-range low (signed_digits_value 10 text) high from to not_fits) refl

is-number : (j : Json) (text : List ℕ) → HasNumbers j → as_number j ≡ Some text → IsNumber text
is-number (json.number s) text numbers e = let same : s ≡ text = cc e in subst IsNumber same numbers
is-number other text numbers e = cc e

pub outside-spelled : (low high : ℤ) (j : Json) (text : List ℕ) (number : Option ℤ) → HasNumbers j → as_number j ≡ Some text → NoMark text → MatchOption (as_number j) (number ≡ None) (λ s. ParsesSigned w64 10 s (ok_or number s)) → FitsSigned w64 low → FitsSigned w64 high → IsNotWithin low high number
    → (path : List ℕ) → integer_spelled low high path j ≡ fault path (Outside low high)
outside-spelled low high j text number numbers e none parses from to not_within path =
    ap (λ o. or_fault path NotANumber o >>= number_spelled low high path) e
    ∙ outside low high path text number (is-number j text numbers e) none (subst (λ o. MatchOption o (number ≡ None) (λ s. ParsesSigned w64 10 s (ok_or number s))) e parses) from to not_within

-- a range, as a call passes it
pub same-range : (low high : ℤ) (found : ValueFault) → FitsSigned w64 low → FitsSigned w64 high → IsFaultAt [] (Outside (to_z w64 (of_z w64 low)) (to_z w64 (of_z w64 high))) found → IsFaultAt [] (Outside low high) found
same-range low high found from to at =
    subst (λ l. IsFaultAt [] (Outside l high) found) (to_z-of_z w64 low from) (subst (λ h. IsFaultAt [] (Outside (to_z w64 (of_z w64 low)) h) found) (to_z-of_z w64 high to) at)
