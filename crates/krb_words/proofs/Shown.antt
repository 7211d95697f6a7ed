-- The names that words show, one octet after another.
use Rattle.std.proofs.Common.{◌≡◌, ℕ, ◌+◌, ◌-◌, ◌*◌, ◌/◌, ◌%◌, ◌<◌, ◌≤◌, inl, inr, Bool, true, false, ◌==◌, List, [], ◌∷◌, ◌++◌, length, append_assoc, take, drop, get_or, refl, sym, ◌∙◌, ap, arith}
use Rattle.std.proofs.lemmas.Bool.{cases_lt}
use Rattle.std.proofs.lemmas.Bool.Decides.{nat_tests}
use Rattle.std.proofs.Math.Seq.{take-length}
use Rattle.std.specs.Fmt.{digit_glyph}
use Rattle.krb_der.specs.Octets.{AreOctets, when}
use Rattle.krb_record.specs.FileNames.{is_plain_in_name, name_octet, name_text}
use Rattle.krb_record.specs.Text.{two_hex}
use Rattle.krb_words.specs.Names.{digit_value, named, named_after_backslash}

-- ---- the escape, undone
glyph_value : (d : ℕ) → d < 16 → digit_value (digit_glyph false d) ≡ d
glyph_value d small = elim (cases_lt d 10) [
  | inl below ↦ let glyph : digit_glyph false d ≡ 48 + d = grind (arith, nat_tests) in
      let digit : digit_value (48 + d) ≡ (48 + d - 48) % 16 = grind (arith, nat_tests) in
      ap digit_value glyph ∙ digit ∙ omega (arith, small)
  | inr above ↦ let glyph : digit_glyph false d ≡ 87 + d = grind (arith, nat_tests) in
      let digit : digit_value (87 + d) ≡ (87 + d - 87) % 16 = grind (arith, nat_tests) in
      ap digit_value glyph ∙ digit ∙ omega (arith, small)
]

octet_named : (o : ℕ) → o < 256 → 16 * digit_value (digit_glyph false (o / 16)) + digit_value (digit_glyph false (o % 16)) ≡ o
octet_named o small =
    let high = glyph_value (o / 16) (omega (arith, small)) in
    let low = glyph_value (o % 16) (omega arith) in
    omega (arith, high, low)

no_backslash : (o : ℕ) → is_plain_in_name o ≡ true → (o == 92) ≡ false
no_backslash o plain = grind (arith, nat_tests)

name_first : (o : ℕ) (rest text : List ℕ) → o < 256 → named text ≡ rest → (plain : Bool) → is_plain_in_name o ≡ plain → named (name_octet o ++ text) ≡ o ∷ rest
name_first o rest text small same true plain =
    let shown : name_octet o ≡ o ∷ [] = rw plain refl in
    let other = no_backslash o plain in
    ap (λ t. named (t ++ text)) shown
    ∙ ap (λ b. when b (λ _. named_after_backslash text) (λ _. o ∷ named text)) other
    ∙ ap (λ t. o ∷ t) same
name_first o rest text small same false hidden =
    let shown : name_octet o ≡ 92 ∷ 120 ∷ two_hex o = rw hidden refl in
    ap (λ t. named (t ++ text)) shown
    ∙ ap (λ n. n ∷ named text) (octet_named o small)
    ∙ ap (λ t. o ∷ t) same

pub name_shown : (name : List ℕ) → AreOctets name → named (name_text name) ≡ name
name_shown [] octets = refl
name_shown (o ∷ name) octets = name_first o name (name_text name) octets.0 (name_shown name octets.1) (is_plain_in_name o) refl

-- ---- from one octet to the next
pub two-digits-named : (first : ℕ) (others : List ℕ) → first ≡ 92 → 3 ≤ length others → named (first ∷ others) ≡ (16 * digit_value (get_or others 1 0) + digit_value (get_or others 2 0)) ∷ named (take (length others - 3) (drop 3 others))
two-digits-named first [] backslash some = absurd (omega arith)
two-digits-named first (a ∷ []) backslash some = absurd (omega arith)
two-digits-named first (a ∷ b ∷ []) backslash some = absurd (omega arith)
two-digits-named first (a ∷ b ∷ d ∷ text) backslash some =
    let all : length (a ∷ b ∷ d ∷ text) - 3 ≡ length text = omega arith in
    rw backslash (ap (λ rest. (16 * digit_value b + digit_value d) ∷ named rest) (sym (ap (λ n. take n text) all ∙ take-length text)))

pub whole : (text : List ℕ) → 1 ≤ length text → get_or text 0 0 ∷ take (length text - 1) (drop 1 text) ≡ text
whole [] some = absurd (omega arith)
whole (first ∷ others) some =
    let all : length (first ∷ others) - 1 ≡ length others = omega arith in
    ap (λ rest. first ∷ rest) (ap (λ n. take n others) all ∙ take-length others)

pub one-named : (text done new rest others : List ℕ) (octet : ℕ) → 1 ≤ length rest → named text ≡ done ++ named rest → named (get_or rest 0 0 ∷ take (length rest - 1) (drop 1 rest)) ≡ octet ∷ named others → new ≡ done ++ octet ∷ [] → named text ≡ new ++ named others
one-named text done new rest others octet some before first is =
    before
    ∙ ap (λ r. done ++ named r) (sym (whole rest some))
    ∙ ap (λ l. done ++ l) first
    ∙ sym (append_assoc done (octet ∷ []) (named others))
    ∙ ap (λ l. l ++ named others) (sym is)
