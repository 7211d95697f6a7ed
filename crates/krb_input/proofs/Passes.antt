-- What is not in a text that passes a test.
use Rattle.std.proofs.Common.{ℕ, zero, suc, ◌≡◌, true, false, Bool, List, [], ◌∷◌, take, drop, ◌==◌, ◌&&◌, ◌||◌, None, refl, sym, ap, ◌∙◌}
use Rattle.std.proofs.lemmas.Bool.{and_parts}
use Rattle.std.specs.List.{list_all, list_any}
use Rattle.hex.specs.Hex.{is_hex_digit}
use Rattle.krb_input.specs.Characters.{is_blank, is_text}
use Rattle.krb_input.specs.Digits.{are_digits}
use Rattle.krb_input.specs.Octets.{first_no_text}
use Rattle.krb_input.specs.Braces.{after_first}
use Rattle.krb_input.specs.Escapes.{has_escape}

pub no_other : (text : List ℕ) → list_all is_text text ≡ true → first_no_text text ≡ None
no_other [] are = refl
no_other (octet ∷ text) are =
    let parts = and_parts (is_text octet) (list_all is_text text) are in
    rw parts.0 (no_other text parts.1)

pub no_first : (octet : ℕ) (text : List ℕ) → list_any (λ one. one == octet) text ≡ false → after_first octet text ≡ None
no_first octet [] none = refl
no_first octet (first ∷ text) none = by (first == octet) refl none (λ others. no_first octet text others)
  where
    by : (same : Bool) → (first == octet) ≡ same → (same || list_any (λ one. one == octet) text) ≡ false → (list_any (λ one. one == octet) text ≡ false → after_first octet text ≡ None) → after_first octet (first ∷ text) ≡ None
    by true is none later = absurd (cc)
    by false is none later = rw is (later none)

pub no_escape : (text : List ℕ) → list_any (λ one. one == 0x5C) text ≡ false → has_escape text ≡ false
no_escape [] none = refl
no_escape (octet ∷ text) none = by (octet == 0x5C) refl none (λ others. no_escape text others)
  where
    by : (same : Bool) → (octet == 0x5C) ≡ same → (same || list_any (λ one. one == 0x5C) text) ≡ false → (list_any (λ one. one == 0x5C) text ≡ false → has_escape text ≡ false) → has_escape (octet ∷ text) ≡ false
    by true is none later = absurd (cc)
    by false is none later = rw is (later none)

-- what follows digits
pub digits_from : (count : ℕ) (text : List ℕ) → list_all is_hex_digit (take count text) ≡ true → are_digits (drop count text) ≡ are_digits text
digits_from zero text are = refl
digits_from (suc count) [] are = refl
digits_from (suc count) (octet ∷ text) are =
    let parts = and_parts (is_hex_digit octet) (list_all is_hex_digit (take count text)) are in
    digits_from count text parts.1 ∙ sym (ap (λ digit. (digit || is_blank octet) && are_digits text) parts.0)
