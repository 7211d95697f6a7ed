-- What is read at an octet.
use Rattle.std.proofs.Common.{ℕ, ◌+◌, ◌==◌, ◌≡◌, Bool, true, false, List, [], ◌∷◌, length, Some, Ok, refl, sym, ap, ◌∙◌, ◌&&◌}
use Rattle.hex.specs.Hex.{hex_digit_value}
use Rattle.krb_der.specs.Octets.{when}
use Rattle.krb_input.specs.Characters.{octet_of, is_x, count_digits}
use Rattle.krb_input.specs.Readings.{prepend, then_octet}
use Rattle.krb_input.specs.Escapes.{escapes, after_backslash}
use Rattle.krb_input.specs.Tokens.{token, tokens, after_x}

-- an escape
pub escape_read : (text others digits following : List ℕ) (first high low octet : ℕ) → text ≡ first ∷ others → others ≡ high ∷ digits → digits ≡ low ∷ following →
    first ≡ 0x78 → Some octet ≡ octet_of high low → (left : ℕ) → after_backslash left text ≡ prepend (octet ∷ []) (escapes following)
escape_read text others digits following first high low octet is_first is_high is_low is_x_first is_octet left =
    ap (after_backslash left) (is_first ∙ ap (λ x. x ∷ others) is_x_first ∙ ap (λ t. 0x78 ∷ t) (is_high ∙ ap (λ t. high ∷ t) is_low))
    ∙ ap (λ o. then_octet o left (escapes following)) (sym is_octet)

-- an octet of a token
token_on : (begins : Bool) (first second octet : ℕ) (following : List ℕ) (prefixed : Bool) → (begins && is_x second) ≡ prefixed → prefixed ≡ false → Some octet ≡ octet_of first second →
    token begins first (second ∷ following) ≡ prepend (octet ∷ []) (tokens false following)
token_on begins first second octet [] prefixed is not_prefixed is_octet = ap (λ o. then_octet o 2 (Ok [])) (sym is_octet)
token_on begins first second octet (third ∷ text) prefixed is not_prefixed is_octet =
    ap (λ p. when p (λ _. after_x (length text + 3) third text (tokens false text) (tokens false (third ∷ text))) (λ _. then_octet (octet_of first second) (length text + 3) (tokens false (third ∷ text)))) (is ∙ not_prefixed)
    ∙ ap (λ o. then_octet o (length text + 3) (tokens false (third ∷ text))) (sym is_octet)

pub octet_read : (begins : Bool) (text following : List ℕ) (first second octet : ℕ) → text ≡ second ∷ following → (begins && is_x second) ≡ false → Some octet ≡ octet_of first second →
    token begins first text ≡ prepend (octet ∷ []) (tokens false following)
octet_read begins text following first second octet is not_prefixed is_octet = ap (token begins first) is ∙ token_on begins first second octet following (begins && is_x second) refl not_prefixed is_octet

-- 0x and one digit
pub lone_read : (begins : Bool) (text digits following : List ℕ) (first second digit octet : ℕ) → text ≡ second ∷ digits → digits ≡ digit ∷ following → (begins && is_x second) ≡ true →
    (count_digits digits == 1) ≡ true → Some octet ≡ hex_digit_value digit → token begins first text ≡ prepend (octet ∷ []) (tokens false following)
lone_read begins text digits following first second digit octet is is_digit prefixed is_lone is_octet =
    ap (token begins first) (is ∙ ap (λ t. second ∷ t) is_digit)
    ∙ ap (λ p. when p (λ _. after_x (length following + 3) digit following (tokens false following) (tokens false (digit ∷ following))) (λ _. then_octet (octet_of first second) (length following + 3) (tokens false (digit ∷ following)))) prefixed
    ∙ ap (λ p. when p (λ _. then_octet (hex_digit_value digit) (length following + 3) (tokens false following)) (λ _. tokens false (digit ∷ following))) (sym (ap (λ t. count_digits t == 1) is_digit) ∙ is_lone)
    ∙ ap (λ o. then_octet o (length following + 3) (tokens false following)) (sym is_octet)

-- 0x before digits
pub prefix_read : (begins : Bool) (text digits following : List ℕ) (first second digit : ℕ) → text ≡ second ∷ digits → digits ≡ digit ∷ following → (begins && is_x second) ≡ true →
    (count_digits digits == 1) ≡ false → token begins first text ≡ tokens false digits
prefix_read begins text digits following first second digit is is_digit prefixed not_lone =
    ap (token begins first) (is ∙ ap (λ t. second ∷ t) is_digit)
    ∙ ap (λ p. when p (λ _. after_x (length following + 3) digit following (tokens false following) (tokens false (digit ∷ following))) (λ _. then_octet (octet_of first second) (length following + 3) (tokens false (digit ∷ following)))) prefixed
    ∙ ap (λ p. when p (λ _. then_octet (hex_digit_value digit) (length following + 3) (tokens false following)) (λ _. tokens false (digit ∷ following))) (sym (ap (λ t. count_digits t == 1) is_digit) ∙ not_lone)
    ∙ ap (tokens false) (sym is_digit)
