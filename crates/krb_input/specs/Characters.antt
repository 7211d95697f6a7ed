-- What octets stand for in a text.
use Rattle.std.specs.Prelude.{ℕ, suc, ◌+◌, ◌*◌, ◌==◌, ◌&&◌, ◌||◌, nat_le, Bool, false, List, [], ◌∷◌, Option}
use Rattle.std.specs.Option.{option_map, option_and_then}
use Rattle.hex.specs.Hex.{hex_digit_value, is_hex_digit}
use Rattle.krb_der.specs.Octets.{when}

-- a blank is a space, a tab, CR or LF
abbrev pub is_blank : ℕ → Bool
is_blank octet = octet == 0x20 || octet == 0x09 || octet == 0x0D || octet == 0x0A

-- text is what is printed (20 to 7E) and blanks
abbrev pub is_text : ℕ → Bool
is_text octet = (nat_le 0x20 octet && nat_le octet 0x7E) || is_blank octet

-- the octet of two hexadecimal digits, of either case
abbrev pub octet_of : ℕ → ℕ → Option ℕ
octet_of high low = option_and_then (λ h. option_map (λ l. 16 * h + l) (hex_digit_value low)) (hex_digit_value high)

-- whether a blank is the first of a text
abbrev pub begins_blank : List ℕ → Bool
begins_blank [] = false
begins_blank (first ∷ text) = is_blank first

-- what follows the blanks that a text begins with
abbrev pub skip_blanks : List ℕ → List ℕ
skip_blanks [] = []
skip_blanks (octet ∷ text) = when (is_blank octet) (λ _. skip_blanks text) (λ _. octet ∷ text)

-- how many digits a text begins with
abbrev pub count_digits : List ℕ → ℕ
count_digits [] = 0
count_digits (octet ∷ text) = when (is_hex_digit octet) (λ _. suc (count_digits text)) (λ _. 0)

-- how many octets come before the first of an octet, or in all
abbrev pub length_before : ℕ → List ℕ → ℕ
length_before octet [] = 0
length_before octet (first ∷ text) = when (first == octet) (λ _. 0) (λ _. suc (length_before octet text))

-- the x of 0x, of either case
abbrev pub is_x : ℕ → Bool
is_x octet = octet == 0x78 || octet == 0x58
