-- Hexadecimal tokens with marks between them: an array of C or of Python, or octets with : or - between.
use Rattle.std.specs.Prelude.{ℕ, suc, ◌+◌, ◌%◌, ◌==◌, ◌&&◌, ◌||◌, not, Bool, true, false, List, [], ◌∷◌, length, Option, Some, None, Ok, Err}
use Rattle.hex.specs.Hex.{hex_digit_value, is_hex_digit}
use Rattle.krb_der.specs.Octets.{when}
use Rattle.krb_input.specs.Characters.{is_blank, is_x, octet_of, count_digits}
use Rattle.krb_input.specs.Readings.{Reading, then_octet}

-- marks are blanks and , ; : - " ' [ ] ( )
abbrev pub is_mark : ℕ → Bool
is_mark octet =
    is_blank octet || octet == 0x2C || octet == 0x3B || octet == 0x3A || octet == 0x2D || octet == 0x22 || octet == 0x27 || octet == 0x5B
    || octet == 0x5D || octet == 0x28 || octet == 0x29

-- How many octets are left from the first on that is no digit, no mark and no x after 0, if there is one. The first argument says whether a 0 comes before the text.
abbrev pub first_unfit : Bool → List ℕ → Option ℕ
first_unfit is_after_zero [] = None
first_unfit is_after_zero (octet ∷ text) =
    when (is_hex_digit octet || is_mark octet || is_after_zero && is_x octet) (λ _. first_unfit (octet == 0x30) text) (λ _. Some (suc (length text)))

-- a token's digits are even in number
abbrev pub are_whole : ℕ → Bool
are_whole count = not (count == 0) && (count % 2 == 0)

-- whether a token begins a text: digits, maybe after 0x, where one digit is enough
abbrev pub is_token : List ℕ → Bool
is_token [] = false
is_token (first ∷ []) = false
is_token (first ∷ second ∷ text) =
    when (first == 0x30 && is_x second) (λ _. count_digits text == 1 || are_whole (count_digits text)) (λ _. are_whole (count_digits (first ∷ second ∷ text)))

-- after 0x, with so many octets left from there on: one digit is an octet; or else two are
abbrev pub after_x : (left : ℕ) → ℕ → List ℕ → (after_one after_none : Reading) → Reading
after_x left digit text after_one after_none =
    when (count_digits (digit ∷ text) == 1) (λ _. then_octet (hex_digit_value digit) left after_one) (λ _. after_none)

abbrev mutual
  -- The octets of tokens. The first argument says whether a token may begin here; else the text goes on after an octet of one.
  pub tokens : Bool → List ℕ → Reading
  tokens begins [] = Ok []
  tokens begins (octet ∷ text) =
      when (is_mark octet) (λ _. tokens true text) (λ _.
      when (begins && not (is_token (octet ∷ text))) (λ _. Err (suc (length text))) (λ _. token begins octet text))

  -- the octets of a token that begins here and is whole, or goes on here, and then those of what follows it
  pub token : Bool → ℕ → List ℕ → Reading
  token begins first [] = Err 1
  token begins first (second ∷ []) = then_octet (octet_of first second) 2 (Ok [])
  token begins first (second ∷ third ∷ text) =
      when (begins && is_x second) (λ _. after_x (length text + 3) third text (tokens false text) (tokens false (third ∷ text)))
      (λ _. then_octet (octet_of first second) (length text + 3) (tokens false (third ∷ text)))
