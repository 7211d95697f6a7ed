-- Hexadecimal digits with blanks anywhere.
use Rattle.std.specs.Prelude.{ℕ, suc, ◌||◌, Bool, List, [], ◌∷◌, length, Ok, Err}
use Rattle.std.specs.List.{list_all}
use Rattle.hex.specs.Hex.{is_hex_digit}
use Rattle.krb_der.specs.Octets.{when}
use Rattle.krb_input.specs.Characters.{is_blank, octet_of}
use Rattle.krb_input.specs.Readings.{Reading, then_octet}

-- whether a text has digits and blanks alone
abbrev pub are_digits : List ℕ → Bool
are_digits text = list_all (λ octet. is_hex_digit octet || is_blank octet) text

abbrev mutual
  -- Two digits are an octet, and blanks are passed over, also between these two. If the number of digits is odd, one is missing at the end.
  pub digits : List ℕ → Reading
  digits [] = Ok []
  digits (high ∷ text) = when (is_blank high) (λ _. digits text) (λ _. digits_after high text)

  pub digits_after : ℕ → List ℕ → Reading
  digits_after high [] = Err 0
  digits_after high (low ∷ text) = when (is_blank low) (λ _. digits_after high text) (λ _. then_octet (octet_of high low) (suc (length text)) (digits text))
