-- The octets of strings, of times and of flags as texts, and back.
use Rattle.std.specs.Prelude.{ℕ, zero, suc, ◌+◌, ◌-◌, ◌*◌, ◌==◌, ◌&&◌, ◌||◌, not, nat_le, if◌then◌else◌, Bool, false, List, [], ◌∷◌, ◌++◌, length, Option, Some, None, codes}
use Rattle.std.specs.Option.{option_map, option_and_then}
use Rattle.std.specs.List.{flat_map, list_any}
use Rattle.hex.specs.Hex.{encode_lower, hex_digit_value}
use Rattle.krb_der.specs.Octets.{when}

-- ---- strings: a KerberosString has any octets (RFC 4120, 5.2.1)
-- 20 to 7E but `\` are shown as themselves
abbrev pub is_shown_itself : ℕ → Bool
is_shown_itself octet = nat_le 0x20 octet && nat_le octet 0x7E && not (octet == 0x5C)

-- and each other octet as `\x` and its two hexadecimal digits
abbrev pub shown_octet : ℕ → List ℕ
shown_octet octet = if is_shown_itself octet then octet ∷ [] else codes "\\x" ++ encode_lower (octet ∷ [])

abbrev pub shown : List ℕ → List ℕ
shown octets = flat_map shown_octet octets

-- the octet of two hexadecimal digits, of either case
abbrev pub octet_of : ℕ → ℕ → Option ℕ
octet_of high low = option_and_then (λ h. option_map (λ l. 16 * h + l) (hex_digit_value low)) (hex_digit_value high)

abbrev mutual
  -- The octets that a text shows: `\x` and two hexadecimal digits are one octet, `\` is nowhere else, each other octet is itself.
  pub unshown : List ℕ → Option (List ℕ)
  unshown [] = Some []
  unshown (octet ∷ text) = when (octet == 0x5C) (λ _. unshown_after_backslash text) (λ _. option_map (λ octets. octet ∷ octets) (unshown text))

  pub unshown_after_backslash : List ℕ → Option (List ℕ)
  unshown_after_backslash (x ∷ high ∷ low ∷ text) =
      when (x == 0x78) (λ _. option_and_then (λ octet. option_map (λ octets. octet ∷ octets) (unshown text)) (octet_of high low)) (λ _. None)
  unshown_after_backslash text = None

-- ---- times
-- n digits and a Z; a KerberosTime has fourteen (RFC 4120, 5.2.3)
abbrev pub is_time_from : ℕ → List ℕ → Bool
is_time_from zero (last ∷ []) = last == 90
is_time_from (suc digits) (digit ∷ octets) = nat_le 48 digit && nat_le digit 57 && is_time_from digits octets
is_time_from digits octets = false

-- ---- numbers
-- a number is an integer if it has no `.`, no `e` and no `E`
abbrev pub is_integer : List ℕ → Bool
is_integer text = not (list_any (λ c. c == 0x2E || c == 0x65 || c == 0x45) text)

-- ---- flags
-- how many bits there are in octets of which the last has unused bits
abbrev pub bit_count : ℕ × List ℕ → ℕ
bit_count bits = 8 * length bits.1 - bits.0
