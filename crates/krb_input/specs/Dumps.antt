-- Dumps: lines of an offset and of octets in hexadecimal.
use Rattle.std.specs.Prelude.{ℕ, suc, ◌+◌, ◌*◌, ◌%◌, ◌==◌, ◌&&◌, ◌||◌, nat_le, not, Bool, true, false, if◌then◌else◌, List, [], ◌∷◌, length, drop, take, Option, Some, None, Result, Ok, Err}
use Rattle.std.specs.Option.{option_and_then}
use Rattle.hex.specs.Hex.{hex_digit_value}
use Rattle.krb_der.specs.Octets.{when, begins_with}
use Rattle.krb_input.specs.Characters.{is_blank, begins_blank, skip_blanks, count_digits, is_x, octet_of}
use Rattle.krb_input.specs.Readings.{Reading, prepend, then_octet}

-- ---- offsets
-- whether 0x comes first
abbrev pub is_prefixed : List ℕ → Bool
is_prefixed (digit ∷ x ∷ text) = digit == 0x30 && is_x x
is_prefixed text = false

-- what follows 0x, if it comes first
abbrev pub without_prefix : List ℕ → List ℕ
without_prefix text = if is_prefixed text then drop 2 text else text

abbrev pub digit_below : ℕ → ℕ → Option ℕ
digit_below base value = if nat_le base value then None else Some value

-- the number that digits of a base spell, after a number read so far
abbrev pub number_from : (base number : ℕ) → List ℕ → Option ℕ
number_from base number [] = Some number
number_from base number (digit ∷ digits) =
    option_and_then (λ value. number_from base (number * base + value) digits) (option_and_then (digit_below base) (hex_digit_value digit))

-- an offset has 4 to 16 digits
abbrev pub is_offset_long : ℕ → Bool
is_offset_long digits = nat_le 4 digits && nat_le digits 16

-- od's offsets, of seven digits and neither 0x nor `:`, are octal; all others are hexadecimal
abbrev pub offset_base : (prefixed : Bool) → (digits : ℕ) → (after : List ℕ) → ℕ
offset_base prefixed digits after = if digits == 7 && not prefixed && not (begins_with 0x3A after) then 8 else 16

abbrev pub is_number : ℕ → Option ℕ → Bool
is_number count None = false
is_number count (Some number) = number == count

-- whether a number of digits of a text are an offset, and say the count of the octets before the line
abbrev pub is_offset : (count : ℕ) → (prefixed : Bool) → (digits : ℕ) → List ℕ → Bool
is_offset count prefixed digits text =
    is_offset_long digits && is_number count (number_from (offset_base prefixed digits (drop digits text)) 0 (take digits text))

-- what follows the offset at the beginning of a line, if it is the count
abbrev pub after_digits : (count : ℕ) → (prefixed : Bool) → List ℕ → Option (List ℕ)
after_digits count prefixed text = if is_offset count prefixed (count_digits text) text then Some (drop (count_digits text) text) else None

abbrev pub after_offset : (count : ℕ) → List ℕ → Option (List ℕ)
after_offset count line = after_digits count (is_prefixed line) (without_prefix line)

-- ---- octets
-- a group of words, after a `:`, has 2 to 32 digits, an even number; any other has two
abbrev pub is_group : (are_words : Bool) → (digits : ℕ) → Bool
is_group true digits = nat_le 2 digits && nat_le digits 32 && (digits % 2 == 0)
is_group false digits = digits == 2

-- how many blanks there are at most between groups
abbrev pub most_blanks : (are_words : Bool) → ℕ
most_blanks true = 1
most_blanks false = 2

-- `|` or `>` begins the text beside octets
abbrev pub is_bar : ℕ → Bool
is_bar octet = octet == 0x7C || octet == 0x3E

-- whether an octet begins the text beside octets here
abbrev pub ends_groups : (are_words : Bool) → (blanks : ℕ) → ℕ → Bool
ends_groups are_words blanks octet = not (blanks == 0) && not are_words && is_bar octet

-- whether a group that does not fit begins here
abbrev pub begins_wrong : (are_words : Bool) → (blanks digits : ℕ) → Bool
begins_wrong are_words blanks digits = not (blanks == 0) && not (is_group are_words digits)

abbrev mutual
  -- The octets of groups, after a number of blanks, which is 0 in a group. They end where more blanks follow than are between groups; what comes then is not read.
  pub groups : (are_words : Bool) → (blanks : ℕ) → List ℕ → Reading
  groups are_words blanks [] = Ok []
  groups are_words blanks (octet ∷ text) =
      when (is_blank octet) (λ _. when (blanks == most_blanks are_words) (λ _. Ok []) (λ _. groups are_words (suc blanks) text)) (λ _.
      when (ends_groups are_words blanks octet) (λ _. Ok []) (λ _.
      when (begins_wrong are_words blanks (count_digits (octet ∷ text))) (λ _. Err (suc (length text))) (λ _. pairs are_words octet text)))

  -- two digits, and then what follows them
  pub pairs : (are_words : Bool) → ℕ → List ℕ → Reading
  pairs are_words high [] = Err 1
  pairs are_words high (low ∷ text) = then_octet (octet_of high low) (suc (suc (length text))) (groups are_words 0 text)

-- the octets of groups, the first of which comes after blanks
abbrev pub first_group : (are_words : Bool) → List ℕ → Reading
first_group are_words text =
    when (begins_blank text && not (count_digits (skip_blanks text) == 0)) (λ _. groups are_words 1 (skip_blanks text)) (λ _. Err (length (skip_blanks text)))

-- ---- lines
-- What a line has: octets, or none if it is an offset alone, which the last line may be.
abbrev pub Line : Type 0
Line = Result (Option (List ℕ)) ℕ

abbrev pub line_of : Reading → Line
line_of (Ok octets) = Ok (Some octets)
line_of (Err left) = Err left

-- what comes after an offset that no `:` follows: blanks alone, or groups
abbrev pub blanks_or_groups : (groups : List ℕ) → List ℕ → Line
blanks_or_groups [] text = Ok None
blanks_or_groups (first ∷ others) text = line_of (first_group false text)

-- what comes after an offset, which was at the beginning of so many octets that are left
abbrev pub after_offset_read : (left : ℕ) → List ℕ → Line
after_offset_read left [] = Ok None
after_offset_read left (first ∷ text) =
    when (first == 0x3A) (λ _. line_of (first_group true text)) (λ _.
    when (is_blank first) (λ _. blanks_or_groups (skip_blanks text) (first ∷ text)) (λ _. Err left))

abbrev pub offset_read : (left : ℕ) → Option (List ℕ) → Line
offset_read left None = Err left
offset_read left (Some text) = after_offset_read left text

-- a line without the blanks that it begins with
abbrev pub line_begun : (count : ℕ) → List ℕ → Line
line_begun count [] = Ok (Some [])
line_begun count (first ∷ text) = offset_read (length (first ∷ text)) (after_offset count (first ∷ text))

-- what a line has, before which there are so many octets
abbrev pub line : (count : ℕ) → List ℕ → Line
line count text = line_begun count (skip_blanks text)

-- the lines of a text, each with the text from its end on
abbrev pub with_first : ℕ → List (List ℕ × List ℕ) → List (List ℕ × List ℕ)
with_first octet [] = []
with_first octet (first ∷ others) = (octet ∷ first.0, first.1) ∷ others

abbrev pub lines : List ℕ → List (List ℕ × List ℕ)
lines [] = ([], []) ∷ []
lines (octet ∷ text) = when (octet == 0x0A) (λ _. ([], octet ∷ text) ∷ lines text) (λ _. with_first octet (lines text))

-- no octets, if a text has blanks alone
abbrev pub blanks_alone : List ℕ → Reading
blanks_alone [] = Ok []
blanks_alone (octet ∷ text) = Err (suc (length text))

-- a line that a text follows, which has to have blanks alone if the line was the last; the octets of the lines after it are taken after its own
abbrev pub then_lines : (following : List ℕ) → Line → (List ℕ → Reading) → Reading
then_lines following (Err left) others = Err (left + length following)
then_lines following (Ok None) others = blanks_alone (skip_blanks following)
then_lines following (Ok (Some octets)) others = prepend octets (others octets)

-- The octets of lines, before which there are so many octets.
abbrev pub dump_from : (count : ℕ) → List (List ℕ × List ℕ) → Reading
dump_from count [] = Ok []
dump_from count (first ∷ others) = then_lines first.1 (line count first.0) (λ octets. dump_from (count + length octets) others)

abbrev pub dump : List ℕ → Reading
dump text = dump_from 0 (lines text)

-- ---- how a dump begins
abbrev pub count_zeros : List ℕ → ℕ
count_zeros [] = 0
count_zeros (octet ∷ text) = when (octet == 0x30) (λ _. suc (count_zeros text)) (λ _. 0)

-- what follows the first offset: `:`, blanks and two digits; or blanks and a group of two digits; or a blank, if the offset is as od's
abbrev pub begins_octets : (as_of_od : Bool) → List ℕ → Bool
begins_octets as_of_od [] = false
begins_octets as_of_od (first ∷ text) =
    if first == 0x3A then begins_blank text && nat_le 2 (count_digits (skip_blanks text))
    else is_blank first && (count_digits (skip_blanks text) == 2 || as_of_od)

abbrev pub begins_after : (prefixed : Bool) → (zeros : ℕ) → List ℕ → Bool
begins_after prefixed zeros text = is_offset_long zeros && begins_octets (zeros == 7 && not prefixed) (drop zeros text)

-- whether a text begins as a dump: with an offset of zeros, and octets
abbrev pub begins_dump : List ℕ → Bool
begins_dump text =
    begins_after (is_prefixed (skip_blanks text)) (count_zeros (without_prefix (skip_blanks text))) (without_prefix (skip_blanks text))
