-- Base64 (RFC 4648, section 4), with blanks anywhere.
use Rattle.std.specs.Prelude.{ℕ, suc, ◌+◌, ◌-◌, ◌*◌, ◌/◌, ◌%◌, ◌==◌, ◌&&◌, nat_le, not, if◌then◌else◌, List, [], ◌∷◌, length, Option, Some, None}
use Rattle.std.specs.Option.{option_map, option_and_then}
use Rattle.krb_der.specs.Octets.{when}
use Rattle.krb_input.specs.Characters.{is_blank, skip_blanks}
use Rattle.krb_input.specs.Readings.{Reading, prepend, unless}
use Rattle.krb_input.specs.declared.base64.Bits.{Bits}
use Rattle.krb_input.specs.declared.base64.Bits.TheVariants.{Whole, Six, Four, Two}

-- the six bits of a character: A to Z, a to z, 0 to 9, + and / are 0 to 63
abbrev pub character_value : ℕ → Option ℕ
character_value c =
    if nat_le 0x41 c && nat_le c 0x5A then Some (c - 0x41)
    else if nat_le 0x61 c && nat_le c 0x7A then Some (c - 0x61 + 26)
    else if nat_le 0x30 c && nat_le c 0x39 then Some (c - 0x30 + 52)
    else if c == 0x2B then Some 62
    else if c == 0x2F then Some 63
    else None

-- the octet that bits make with six more, if they are eight
abbrev pub made : Bits → ℕ → List ℕ
made Whole value = []
made (Six bits) value = (bits * 4 + value / 16) ∷ []
made (Four bits) value = (bits * 16 + value / 4) ∷ []
made (Two bits) value = (bits * 64 + value) ∷ []

-- the bits that are left after that
abbrev pub kept : Bits → ℕ → Bits
kept Whole value = Six value
kept (Six bits) value = Four (value % 16)
kept (Four bits) value = Two (value % 4)
kept (Two bits) value = Whole

-- how many `=` are due: characters and these are a multiple of four
abbrev pub due : Bits → ℕ
due Whole = 0
due (Six bits) = 0
due (Four bits) = 2
due (Two bits) = 1

-- At the end a character is missing after a lone one, and bits that are left are 0. The number is how many octets are left from the last character on.
abbrev pub bits_fault : Bits → (last : ℕ) → Option ℕ
bits_fault Whole last = None
bits_fault (Six bits) last = Some 0
bits_fault (Four bits) last = if bits == 0 then None else Some last
bits_fault (Two bits) last = if bits == 0 then None else Some last

-- as many `=` as are due, and blanks
abbrev pub padding_fault : (due : ℕ) → List ℕ → Option ℕ
padding_fault due [] = if due == 0 then None else Some 0
padding_fault due (octet ∷ text) =
    when (is_blank octet) (λ _. padding_fault due text) (λ _.
    when (octet == 0x3D && not (due == 0)) (λ _. padding_fault (due - 1) text) (λ _. Some (suc (length text))))

-- the first fault of two
abbrev pub or_else : Option ℕ → Option ℕ → Option ℕ
or_else None other = other
or_else (Some left) other = Some left

-- the octets of six bits more and of what follows; or the padding
abbrev pub then_character : Option ℕ → (character : ℕ → Reading) → (padding : Unit {0} → Reading) → Reading
then_character None character padding = padding tt
then_character (Some value) character padding = character value

-- the octets of characters after bits that are left of those before, the last of which had so many octets left
abbrev pub base64_from : Bits → (last : ℕ) → List ℕ → Reading
base64_from bits last [] = unless (bits_fault bits last)
base64_from bits last (octet ∷ text) =
    when (is_blank octet) (λ _. base64_from bits last text) (λ _.
    then_character (character_value octet) (λ value. prepend (made bits value) (base64_from (kept bits value) (suc (length text)) text))
    (λ _. unless (or_else (padding_fault (due bits) (octet ∷ text)) (bits_fault bits last))))

abbrev pub base64 : List ℕ → Reading
base64 text = base64_from Whole 0 text

-- the octet of two characters
abbrev pub octet_of_characters : ℕ → ℕ → Option ℕ
octet_of_characters first second = option_and_then (λ high. option_map (λ low. high * 4 + low / 16) (character_value second)) (character_value first)

abbrev pub octet_of_two : ℕ → List ℕ → Option ℕ
octet_of_two first [] = None
octet_of_two first (second ∷ text) = octet_of_characters first second

abbrev pub octet_of_first : List ℕ → Option ℕ
octet_of_first [] = None
octet_of_first (first ∷ text) = octet_of_two first (skip_blanks text)

-- the first octet of a text in base64, if it has two characters
abbrev pub first_octet : List ℕ → Option ℕ
first_octet text = octet_of_first (skip_blanks text)
