-- The characters of base64.
use Rattle.std.proofs.Common.{ℕ, ◌+◌, ◌*◌, ◌/◌, ◌%◌, ◌==◌, ◌≡◌, ◌<◌, ◌||◌, Bool, true, false, List, [], ◌∷◌, length, slice_index, replicate, Option, Some, None, refl, ap, arith}
use Rattle.std.proofs.lemmas.Bool.{eqb-true}
use Rattle.std.proofs.lemmas.Bool.Decides.{nat_tests}
use Rattle.std.proofs.lemmas.List.Elements.{All-append, All-from_recursion, All-nil, All-replicate}
use Rattle.std.specs.List.{AllPass}
use Rattle.std.specs.Option.{is_some}
use Rattle.base64.specs.Alphabet.{alphabet_symbols}
use Rattle.base64.specs.Alphabets.{standard}
use Rattle.base64.specs.Rfc4648.{encode_group, encode_one, encode_symbols, encode_two, padding_len}
use Rattle.base64.proofs.Tables.{all_below_at}
use Rattle.krb_der.specs.Octets.{AreOctets}
use Rattle.krb_input.specs.Base64.{character_value}
use Rattle.krb_input.specs.Characters.{is_blank}
use Rattle.krb_input.specs.Dumps.{is_number}
use Rattle.krb_laws.specs.Written.{base64_text}

-- the character of six bits
abbrev pub symbol : ℕ → ℕ
symbol value = slice_index (alphabet_symbols standard) value

abbrev reads_back : ℕ → Bool
reads_back value = is_number value (character_value (symbol value))

pub some_number : (value : ℕ) (found : Option ℕ) → is_number value found ≡ true → found ≡ Some value
some_number value None is = absurd (cc)
some_number value (Some number) is = ap Some (eqb-true number value is)

pub symbol_value : (value : ℕ) → value < 64 → character_value (symbol value) ≡ Some value
symbol_value value small = some_number value (character_value (symbol value)) (all_below_at reads_back 64 value refl small)

-- ---- characters, with `=`
abbrev pub is_character : ℕ → Bool
is_character octet = is_some (character_value octet) || octet == 0x3D

abbrev pub IsCharacter : ℕ → Type 0
IsCharacter octet = is_character octet ≡ true

abbrev pub AreCharacters : List ℕ → Type 0
AreCharacters text = AllPass is_character text

pub character_no_blank : (octet : ℕ) → is_character octet ≡ true → is_blank octet ≡ false
character_no_blank octet is = grind (arith, nat_tests)

pub symbol_character : (value : ℕ) → value < 64 → is_character (symbol value) ≡ true
symbol_character value small = ap (λ v. is_some v || symbol value == 0x3D) (symbol_value value small)

symbols_characters : (octets : List ℕ) → AreOctets octets → AreCharacters (encode_symbols (alphabet_symbols standard) octets)
unfolding encode_symbols
symbols_characters [] are = All-nil IsCharacter
symbols_characters (a ∷ []) are =
    let first : a < 256 = are.0 in
    All-from_recursion IsCharacter (encode_one (alphabet_symbols standard) a) (symbol_character (a / 4) (omega arith), (symbol_character (a % 4 * 16) (omega arith), tt))
symbols_characters (a ∷ b ∷ []) are =
    let first : a < 256 = are.0 in
    let second : b < 256 = are.1.0 in
    All-from_recursion IsCharacter (encode_two (alphabet_symbols standard) a b)
    (symbol_character (a / 4) (omega arith), (symbol_character (a % 4 * 16 + b / 16) (omega arith), (symbol_character (b % 16 * 4) (omega arith), tt)))
symbols_characters (a ∷ b ∷ c ∷ octets) are =
    let first : a < 256 = are.0 in
    let second : b < 256 = are.1.0 in
    let third : c < 256 = are.1.1.0 in
    All-append IsCharacter (encode_group (alphabet_symbols standard) a b c) (encode_symbols (alphabet_symbols standard) octets)
    (All-from_recursion IsCharacter (encode_group (alphabet_symbols standard) a b c)
    (symbol_character (a / 4) (omega arith), (symbol_character (a % 4 * 16 + b / 16) (omega arith), (symbol_character (b % 16 * 4 + c / 64) (omega arith), (symbol_character (c % 64) (omega arith), tt)))))
    (symbols_characters octets are.1.1.1)

pub text_characters : (octets : List ℕ) → AreOctets octets → AreCharacters (base64_text octets)
text_characters octets are =
    All-append IsCharacter (encode_symbols (alphabet_symbols standard) octets) (replicate (padding_len (length octets)) 0x3D) (symbols_characters octets are) (All-replicate IsCharacter (padding_len (length octets)) 0x3D refl)
