-- A line of JSON (RFC 8259) by its parts, which may have blanks round them, and whose strings may be written with escapes.
use Rattle.std.specs.Prelude.{ℕ, ◌≡◌, ⊤, ◌==◌, ◌||◌, nat_lt, Bool, true, false, if◌then◌else◌, List, [], ◌∷◌, ◌++◌, Option, Some, None, is_some, option_map, option_and_then}
use Rattle.std.specs.Char.{encode_utf8}
use Rattle.std.specs.List.{flat_map}
use Rattle.std.specs.Str.{is_utf8}
use Rattle.json.specs.Print.{IsNumber, token_text}
use Rattle.json.specs.Text.{code_unit, short_escape, is_high_surrogate, is_low_surrogate, surrogate_pair}
use Rattle.json.specs.Token.{Token, number, boolean, null}
use Rattle.json.specs.Word.{is_operator, is_space}
use Rattle.krb_der.specs.declared.profile.Profile.{Profile}
use Rattle.krb_json.specs.Lines.{line_spells}

-- ---- strings (section 7)
-- An octet as it is; a backslash and a letter; a backslash, `u` and four hexadecimal digits; or two of these, for a character above FFFF.
pub data Character : Type 0 where
  Itself : (octet : ℕ) → Character
  Letter : (letter : ℕ) → Character
  Escaped : (a b c d : ℕ) → Character
  Surrogates : (a b c d e f g h : ℕ) → Character

abbrev pub character_text : Character → List ℕ
character_text (Itself octet) = octet ∷ []
character_text (Letter letter) = 0x5C ∷ letter ∷ []
character_text (Escaped a b c d) = 0x5C ∷ 0x75 ∷ a ∷ b ∷ c ∷ d ∷ []
character_text (Surrogates a b c d e f g h) = 0x5C ∷ 0x75 ∷ a ∷ b ∷ c ∷ d ∷ 0x5C ∷ 0x75 ∷ e ∷ f ∷ g ∷ h ∷ []

-- the octets, in UTF-8, that a character is written for, if it may be written so
abbrev pub octets_of_character : Character → Option (List ℕ)
octets_of_character (Itself octet) = if nat_lt octet 0x20 || octet == 0x22 || octet == 0x5C then None else Some (octet ∷ [])
octets_of_character (Letter letter) = option_map (λ octet. octet ∷ []) (short_escape letter)
octets_of_character (Escaped a b c d) =
    option_and_then (λ unit. if is_high_surrogate unit || is_low_surrogate unit then None else Some (encode_utf8 unit)) (code_unit a b c d)
octets_of_character (Surrogates a b c d e f g h) =
    option_and_then (λ high. if is_high_surrogate high then option_and_then (λ low. if is_low_surrogate low then Some (encode_utf8 (surrogate_pair high low)) else None) (code_unit e f g h) else None) (code_unit a b c d)

abbrev pub octets_of_string : List Character → Option (List ℕ)
octets_of_string [] = Some []
octets_of_string (first ∷ others) = option_and_then (λ octets. option_map (λ rest. octets ++ rest) (octets_of_string others)) (octets_of_character first)

-- ---- parts (section 2)
-- A blank; one of `{`, `}`, `[`, `]`, `:` and `,`; a number, `true`, `false` or `null`; or a string.
pub data Part : Type 0 where
  Blank : (octet : ℕ) → Part
  Mark : (octet : ℕ) → Part
  Word : (word : Token) → Part
  String : (characters : List Character) → Part

abbrev pub part_text : Part → List ℕ
part_text (Blank octet) = octet ∷ []
part_text (Mark octet) = octet ∷ []
part_text (Word word) = token_text word
part_text (String characters) = 0x22 ∷ (flat_map character_text characters ++ 0x22 ∷ [])

abbrev pub text_of : List Part → List ℕ
text_of parts = flat_map part_text parts

-- what a part means: of a blank nothing, and of a string the octets
pub data Meant : Type 0 where
  AMark : (octet : ℕ) → Meant
  AWord : (word : Token) → Meant
  AString : (octets : Option (List ℕ)) → Meant

abbrev pub meant : Part → List Meant
meant (Blank octet) = []
meant (Mark octet) = AMark octet ∷ []
meant (Word word) = AWord word ∷ []
meant (String characters) = AString (octets_of_string characters) ∷ []

abbrev pub IsWord : Token → Type 0
IsWord (number text) = IsNumber text
IsWord (boolean holds) = ⊤
IsWord null = ⊤
IsWord other = ⊥

-- a word ends before a blank and before a mark, and with the line
abbrev pub end_a_word : List Part → Bool
end_a_word [] = true
end_a_word (Blank octet ∷ parts) = true
end_a_word (Mark octet ∷ parts) = true
end_a_word (Word word ∷ parts) = false
end_a_word (String characters ∷ parts) = false

-- parts that may stand one after another
abbrev pub AreParts : List Part → Type 0
AreParts [] = ⊤
AreParts (Blank octet ∷ parts) = (is_space octet ≡ true) × AreParts parts
AreParts (Mark octet ∷ parts) = (is_operator octet ≡ true) × AreParts parts
AreParts (Word word ∷ parts) = IsWord word × (end_a_word parts ≡ true) × AreParts parts
AreParts (String characters ∷ parts) = (is_some (octets_of_string characters) ≡ true) × AreParts parts

-- Lines whose parts mean the same, whatever blanks they have and however their strings are written, spell the same message, or have the same fault. They are in UTF-8 (section 8.1).
abbrev pub BlanksAndEscapesChangeNothing : Type 0
BlanksAndEscapesChangeNothing =
    (profile : Profile) (limit : ℕ) (parts others : List Part) → AreParts parts → AreParts others → is_utf8 (text_of parts) ≡ true → is_utf8 (text_of others) ≡ true
    → flat_map meant parts ≡ flat_map meant others → line_spells profile limit (text_of parts) ≡ line_spells profile limit (text_of others)
