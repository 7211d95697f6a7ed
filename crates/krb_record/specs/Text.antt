-- The pieces of the printed lines, as lists of ASCII codes.
use Rattle.std.specs.Prelude.{ℕ, ◌/◌, ◌%◌, Bool, true, false, not, ◌&&◌, ◌||◌, ◌==◌, nat_le, ◌≤◌, List, [], ◌∷◌, ◌++◌, Option, Some, None, codes, if◌then◌else◌}
use Rattle.std.specs.List.{AllByRecursion, flat_map}
use Rattle.krb_der.specs.Octets.{AreOctets}
use Rattle.std.specs.Fmt.{digit_glyph}

-- 21 to 7E but `/`, `@` and `\`
abbrev pub is_plain : ℕ → Bool
is_plain octet = nat_le 0x21 octet && nat_le octet 0x7E && not (octet == 0x2F || octet == 0x40 || octet == 0x5C)

-- an octet as two hexadecimal digits in lower case
abbrev pub two_hex : ℕ → List ℕ
two_hex octet = digit_glyph false (octet / 16) ∷ digit_glyph false (octet % 16) ∷ []

abbrev pub hex : List ℕ → List ℕ
hex octets = flat_map two_hex octets

-- an octet itself, or `\x` and its two digits
abbrev pub escape_octet : ℕ → List ℕ
escape_octet octet = if is_plain octet then octet ∷ [] else codes "\\x" ++ two_hex octet

abbrev pub escape : List ℕ → List ℕ
escape octets = flat_map escape_octet octets

-- the text of each element, with a separator between two; another text if there is no element
abbrev pub joined : {A : Type 0} → List ℕ → List ℕ → (A → List ℕ) → List A → List ℕ
joined none separator text [] = none
joined none separator text (first ∷ others) = text first ++ flat_map (λ other. separator ++ text other) others

-- the components joined by `/`, or `\-` if there is none
abbrev pub components_text : List (List ℕ) → List ℕ
components_text components = joined (codes "\\-") (codes "/") escape components

unfoldable pub principal_text : List (List ℕ) → List ℕ → List ℕ
principal_text components realm = components_text components ++ codes "@" ++ escape realm

-- what is absent is `-`
abbrev pub or_dash : {A : Type 0} → (A → List ℕ) → Option A → List ℕ
or_dash text None = codes "-"
or_dash text (Some value) = text value

-- elements in brackets
abbrev pub list_text : {A : Type 0} → (A → List ℕ) → List A → List ℕ
list_text text values = codes "[" ++ joined [] (codes ",") text values ++ codes "]"

abbrev pub yes_or_no : Bool → List ℕ
yes_or_no true = codes "yes"
yes_or_no false = codes "no"

abbrev pub line_feed : List ℕ
line_feed = 10 ∷ []

-- each is a blank or a graphic character of ASCII
abbrev pub IsPrintable : List ℕ → Type 0
IsPrintable text = AllByRecursion (λ c. (32 ≤ c) × (c ≤ 126)) text

abbrev pub AllAreOctets : List (List ℕ) → Type 0
AllAreOctets lists = AllByRecursion AreOctets lists
