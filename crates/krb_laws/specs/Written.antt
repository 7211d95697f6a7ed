-- What people write of octets: base64, and dumps.
use Rattle.std.specs.Prelude.{ℕ, zero, suc, ◌+◌, ◌-◌, ◌*◌, ◌/◌, ◌%◌, ◌^◌, ◌<◌, ◌≤◌, ◌≡◌, ⊤, Bool, true, false, ◌==◌, ◌&&◌, ◌||◌, not, nat_lt, if◌then◌else◌, List, [], ◌∷◌, ◌++◌, length, take, drop, replicate, map}
use Rattle.std.specs.Char.{digit_char}
use Rattle.std.specs.List.{AllPass}
use Rattle.base64.specs.Alphabet.{alphabet_symbols}
use Rattle.base64.specs.Alphabets.{standard}
use Rattle.base64.specs.Rfc4648.{encode}
use Rattle.base64.specs.Tables.{is_printable}
use Rattle.hex.specs.Hex.{encode_lower}
use Rattle.krb_input.specs.Dumps.{is_bar}

-- base64 in one line, with `=` at its end (RFC 4648, section 4)
abbrev pub base64_text : List ℕ → List ℕ
base64_text octets = encode (alphabet_symbols standard) 0x3D true octets

-- ---- dumps
-- How each tool lays out a dump, where it leaves out no line (hexdump and od with -v):
--
--   tool             before an offset   offset        base   after it   before octets   a group has    two blanks before   beside octets
--   xxd                                 8 digits      16     `:`        1 blank         2 octets                           in a column
--   hexdump -C                          8 digits      16                2 blanks        1 octet        the ninth octet     `|..|`
--   od -tx1                             7 digits      8                 1 blank         1 octet
--   od -A x -tx1                        6 digits      16                1 blank         1 octet
--   tcpdump -x       a tab              0x, 4 digits  16     `:`        2 blanks        2 octets
--   tshark -x                           4 digits      16                2 blanks        1 octet                            in a column
--   Wireshark                           4 digits      16                3 blanks        1 octet                            in a column
--
-- An offset is the number of octets before its line. After the last line hexdump and od write that of all octets.
pub record Layout : Type 0 where
  pub indent : List ℕ
  pub has_prefix : Bool
  pub digits : ℕ
  pub base : ℕ
  pub has_colon : Bool
  pub gap : ℕ
  -- how many octets a line has, and a group, and before which groups, counted from 0, are two blanks, and not one
  pub width : ℕ
  pub group : ℕ
  pub is_wide : (number : ℕ) → Bool
  pub beside : List ℕ → List ℕ
  pub has_end : Bool

-- octets in rows of so many, the last of which may have fewer. The first argument bounds the recursion: there are no more rows than octets.
abbrev pub rows_of : (fuel size : ℕ) → List ℕ → List (List ℕ)
rows_of fuel size [] = []
rows_of zero size (octet ∷ octets) = []
rows_of (suc fuel) size (octet ∷ octets) = take size (octet ∷ octets) ∷ rows_of fuel size (drop size (octet ∷ octets))

-- the last digits of a number in a base, so many
abbrev pub digits_of : (base digits number : ℕ) → List ℕ
digits_of base zero number = []
digits_of base (suc digits) number = digits_of base digits (number / base) ++ (digit_char (number % base) ∷ [])

abbrev pub prefix_if : Bool → List ℕ
prefix_if true = 0x30 ∷ 0x78 ∷ []
prefix_if false = []

abbrev pub offset_text : Layout → (count : ℕ) → List ℕ
offset_text layout count = layout.indent ++ (prefix_if layout.has_prefix ++ digits_of layout.base layout.digits count)

abbrev pub after_blanks : (are_two : Bool) → List ℕ → List ℕ
after_blanks true text = 0x20 ∷ 0x20 ∷ text
after_blanks false text = 0x20 ∷ text

-- groups of octets, each after blanks, from one with a number on, and what follows them
abbrev pub spaced : (is_wide : ℕ → Bool) → (number : ℕ) → List (List ℕ) → (after : List ℕ) → List ℕ
spaced is_wide number [] after = after
spaced is_wide number (octets ∷ others) after = after_blanks (is_wide number) (encode_lower octets ++ spaced is_wide (suc number) others after)

-- the groups of a line, the first of which comes after a gap
abbrev pub grouped : (gap : ℕ) → (is_wide : ℕ → Bool) → List (List ℕ) → (after : List ℕ) → List ℕ
grouped gap is_wide [] after = after
grouped gap is_wide (octets ∷ others) after = replicate gap 0x20 ++ (encode_lower octets ++ spaced is_wide 1 others after)

abbrev pub colon_if : Bool → List ℕ
colon_if true = 0x3A ∷ []
colon_if false = []

-- a line of octets, before which there are so many: the offset, the octets, and what stands beside them
abbrev pub dump_line : Layout → (count : ℕ) → List ℕ → List ℕ
dump_line layout count octets =
    offset_text layout count ++ (colon_if layout.has_colon ++ grouped layout.gap layout.is_wide (rows_of (length octets) layout.group octets) (layout.beside octets))

abbrev pub dump_end : Layout → (count : ℕ) → List ℕ
dump_end layout count = if layout.has_end then offset_text layout count ++ (0x0A ∷ []) else []

-- lines, each of which ends in LF
abbrev pub dump_lines : Layout → (count : ℕ) → List (List ℕ) → List ℕ
dump_lines layout count [] = dump_end layout count
dump_lines layout count (octets ∷ others) = dump_line layout count octets ++ (0x0A ∷ dump_lines layout (count + length octets) others)

abbrev pub dump_text : Layout → List ℕ → List ℕ
dump_text layout octets = dump_lines layout 0 (rows_of (length octets) layout.width octets)

-- all offsets have so many digits
abbrev pub HasOffsets : Layout → List ℕ → Type 0
HasOffsets layout octets = length octets < layout.base ^ layout.digits

-- A group has at most sixteen octets, or one if no `:` follows an offset.
abbrev pub IsGroup : (has_colon : Bool) → ℕ → Type 0
IsGroup true group = (0 < group) × (group ≤ 16)
IsGroup false group = group ≡ 1

-- what begins the text beside octets, where no `:` follows an offset: `|`, `>` or one more blank
abbrev pub begins_column : List ℕ → Bool
begins_column [] = true
begins_column (octet ∷ text) = octet == 0x20 || is_bar octet

-- Nothing stands beside octets, or two blanks and then printable characters.
abbrev pub IsBeside : (has_colon : Bool) → List ℕ → Type 0
IsBeside has_colon [] = ⊤
IsBeside has_colon (octet ∷ []) = ⊥
IsBeside has_colon (first ∷ second ∷ text) = (first ≡ 0x20) × (second ≡ 0x20) × AllPass is_printable text × ((has_colon || begins_column text) ≡ true)

-- seven digits, and neither 0x nor `:`, are octal, as od's; all others are hexadecimal
abbrev pub base_for : (digits : ℕ) → (has_prefix has_colon : Bool) → ℕ
base_for digits has_prefix has_colon = if digits == 7 && not has_prefix && not has_colon then 8 else 16

-- a layout that can be told from other text
pub record IsLayout (layout : Layout) : Type 0 where
  pub indent : AllPass (λ octet. octet == 0x20 || octet == 0x09) layout.indent
  pub least : 4 ≤ layout.digits
  pub most : layout.digits ≤ 16
  pub base : layout.base ≡ base_for layout.digits layout.has_prefix layout.has_colon
  -- no `:` follows an offset alone
  pub last : layout.has_end ≡ true → layout.base ≡ base_for layout.digits layout.has_prefix false
  pub gap : 0 < layout.gap
  pub some : 0 < layout.width
  pub group : IsGroup layout.has_colon layout.group
  pub narrow : layout.has_colon ≡ true → (number : ℕ) → layout.is_wide number ≡ false
  pub beside : (octets : List ℕ) → IsBeside layout.has_colon (layout.beside octets)

-- ---- tools
-- an octet beside others: itself if it is printable, and else `.`
abbrev pub shown : ℕ → ℕ
shown octet = if is_printable octet then octet else 0x2E

-- two blanks, and octets from a column on, which is so far from the first digit
abbrev pub in_column : (column used : ℕ) → List ℕ → List ℕ
in_column column used text = 0x20 ∷ 0x20 ∷ (replicate (column - used) 0x20 ++ text)

-- what xxd writes beside octets, from where the digits of sixteen octets in groups of two would end
abbrev pub beside_of_xxd : List ℕ → List ℕ
beside_of_xxd octets = in_column 40 (2 * length octets + (length octets + 1) / 2) (map shown octets)

abbrev pub xxd : Layout
xxd = record { indent = []; has_prefix = false; digits = 8; base = 16; has_colon = true; gap = 1; width = 16; group = 2; is_wide = λ number. false; beside = beside_of_xxd; has_end = false }

-- what hexdump -C writes beside octets, which has two blanks before the first octet and the ninth
abbrev pub beside_of_hexdump : List ℕ → List ℕ
beside_of_hexdump octets = in_column 49 (3 * length octets + (if nat_lt 8 (length octets) then 1 else 0)) (0x7C ∷ (map shown octets ++ (0x7C ∷ [])))

abbrev pub hexdump : Layout
hexdump = record {
  indent = [];
  has_prefix = false;
  digits = 8;
  base = 16;
  has_colon = false;
  gap = 2;
  width = 16;
  group = 1;
  is_wide = λ number. number == 8;
  beside = beside_of_hexdump;
  has_end = true;
}

-- what od -tx1 writes has no column; its offsets are octal, or with -A x hexadecimal
abbrev pub od : Layout
od = record { indent = []; has_prefix = false; digits = 7; base = 8; has_colon = false; gap = 1; width = 16; group = 1; is_wide = λ number. false; beside = λ octets. []; has_end = true }

abbrev pub od_hexadecimal : Layout
od_hexadecimal = record od { digits = 6; base = 16 }

abbrev pub tcpdump : Layout
tcpdump = record { indent = 0x09 ∷ []; has_prefix = true; digits = 4; base = 16; has_colon = true; gap = 2; width = 16; group = 2; is_wide = λ number. false; beside = λ octets. []; has_end = false }

-- what tshark -x writes beside octets, one blank after where the digits of sixteen octets and a blank after each would end
abbrev pub beside_of_tshark : List ℕ → List ℕ
beside_of_tshark octets = in_column 48 (3 * length octets) (0x20 ∷ map shown octets)

abbrev pub tshark : Layout
tshark = record { indent = []; has_prefix = false; digits = 4; base = 16; has_colon = false; gap = 2; width = 16; group = 1; is_wide = λ number. false; beside = beside_of_tshark; has_end = false }

abbrev pub wireshark : Layout
wireshark = record tshark { gap = 3 }
