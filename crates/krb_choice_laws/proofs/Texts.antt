-- Texts that a cell has as they are: words, digits, addresses, and strings as objects have them.
use Rattle.std.proofs.Common.{◌≡◌, ◌∙◌, ℕ, zero, suc, ◌/◌, ◌%◌, ◌<◌, ◌==◌, nat_le, ◌&&◌, ◌||◌, not, Bool, true, false, cond, inl, inr, List, [], ◌∷◌, ◌++◌, sym, refl, ap, ap₂, subst, arith, codes}
use Rattle.std.proofs.lemmas.Bool.{and_parts, or_cases}
use Rattle.std.proofs.lemmas.Bool.Decides.{nat_tests}
use Rattle.std.proofs.lemmas.Grind.{flat_map-append}
use Rattle.std.proofs.lemmas.Slice.Eq.{bytes_eq-Decides}
use Rattle.std.specs.Fmt.{decimal, digit_glyph, digits, digits_onto}
use Rattle.std.specs.List.{AllByRecursion, flat_map, list_all, list_any}
use Rattle.std.specs.Prelude.{bytes_eq}
use Rattle.krb_der.specs.Octets.{AreOctets}
use Rattle.krb_record.specs.Forms.{escaped_if, is_mistaken, item_cell, item_octet, name_cell, or_empty, shown_octet, string_cell, string_of}
use Rattle.krb_record.specs.Text.{hex, two_hex}
use Rattle.krb_choice_laws.specs.Cells.{IsWord, character, item_character}
use Rattle.krb_choice_laws.proofs.Decoded.{Outside, all-decoded, decoded, shown-shows}
use Rattle.krb_choice_laws.proofs.Lists.{has_no_comma, hex-comma, is_no_comma, no-comma}

-- ---- the five texts that cells have of no string
abbrev five : List (List ℕ)
five = codes "-" ∷ codes "\"\"" ∷ codes "[]" ∷ codes "[-]" ∷ codes ".." ∷ []

pub one-of : (P : List ℕ → Type 0) (words : List (List ℕ)) → AllByRecursion P words → (text : List ℕ) → list_any (λ other. bytes_eq other text) words ≡ true → P text
one-of P [] h text e = cc
one-of P (word ∷ others) h text e =
    elim (or_cases (bytes_eq word text) (list_any (λ other. bytes_eq other text) others) e) [
      | inl same ↦ subst P ((bytes_eq-Decides word text).0 same) h.0
      | inr more ↦ one-of P others h.1 text more
    ]

pub mistaken : (P : List ℕ → Type 0) → AllByRecursion P five → (text : List ℕ) → is_mistaken text ≡ true → P text
mistaken P h text e = one-of P five h text e

-- a text is none of them if it has what none of them has
pub no-mistake : (test : List ℕ → Bool) → AllByRecursion (λ text. test text ≡ true) five → (text : List ℕ) → test text ≡ false → is_mistaken text ≡ false
no-mistake test h text e = by (is_mistaken text) refl
  where
    by : (b : Bool) → is_mistaken text ≡ b → b ≡ false
    by true m = sym (mistaken (λ text. test text ≡ true) h text m) ∙ e
    by false m = refl

-- ---- texts as they are
abbrev pub IsSome : List ℕ → Type 0
IsSome [] = ⊥
IsSome (c ∷ others) = Unit {0}

as-shown : (show : ℕ → List ℕ) (text : List ℕ) → IsSome text → is_mistaken text ≡ false → string_of show text ≡ flat_map show text
as-shown show [] h e = absurd h
as-shown show (c ∷ others) h e = ap (λ b. escaped_if b show c ++ flat_map show others) e

characters : (text : List ℕ) → flat_map character text ≡ text
characters [] = refl
characters (c ∷ others) = ap (λ l. c ∷ l) (characters others)

items : (text : List ℕ) → has_no_comma text ≡ true → flat_map item_character text ≡ text
items [] h = refl
items (c ∷ others) h =
    let parts = and_parts (is_no_comma c) (has_no_comma others) h in
    ap (λ b. cond b (codes "\\x2c") (c ∷ []) ++ flat_map item_character others) (no-comma c parts.0) ∙ ap (λ l. c ∷ l) (items others parts.1)

pub as-it-is : (text : List ℕ) → IsSome text → is_mistaken text ≡ false → string_of character text ≡ text
as-it-is text h e = as-shown character text h e ∙ characters text

pub item-as-it-is : (text : List ℕ) → IsSome text → is_mistaken text ≡ false → has_no_comma text ≡ true → string_of item_character text ≡ text
item-as-it-is text h e k = as-shown item_character text h e ∙ items text k

-- ---- strings as objects have them
some-shown : (o : ℕ) (rest : List ℕ) → IsSome (shown_octet o ++ rest)
some-shown o rest = by (nat_le 0x20 o && nat_le o 0x7E && not (o == 0x5C))
  where
    by : (plain : Bool) → IsSome (cond plain (o ∷ []) (codes "\\x" ++ two_hex o) ++ rest)
    by true = tt
    by false = tt

-- they are mistaken just if the octets are
unmistaken : (octets : List ℕ) → AreOctets octets → is_mistaken octets ≡ false → is_mistaken (flat_map shown_octet octets) ≡ false
unmistaken octets h e = by (is_mistaken (flat_map shown_octet octets)) refl
  where
    by : (b : Bool) → is_mistaken (flat_map shown_octet octets) ≡ b → b ≡ false
    by true m =
        let same : decoded Outside (flat_map shown_octet octets) ≡ flat_map shown_octet octets = mistaken (λ text. decoded Outside text ≡ text) (refl, (refl, (refl, (refl, (refl, tt))))) (flat_map shown_octet octets) m in
        sym m ∙ ap is_mistaken (sym same ∙ all-decoded shown_octet shown-shows octets h) ∙ e
    by false m = refl

plainly : (octets : List ℕ) → AreOctets octets → IsSome octets → is_mistaken octets ≡ false → string_of character (flat_map shown_octet octets) ≡ flat_map shown_octet octets
plainly [] h s e = absurd s
plainly (o ∷ octets) h s e = as-it-is (flat_map shown_octet (o ∷ octets)) (some-shown o (flat_map shown_octet octets)) (unmistaken (o ∷ octets) h e)

pub strings : (octets : List ℕ) → AreOctets octets → string_cell octets ≡ string_of character (flat_map shown_octet octets)
unfolding string_cell
strings [] h = refl
strings (o ∷ octets) h = by (is_mistaken (o ∷ octets)) refl
  where
    by : (b : Bool) → is_mistaken (o ∷ octets) ≡ b → string_of shown_octet (o ∷ octets) ≡ string_of character (flat_map shown_octet (o ∷ octets))
    by true e = mistaken (λ text. string_of shown_octet text ≡ string_of character (flat_map shown_octet text)) (refl, (refl, (refl, (refl, (refl, tt))))) (o ∷ octets) e
    by false e = as-shown shown_octet (o ∷ octets) tt e ∙ sym (plainly (o ∷ octets) h tt e)

pub file-names : (octets : List ℕ) → AreOctets octets → is_mistaken octets ≡ false → name_cell octets ≡ string_of character (flat_map shown_octet octets)
file-names [] h e = refl
file-names (o ∷ octets) h e = sym (plainly (o ∷ octets) h tt e)

-- in a list
item-by : (o : ℕ) → o < 256 → flat_map item_character (shown_octet o) ≡ item_octet o
item-by o h = by (o == 0x2C) refl (nat_le 0x20 o && nat_le o 0x7E && not (o == 0x5C)) refl
  where
    by : (comma : Bool) → (o == 0x2C) ≡ comma → (plain : Bool) → (nat_le 0x20 o && nat_le o 0x7E && not (o == 0x5C)) ≡ plain
        → flat_map item_character (cond plain (o ∷ []) (codes "\\x" ++ two_hex o)) ≡ cond comma (codes "\\x2c") (cond plain (o ∷ []) (codes "\\x" ++ two_hex o))
    by true e true p = ap (λ b. cond b (codes "\\x2c") (o ∷ []) ++ []) e
    by true e false p = let is : o ≡ 0x2C = grind (arith, nat_tests) in let f : true ≡ false = subst (λ n. (nat_le 0x20 n && nat_le n 0x7E && not (n == 0x5C)) ≡ false) is p in cc
    by false e true p = ap (λ b. cond b (codes "\\x2c") (o ∷ []) ++ []) e
    by false e false p = items (codes "\\x" ++ two_hex o) (hex-comma o h)

item-octets : (octets : List ℕ) → AreOctets octets → flat_map item_character (flat_map shown_octet octets) ≡ flat_map item_octet octets
item-octets [] h = refl
item-octets (o ∷ octets) h = flat_map-append item_character (shown_octet o) (flat_map shown_octet octets) ∙ ap₂ (λ a b. a ++ b) (item-by o h.0) (item-octets octets h.1)

pub item-strings : (octets : List ℕ) → AreOctets octets → string_of item_character (flat_map shown_octet octets) ≡ item_cell octets
unfolding item_cell
item-strings [] h = refl
item-strings (o ∷ octets) h = by (is_mistaken (o ∷ octets)) refl
  where
    by : (b : Bool) → is_mistaken (o ∷ octets) ≡ b → string_of item_character (flat_map shown_octet (o ∷ octets)) ≡ string_of item_octet (o ∷ octets)
    by true e = mistaken (λ text. string_of item_character (flat_map shown_octet text) ≡ string_of item_octet text) (refl, (refl, (refl, (refl, (refl, tt))))) (o ∷ octets) e
    by false e =
        as-shown item_character (flat_map shown_octet (o ∷ octets)) (some-shown o (flat_map shown_octet octets)) (unmistaken (o ∷ octets) h e)
        ∙ item-octets (o ∷ octets) h ∙ sym (as-shown item_octet (o ∷ octets) tt e)

-- ---- words
abbrev pub is_plain : ℕ → Bool
is_plain c = nat_le 0x20 c && nat_le c 0x7E && not (c == 0x5C)

plain-octet : (c : ℕ) → is_plain c ≡ true → c < 256
plain-octet c e = grind (arith, nat_tests)

plain-octets : (text : List ℕ) → list_all is_plain text ≡ true → AreOctets text
plain-octets [] h = tt
plain-octets (c ∷ others) h = let parts = and_parts (is_plain c) (list_all is_plain others) h in (plain-octet c parts.0, plain-octets others parts.1)

shown-plainly : (text : List ℕ) → list_all is_plain text ≡ true → flat_map shown_octet text ≡ text
shown-plainly [] h = refl
shown-plainly (c ∷ others) h =
    let parts = and_parts (is_plain c) (list_all is_plain others) h in
    ap (λ b. cond b (c ∷ []) (codes "\\x" ++ two_hex c) ++ flat_map shown_octet others) parts.0 ∙ ap (λ l. c ∷ l) (shown-plainly others parts.1)

pub record Word (text : List ℕ) : Type 0 where
  pub octets : AreOctets text
  pub shown : flat_map shown_octet text ≡ text
  pub some : IsSome text
  pub unmistaken : is_mistaken text ≡ false

some-word : (text : List ℕ) → not (bytes_eq text []) ≡ true → IsSome text
some-word [] e = cc
some-word (c ∷ others) e = tt

unless : (b : Bool) → not b ≡ true → b ≡ false
unless true e = cc
unless false e = refl

pub a-word : (text : List ℕ) → IsWord text → Word text
a-word text e =
    let parts = and_parts (list_all is_plain text) (not (is_mistaken text) && not (bytes_eq text [])) e in
    let more = and_parts (not (is_mistaken text)) (not (bytes_eq text [])) parts.1 in
    record { octets = plain-octets text parts.0; shown = shown-plainly text parts.0; some = some-word text more.1; unmistaken = unless (is_mistaken text) more.0 }

pub words : (text : List ℕ) → IsWord text → text ≡ string_of character text
words text e = let w = a-word text e in sym (as-it-is text w.some w.unmistaken)

pub word-cells : (text : List ℕ) → IsWord text → string_cell text ≡ string_of character text
word-cells text e = let w = a-word text e in strings text w.octets ∙ ap (string_of character) w.shown

pub word-items : (text : List ℕ) → IsWord text → has_no_comma text ≡ true → string_of item_character text ≡ text
word-items text e k = let w = a-word text e in item-as-it-is text w.some w.unmistaken k

-- ---- texts that begin as none of the five do, nor as an octet that is escaped
abbrev pub is_mark : ℕ → Bool
is_mark c = c == 45 || (c == 34 || (c == 91 || (c == 46 || c == 92)))

abbrev pub begins_marked : List ℕ → Bool
begins_marked [] = false
begins_marked (c ∷ others) = is_mark c

abbrev pub Begins : List ℕ → Type 0
Begins text = IsSome text × (begins_marked text ≡ false)

pub begun : (text : List ℕ) → Begins text → text ≡ string_of character text
begun text h = sym (as-it-is text h.0 (no-mistake begins_marked (refl, (refl, (refl, (refl, (refl, tt))))) text h.1))

pub begins-so : (text rest : List ℕ) → Begins text → Begins (text ++ rest)
begins-so [] rest h = absurd h.0
begins-so (c ∷ others) rest h = h

-- such a text of plain octets is a word
pub begun-word : (text : List ℕ) → list_all is_plain text ≡ true → Begins text → IsWord text
begun-word [] h b = absurd b.0
begun-word (c ∷ others) h b = ap₂ (λ p m. p && (not m && true)) h (no-mistake begins_marked (refl, (refl, (refl, (refl, (refl, tt))))) (c ∷ others) b.1)

glyph-mark : (d : ℕ) → d < 16 → is_mark (digit_glyph false d) ≡ false
glyph-mark d h = grind (arith, nat_tests)

pub hex-begins : (o : ℕ) (octets : List ℕ) → o < 256 → Begins (hex (o ∷ octets))
hex-begins o octets h = (tt, glyph-mark (o / 16) (omega arith))

pub hexes : (octets : List ℕ) → AreOctets octets → or_empty (hex octets) ≡ string_of character (hex octets)
hexes [] h = refl
hexes (o ∷ octets) h = begun (hex (o ∷ octets)) (hex-begins o octets h.0)

glyphs : (k n : ℕ) (after : List ℕ) → Begins after → Begins (digits_onto k 10 false n after)
glyphs zero n after h = h
glyphs (suc k) n after h =
    let this = glyph-mark (n % 10) (omega arith) in
    elim (n / 10 == 0) as (λ b. Begins (cond b (digit_glyph false (n % 10) ∷ after) (digits_onto k 10 false (n / 10) (digit_glyph false (n % 10) ∷ after)))) [
      | true ↦ (tt, this)
      | false ↦ glyphs k (n / 10) (digit_glyph false (n % 10) ∷ after) (tt, this)
    ]

pub number-begins : (n : ℕ) → Begins (decimal n)
unfolding digits
number-begins n =
    let this = glyph-mark (n % 10) (omega arith) in
    elim (n / 10 == 0) as (λ b. Begins (cond b (digit_glyph false (n % 10) ∷ []) (digits_onto 63 10 false (n / 10) (digit_glyph false (n % 10) ∷ [])))) [
      | true ↦ (tt, this)
      | false ↦ glyphs 63 (n / 10) (digit_glyph false (n % 10) ∷ []) (tt, this)
    ]
