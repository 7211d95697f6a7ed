-- Cells of strings are read back.
use Rattle.std.proofs.Common.{◌≡◌, ◌∙◌, ℕ, ◌+◌, ◌-◌, ◌*◌, ◌/◌, ◌%◌, ◌<◌, ◌==◌, nat_le, ◌&&◌, not, Bool, true, false, cond, List, [], ◌∷◌, ◌++◌, length, sym, refl, ap, ap₂, arith, codes, if◌then◌else◌}
use Rattle.std.proofs.lemmas.Bool.Decides.{nat_tests}
use Rattle.std.specs.Fmt.{digit_glyph}
use Rattle.std.specs.List.{flat_map}
use Rattle.krb_der.specs.Octets.{AreOctets}
use Rattle.krb_record.specs.Forms.{escaped_if, is_mistaken, item_cell, item_octet, name_cell, shown_octet, string_cell, string_of}
use Rattle.krb_record.specs.Text.{two_hex}

-- ---- what a text with escapes shows
pub data State : Type 0 where
  Outside : State
  Slash : State
  High : State
  Low : (high : ℕ) → State

abbrev pub digit : ℕ → ℕ
digit c = if nat_le c 57 then c - 48 else c - 87

abbrev pub decoded : State → List ℕ → List ℕ
decoded state [] = []
decoded Outside (c ∷ others) = if c == 92 then decoded Slash others else c ∷ decoded Outside others
decoded Slash (c ∷ others) = decoded High others
decoded High (c ∷ others) = decoded (Low (digit c)) others
decoded (Low high) (c ∷ others) = (high * 16 + digit c) ∷ decoded Outside others

digit-glyph : (d : ℕ) → d < 16 → digit (digit_glyph false d) ≡ d
digit-glyph d h = grind (arith, nat_tests)

escaped : (o : ℕ) (rest : List ℕ) → o < 256 → decoded Outside ((codes "\\x" ++ two_hex o) ++ rest) ≡ o ∷ decoded Outside rest
escaped o rest h =
    let high = digit-glyph (o / 16) (omega arith) in let low = digit-glyph (o % 16) (omega arith) in
    ap (λ n. n ∷ decoded Outside rest) (ap₂ (λ a b. a * 16 + b) high low ∙ omega arith)

-- ---- octets of strings
-- each octet is itself, if it is no backslash, or escaped
pub record Shows (show : ℕ → List ℕ) : Type 0 where
  pub is : (o : ℕ) (rest : List ℕ) → o < 256 → decoded Outside (show o ++ rest) ≡ o ∷ decoded Outside rest

slash : (o : ℕ) → (nat_le 0x20 o && nat_le o 0x7E && not (o == 0x5C)) ≡ true → (o == 92) ≡ false
slash o e = grind (arith, nat_tests)

shown-by : (o : ℕ) (rest : List ℕ) → o < 256 → (plain : Bool) → (nat_le 0x20 o && nat_le o 0x7E && not (o == 0x5C)) ≡ plain → decoded Outside (cond plain (o ∷ []) (codes "\\x" ++ two_hex o) ++ rest) ≡ o ∷ decoded Outside rest
shown-by o rest h true e = ap (λ b. cond b (decoded Slash rest) (o ∷ decoded Outside rest)) (slash o e)
shown-by o rest h false e = escaped o rest h

pub shown-shows : Shows shown_octet
shown-shows = record { is = λ o rest h. shown-by o rest h (nat_le 0x20 o && nat_le o 0x7E && not (o == 0x5C)) refl }

item-by : (o : ℕ) (rest : List ℕ) → o < 256 → (comma : Bool) → (o == 0x2C) ≡ comma → decoded Outside (cond comma (codes "\\x2c") (shown_octet o) ++ rest) ≡ o ∷ decoded Outside rest
item-by o rest h true e = let is : o ≡ 0x2C = grind (arith, nat_tests) in ap (λ n. n ∷ decoded Outside rest) (sym is)
item-by o rest h false e = shown-shows.is o rest h

item-shows : Shows item_octet
item-shows = record { is = λ o rest h. item-by o rest h (o == 0x2C) refl }

pub all-decoded : (show : ℕ → List ℕ) → Shows show → (octets : List ℕ) → AreOctets octets → decoded Outside (flat_map show octets) ≡ octets
all-decoded show s [] h = refl
all-decoded show s (o ∷ octets) h = s.is o (flat_map show octets) h.0 ∙ ap (λ l. o ∷ l) (all-decoded show s octets h.1)

string-decoded : (show : ℕ → List ℕ) → Shows show → (first : ℕ) (others : List ℕ) → AreOctets (first ∷ others) → decoded Outside (string_of show (first ∷ others)) ≡ first ∷ others
string-decoded show s first others h = by (is_mistaken (first ∷ others)) ∙ ap (λ l. first ∷ l) (all-decoded show s others h.1)
  where
    by : (mistaken : Bool) → decoded Outside (escaped_if mistaken show first ++ flat_map show others) ≡ first ∷ decoded Outside (flat_map show others)
    by true = escaped first (flat_map show others) h.0
    by false = s.is first (flat_map show others) h.0

abbrev pub head : List ℕ → ℕ
head [] = 0
head (c ∷ others) = c

-- ---- a string that is not empty has no cell that is mistaken
module _ (show : ℕ → List ℕ) (s : Shows show) where
  -- if the cell is a text that is decoded to itself, the string is this text
  string-is : (word : List ℕ) → decoded Outside word ≡ word → (first : ℕ) (others : List ℕ) → AreOctets (first ∷ others) → string_of show (first ∷ others) ≡ word → first ∷ others ≡ word
  string-is word plain first others h e = sym (string-decoded show s first others h) ∙ ap (decoded Outside) e ∙ plain

  -- which has another cell
  escapes : (word : List ℕ) → decoded Outside word ≡ word → head (string_of show word) ≡ 92 → (head word ≡ 92 → ⊥) → (first : ℕ) (others : List ℕ) → AreOctets (first ∷ others) → string_of show (first ∷ others) ≡ word → ⊥
  escapes word plain slashed other first others h e =
      other (ap head (sym e) ∙ ap (λ l. head (string_of show l)) (string-is word plain first others h e) ∙ slashed)

  not-empty : (first : ℕ) (others : List ℕ) → AreOctets (first ∷ others) → string_of show (first ∷ others) ≡ codes "\"\"" → ⊥
  not-empty first others h e = escapes (codes "\"\"") refl refl (λ f. omega (arith, f)) first others h e

  not-dash : (octets : List ℕ) → AreOctets octets → string_of show octets ≡ codes "-" → ⊥
  not-dash [] h e = omega (arith, ap head e)
  not-dash (first ∷ others) h e = escapes (codes "-") refl refl (λ f. omega (arith, f)) first others h e

  not-none : (octets : List ℕ) → AreOctets octets → string_of show octets ≡ codes "[]" → ⊥
  not-none [] h e = omega (arith, ap head e)
  not-none (first ∷ others) h e = escapes (codes "[]") refl refl (λ f. omega (arith, f)) first others h e

  not-one : (octets : List ℕ) → AreOctets octets → string_of show octets ≡ codes "[-]" → ⊥
  not-one [] h e = omega (arith, ap head e)
  not-one (first ∷ others) h e = escapes (codes "[-]") refl refl (λ f. omega (arith, f)) first others h e

  same-string : (octets others : List ℕ) → AreOctets octets → AreOctets others → string_of show octets ≡ string_of show others → octets ≡ others
  same-string [] [] h k e = refl
  same-string [] (y ∷ ys) h k e = absurd (not-empty y ys k (sym e))
  same-string (x ∷ xs) [] h k e = absurd (not-empty x xs h e)
  same-string (x ∷ xs) (y ∷ ys) h k e = sym (string-decoded show s x xs h) ∙ ap (decoded Outside) e ∙ string-decoded show s y ys k

pub strings-apart : (octets others : List ℕ) → AreOctets octets → AreOctets others → string_cell octets ≡ string_cell others → octets ≡ others
unfolding string_cell
strings-apart octets others h k e = same-string shown_octet shown-shows octets others h k e

pub strings-there : (octets : List ℕ) → AreOctets octets → string_cell octets ≡ codes "-" → ⊥
unfolding string_cell
strings-there octets h e = not-dash shown_octet shown-shows octets h e

pub items-apart : (octets others : List ℕ) → AreOctets octets → AreOctets others → item_cell octets ≡ item_cell others → octets ≡ others
unfolding item_cell
items-apart octets others h k e = same-string item_octet item-shows octets others h k e

pub item-not-dash : (octets : List ℕ) → AreOctets octets → item_cell octets ≡ codes "-" → ⊥
unfolding item_cell
item-not-dash octets h e = not-dash item_octet item-shows octets h e

pub item-not-one : (octets : List ℕ) → AreOctets octets → item_cell octets ≡ codes "[-]" → ⊥
unfolding item_cell
item-not-one octets h e = not-one item_octet item-shows octets h e

pub item-not-none : (octets : List ℕ) → AreOctets octets → item_cell octets ≡ codes "[]" → ⊥
unfolding item_cell
item-not-none octets h e = not-none item_octet item-shows octets h e

-- ---- names of files
pub files-apart : (octets others : List ℕ) → AreOctets octets → AreOctets others → 0 < length octets → 0 < length others → name_cell octets ≡ name_cell others → octets ≡ others
files-apart [] others h k p q e = absurd (omega arith)
files-apart (x ∷ xs) [] h k p q e = absurd (omega arith)
files-apart (x ∷ xs) (y ∷ ys) h k p q e = sym (all-decoded shown_octet shown-shows (x ∷ xs) h) ∙ ap (decoded Outside) e ∙ all-decoded shown_octet shown-shows (y ∷ ys) k
