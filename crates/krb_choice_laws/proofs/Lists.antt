-- Cells of lists are read back: their items have no comma.
use Rattle.std.proofs.Common.{◌≡◌, ◌∙◌, ℕ, zero, suc, ℤ, pos, negsuc, ◌/◌, ◌%◌, ◌<◌, ◌==◌, ◌^◌, ◌&&◌, nat_le, not, Bool, true, false, cond, List, [], ◌∷◌, ◌++◌, length, map, append-nil, sym, refl, ap, ap₂, arith, codes, if◌then◌else◌}
use Rattle.std.proofs.lemmas.Bool.{and_from, and_parts}
use Rattle.std.proofs.lemmas.Bool.Decides.{nat_tests}
use Rattle.std.proofs.lemmas.Fmt.{decimal_nonempty, signed_decimal_injective}
use Rattle.std.proofs.lemmas.Slice.Eq.{bytes_eq-Decides}
use Rattle.std.specs.Fmt.{decimal, digit_glyph, digits, digits_onto, signed_decimal}
use Rattle.std.specs.List.{AllByRecursion, flat_map, list_all}
use Rattle.std.specs.Prelude.{bytes_eq, unsigned_abs}
use lib.Signed.{mag}
use Rattle.krb_der.specs.Octets.{AreOctets}
use Rattle.krb_record.specs.Forms.{escaped_if, is_mistaken, item_cell, item_octet, list_cell}
use Rattle.krb_record.specs.Text.{AllAreOctets, joined, two_hex}
use Rattle.krb_choice_laws.specs.Laws.{AreNumbers}
use Rattle.krb_choice_laws.proofs.Decoded.{item-not-none, items-apart}

-- ---- texts without commas
abbrev pub is_no_comma : ℕ → Bool
is_no_comma c = not (c == 44)

abbrev pub has_no_comma : List ℕ → Bool
has_no_comma text = list_all is_no_comma text

none-append : (xs ys : List ℕ) → has_no_comma xs ≡ true → has_no_comma ys ≡ true → has_no_comma (xs ++ ys) ≡ true
none-append [] ys h k = k
none-append (x ∷ xs) ys h k = let parts = and_parts (is_no_comma x) (has_no_comma xs) h in and_from (is_no_comma x) (has_no_comma (xs ++ ys)) parts.0 (none-append xs ys parts.1 k)

-- ---- what is between commas
abbrev onto : ℕ → List (List ℕ) → List (List ℕ)
onto c [] = (c ∷ []) ∷ []
onto c (text ∷ others) = (c ∷ text) ∷ others

abbrev pub split : List ℕ → List (List ℕ)
split [] = [] ∷ []
split (c ∷ others) = if c == 44 then [] ∷ split others else onto c (split others)

pub no-comma : (c : ℕ) → is_no_comma c ≡ true → (c == 44) ≡ false
no-comma c h = grind (arith, nat_tests)

pub split-last : (text : List ℕ) → has_no_comma text ≡ true → split text ≡ text ∷ []
split-last [] h = refl
split-last (c ∷ others) h =
    let parts = and_parts (is_no_comma c) (has_no_comma others) h in
    ap (λ b. cond b ([] ∷ split others) (onto c (split others))) (no-comma c parts.0) ∙ ap (onto c) (split-last others parts.1)

split-first : (text rest : List ℕ) → has_no_comma text ≡ true → split (text ++ (44 ∷ rest)) ≡ text ∷ split rest
split-first [] rest h = refl
split-first (c ∷ others) rest h =
    let parts = and_parts (is_no_comma c) (has_no_comma others) h in
    ap (λ b. cond b ([] ∷ split (others ++ (44 ∷ rest))) (onto c (split (others ++ (44 ∷ rest))))) (no-comma c parts.0) ∙ ap (onto c) (split-first others rest parts.1)

abbrev HaveNoComma : List (List ℕ) → Type 0
HaveNoComma texts = AllByRecursion (λ text. has_no_comma text ≡ true) texts

split-more : (text : List ℕ) (others : List (List ℕ)) → has_no_comma text ≡ true → HaveNoComma others → split (text ++ flat_map (λ other. codes "," ++ other) others) ≡ text ∷ others
split-more text [] h k = ap split (append-nil text) ∙ split-last text h
split-more text (next ∷ others) h k = split-first text (next ++ flat_map (λ other. codes "," ++ other) others) h ∙ ap (λ l. text ∷ l) (split-more next others k.0 k.1)

-- ---- lists of texts
-- a text that may be an item: it has no comma, and is not that of an empty list
pub record IsItem (text : List ℕ) : Type 0 where
  pub comma : has_no_comma text ≡ true
  pub none : text ≡ codes "[]" → ⊥

abbrev pub AreItems : List (List ℕ) → Type 0
AreItems texts = AllByRecursion IsItem texts

commas : (texts : List (List ℕ)) → AreItems texts → HaveNoComma texts
commas [] h = tt
commas (text ∷ others) h = (h.0.comma, commas others h.1)

abbrev pub in_list : List (List ℕ) → List ℕ
in_list texts = joined (codes "[]") (codes ",") (λ text. text) texts

pub split-list : (first : List ℕ) (others : List (List ℕ)) → AreItems (first ∷ others) → split (in_list (first ∷ others)) ≡ first ∷ others
split-list first others h = split-more first others h.0.comma (commas others h.1)

tail-is : (x y : List ℕ) (xs ys : List (List ℕ)) → x ∷ xs ≡ y ∷ ys → x ≡ y
tail-is x y xs ys e = cc

-- the empty list is no other
not-empty : (first : List ℕ) (others : List (List ℕ)) → AreItems (first ∷ others) → codes "[]" ≡ in_list (first ∷ others) → ⊥
not-empty first others h e =
    let f : (codes "[]") ∷ [] ≡ first ∷ others = ap split e ∙ split-list first others h in
    h.0.none (sym (tail-is (codes "[]") first [] others f))

same-list : (texts others : List (List ℕ)) → AreItems texts → AreItems others → in_list texts ≡ in_list others → texts ≡ others
same-list [] [] h k e = refl
same-list [] (y ∷ ys) h k e = absurd (not-empty y ys k e)
same-list (x ∷ xs) [] h k e = absurd (not-empty x xs h (sym e))
same-list (x ∷ xs) (y ∷ ys) h k e = sym (split-list x xs h) ∙ ap split e ∙ split-list y ys k

pub joined-map : {A : Type 0} (text : A → List ℕ) (all : List A) → joined (codes "[]") (codes ",") text all ≡ in_list (map text all)
joined-map text [] = refl
joined-map text (first ∷ others) = ap (λ l. text first ++ l) (rest others)
  where
    rest : (these : List _) → flat_map (λ other. codes "," ++ text other) these ≡ flat_map (λ other. codes "," ++ other) (map text these)
    rest [] = refl
    rest (one ∷ more) = ap (λ l. (codes "," ++ text one) ++ l) (rest more)

-- ---- lists of strings
glyph : (d : ℕ) → d < 16 → is_no_comma (digit_glyph false d) ≡ true
glyph d h = grind (arith, nat_tests)

pub hex-comma : (o : ℕ) → o < 256 → has_no_comma (codes "\\x" ++ two_hex o) ≡ true
hex-comma o h = and_from (is_no_comma (digit_glyph false (o / 16))) (has_no_comma (digit_glyph false (o % 16) ∷ [])) (glyph (o / 16) (omega arith)) (and_from (is_no_comma (digit_glyph false (o % 16))) true (glyph (o % 16) (omega arith)) refl)

octet-comma : (o : ℕ) → o < 256 → has_no_comma (item_octet o) ≡ true
octet-comma o h = by (o == 0x2C) refl (nat_le 0x20 o && nat_le o 0x7E && not (o == 0x5C))
  where
    by : (comma : Bool) → (o == 0x2C) ≡ comma → (plain : Bool) → has_no_comma (cond comma (codes "\\x2c") (cond plain (o ∷ []) (codes "\\x" ++ two_hex o))) ≡ true
    by true e plain = refl
    by false e true = and_from (is_no_comma o) true (ap not e) refl
    by false e false = hex-comma o h

octets-comma : (octets : List ℕ) → AreOctets octets → has_no_comma (flat_map item_octet octets) ≡ true
octets-comma [] h = refl
octets-comma (o ∷ octets) h = none-append (item_octet o) (flat_map item_octet octets) (octet-comma o h.0) (octets-comma octets h.1)

item-comma : (octets : List ℕ) → AreOctets octets → has_no_comma (item_cell octets) ≡ true
unfolding item_cell
item-comma [] h = refl
item-comma (o ∷ octets) h = none-append (escaped_if (is_mistaken (o ∷ octets)) item_octet o) (flat_map item_octet octets) (by (is_mistaken (o ∷ octets))) (octets-comma octets h.1)
  where
    by : (mistaken : Bool) → has_no_comma (escaped_if mistaken item_octet o) ≡ true
    by true = hex-comma o h.0
    by false = octet-comma o h.0

pub string-item : (octets : List ℕ) → AreOctets octets → IsItem (item_cell octets)
string-item octets h = record { comma = item-comma octets h; none = item-not-none octets h }

are-items : (strings : List (List ℕ)) → AllAreOctets strings → AreItems (map item_cell strings)
are-items [] h = tt
are-items (string ∷ others) h = (string-item string h.0, are-items others h.1)

heads : (x y : List ℕ) (xs ys : List (List ℕ)) → x ∷ xs ≡ y ∷ ys → (x ≡ y) × (xs ≡ ys)
heads x y xs ys e = (cc, cc)

same-cells : (strings others : List (List ℕ)) → AllAreOctets strings → AllAreOctets others → map item_cell strings ≡ map item_cell others → strings ≡ others
same-cells [] [] h k e = refl
same-cells [] (y ∷ ys) h k e = cc
same-cells (x ∷ xs) [] h k e = cc
same-cells (x ∷ xs) (y ∷ ys) h k e =
    let parts = heads (item_cell x) (item_cell y) (map item_cell xs) (map item_cell ys) e in
    ap₂ (λ a b. a ∷ b) (items-apart x y h.0 k.0 parts.0) (same-cells xs ys h.1 k.1 parts.1)

pub string-lists-apart : (strings others : List (List ℕ)) → AllAreOctets strings → AllAreOctets others → joined (codes "[]") (codes ",") item_cell strings ≡ joined (codes "[]") (codes ",") item_cell others → strings ≡ others
string-lists-apart strings others h k e =
    same-cells strings others h k
    (same-list (map item_cell strings) (map item_cell others) (are-items strings h) (are-items others k) (sym (joined-map item_cell strings) ∙ e ∙ joined-map item_cell others))

-- ---- lists of numbers
digit-is : (test : ℕ → Bool) → ((d : ℕ) → d < 10 → test (digit_glyph false d) ≡ true) → (k n : ℕ) (after : List ℕ) → list_all test after ≡ true → list_all test (digits_onto k 10 false n after) ≡ true
digit-is test t zero n after h = h
digit-is test t (suc k) n after h =
    let more = and_from (test (digit_glyph false (n % 10))) (list_all test after) (t (n % 10) (omega arith)) h in
    elim (n / 10 == 0) as (λ b. list_all test (cond b (digit_glyph false (n % 10) ∷ after) (digits_onto k 10 false (n / 10) (digit_glyph false (n % 10) ∷ after))) ≡ true) [
      | true ↦ more
      | false ↦ digit-is test t k (n / 10) (digit_glyph false (n % 10) ∷ after) more
    ]

-- no comma, and no bracket
abbrev pub is_of_number : ℕ → Bool
is_of_number c = not (c == 44) && not (c == 91)

glyph-number : (d : ℕ) → d < 10 → is_of_number (digit_glyph false d) ≡ true
glyph-number d h = grind (arith, nat_tests)

glyph-digit : (d : ℕ) → d < 10 → nat_le 48 (digit_glyph false d) ≡ true
glyph-digit d h = grind (arith, nat_tests)

pub number-is : (number : ℤ) → list_all is_of_number (signed_decimal number) ≡ true
unfolding digits
number-is (pos n) = digit-is is_of_number glyph-number 64 n [] refl
number-is (negsuc n) = digit-is is_of_number glyph-number 64 (suc n) [] refl

all-digits : (n : ℕ) → list_all (λ c. nat_le 48 c) (decimal n) ≡ true
unfolding digits
all-digits n = digit-is (λ c. nat_le 48 c) glyph-digit 64 n [] refl

no-commas : (text : List ℕ) → list_all is_of_number text ≡ true → has_no_comma text ≡ true
no-commas [] h = refl
no-commas (c ∷ others) h =
    let parts = and_parts (is_of_number c) (list_all is_of_number others) h in
    and_from (is_no_comma c) (has_no_comma others) (and_parts (not (c == 44)) (not (c == 91)) parts.0).0 (no-commas others parts.1)

pub number-item : (number : ℤ) → IsItem (signed_decimal number)
number-item number = record { comma = no-commas (signed_decimal number) (number-is number); none = λ e. let f : false ≡ true = sym (ap (list_all is_of_number) e) ∙ number-is number in cc }

number-items : (numbers : List ℤ) → AreItems (map signed_decimal numbers)
number-items [] = tt
number-items (number ∷ others) = (number-item number, number-items others)

-- no number is a sign alone
tail-none : (c : ℕ) (text : List ℕ) → 45 ∷ [] ≡ c ∷ text → length text ≡ 0
tail-none c text e = let f : [] ≡ text = cc in ap length (sym f)

no-dash : (number : ℤ) → unsigned_abs number < 2 ^ 63 → codes "-" ≡ signed_decimal number → ⊥
no-dash (pos n) h e = let f : false ≡ true = ap (list_all (λ c. nat_le 48 c)) e ∙ all-digits n in cc
no-dash (negsuc n) h e = absurd (omega (arith, decimal_nonempty (suc n) (omega arith), tail-none 45 (decimal (suc n)) e))

dash-false : (number : ℤ) → unsigned_abs number < 2 ^ 63 → bytes_eq (codes "-") (signed_decimal number) ≡ false
dash-false number h = by (bytes_eq (codes "-") (signed_decimal number)) refl
  where
    by : (b : Bool) → bytes_eq (codes "-") (signed_decimal number) ≡ b → b ≡ false
    by true e = absurd (no-dash number h ((bytes_eq-Decides (codes "-") (signed_decimal number)).0 e))
    by false e = refl

number-list : (numbers : List ℤ) → AreNumbers numbers → list_cell (map signed_decimal numbers) ≡ in_list (map signed_decimal numbers)
number-list [] h = refl
number-list (number ∷ []) h = ap (λ b. cond b (codes "[-]") (signed_decimal number)) (dash-false number h.0) ∙ sym (append-nil (signed_decimal number))
number-list (first ∷ second ∷ others) h = refl

pub size : (number : ℤ) → unsigned_abs number < 2 ^ 63 → mag number < 2 ^ 63
size (pos n) h = h
size (negsuc n) h = omega arith

pub number-apart : (number other : ℤ) → unsigned_abs number < 2 ^ 63 → unsigned_abs other < 2 ^ 63 → signed_decimal number ≡ signed_decimal other → number ≡ other
number-apart number other h k e = signed_decimal_injective number other (size number h) (size other k) e

same-numbers : (numbers others : List ℤ) → AreNumbers numbers → AreNumbers others → map signed_decimal numbers ≡ map signed_decimal others → numbers ≡ others
same-numbers [] [] h k e = refl
same-numbers [] (y ∷ ys) h k e = cc
same-numbers (x ∷ xs) [] h k e = cc
same-numbers (x ∷ xs) (y ∷ ys) h k e =
    let parts = heads (signed_decimal x) (signed_decimal y) (map signed_decimal xs) (map signed_decimal ys) e in
    ap₂ (λ a b. a ∷ b) (number-apart x y h.0 k.0 parts.0) (same-numbers xs ys h.1 k.1 parts.1)

pub number-lists-apart : (numbers others : List ℤ) → AreNumbers numbers → AreNumbers others → list_cell (map signed_decimal numbers) ≡ list_cell (map signed_decimal others) → numbers ≡ others
number-lists-apart numbers others h k e =
    same-numbers numbers others h k
    (same-list (map signed_decimal numbers) (map signed_decimal others) (number-items numbers) (number-items others) (sym (number-list numbers h) ∙ e ∙ number-list others k))
