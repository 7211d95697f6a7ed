-- Members of one type that differ have cells that differ.
use Rattle.std.proofs.Common.{◌≡◌, ◌∙◌, ℕ, Bool, true, false, cond, List, [], ◌∷◌, length, sym, refl, ap, ap₂, subst, arith, codes}
use Rattle.std.proofs.lemmas.Slice.Eq.{bytes_eq-Decides}
use Rattle.std.specs.List.{AllByRecursion, flat_map, list_any}
use Rattle.std.specs.Prelude.{bytes_eq}
use Rattle.json.specs.Json.{Items, Json, array, boolean, item, no_items, null, number, string}
use Rattle.krb_der.specs.Octets.{AreOctets}
use Rattle.krb_record.specs.Forms.{is_mistaken, item_cell, list_cell, shown_octet, string_of, true_or_false}
use Rattle.krb_choice_laws.specs.Cells.{MemberType, NumberLists, Numbers, StringLists, Strings, Truths, are_numbers, are_strings, character, is_of, item_said, items_said, said}
use Rattle.krb_choice_laws.proofs.Decoded.{Outside, decoded, head, item-not-dash, item-not-one, items-apart}
use Rattle.krb_choice_laws.proofs.Lists.{AreItems, IsItem, split, split-last, split-list, string-item}
use Rattle.krb_choice_laws.proofs.Texts.{as-it-is, item-strings, mistaken}

-- ---- members as objects have them
abbrev pub IsOther : List ℕ → Type 0
IsOther text = codes "-" ≡ text → ⊥

-- a string is none of those that cells have for texts that are mistaken
abbrev pub escaped : List (List ℕ)
escaped = codes "\\x2d" ∷ codes "\\x22\"" ∷ codes "\\x5b]" ∷ codes "\\x5b-]" ∷ codes "\\x2e." ∷ []

abbrev pub is_escaped : List ℕ → Bool
is_escaped text = list_any (λ other. bytes_eq other text) escaped

-- a text that may be one in a list
pub record IsText (text : List ℕ) : Type 0 where
  pub item : IsItem text
  pub one : text ≡ codes "[-]" → ⊥

-- the octets that a string shows
pub record Shows (text : List ℕ) : Type 0 where
  pub octets : List ℕ
  pub are : AreOctets octets
  pub shown : text ≡ flat_map shown_octet octets

abbrev pub IsToldItem : Json → Type 0
IsToldItem (number digits) = IsOther digits × IsText digits
IsToldItem (string text) = Shows text
IsToldItem json = Unit {0}

abbrev pub AreTold : Items → Type 0
AreTold no_items = Unit {0}
AreTold (item json others) = IsToldItem json × AreTold others

abbrev pub IsTold : Json → Type 0
IsTold (number digits) = IsOther digits
IsTold (string text) = is_escaped text ≡ false
IsTold (array its) = AreTold its
IsTold json = Unit {0}

-- ---- strings are read back
abbrev back : List ℕ → List ℕ
back text = cond (bytes_eq (codes "\"\"") text) [] (cond (is_escaped text) (decoded Outside text) text)

no-quotes : (text : List ℕ) → is_mistaken text ≡ false → bytes_eq (codes "\"\"") text ≡ false
no-quotes text e = by (bytes_eq (codes "\"\"") text) refl
  where
    by : (b : Bool) → bytes_eq (codes "\"\"") text ≡ b → b ≡ false
    by true same = let f : true ≡ false = ap is_mistaken ((bytes_eq-Decides (codes "\"\"") text).0 same) ∙ e in absurd (cc)
    by false same = refl

read-back : (text : List ℕ) → is_escaped text ≡ false → back (string_of character text) ≡ text
read-back [] e = refl
read-back (c ∷ others) e = by (is_mistaken (c ∷ others)) refl
  where
    by : (b : Bool) → is_mistaken (c ∷ others) ≡ b → back (string_of character (c ∷ others)) ≡ c ∷ others
    by true m = mistaken (λ text. back (string_of character text) ≡ text) (refl, (refl, (refl, (refl, (refl, tt))))) (c ∷ others) m
    by false m =
        let text = c ∷ others in
        ap back (as-it-is text tt m) ∙ ap₂ (λ a b. cond a [] (cond b (decoded Outside text) text)) (no-quotes text m) e

same-text : (text other : List ℕ) → is_escaped text ≡ false → is_escaped other ≡ false → string_of character text ≡ string_of character other → text ≡ other
same-text text other h k e = sym (read-back text h) ∙ ap back e ∙ read-back other k

no-dash : (text : List ℕ) → is_escaped text ≡ false → codes "-" ≡ string_of character text → ⊥
no-dash text h e =
    let is : codes "-" ≡ text = ap back e ∙ read-back text h in
    omega (arith, ap head (subst (λ t. codes "-" ≡ string_of character t) (sym is) e))

-- ---- lists are read back
abbrev back_list : List ℕ → List (List ℕ)
back_list text = cond (bytes_eq (codes "[]") text) [] (cond (bytes_eq (codes "[-]") text) (codes "-" ∷ []) (split text))

no-word : (word text : List ℕ) → (word ≡ text → ⊥) → bytes_eq word text ≡ false
no-word word text h = by (bytes_eq word text) refl
  where
    by : (b : Bool) → bytes_eq word text ≡ b → b ≡ false
    by true e = absurd (h ((bytes_eq-Decides word text).0 e))
    by false e = refl

are-items : (texts : List (List ℕ)) → AllByRecursion IsText texts → AreItems texts
are-items [] h = tt
are-items (text ∷ others) h = (h.0.item, are-items others h.1)

split-back : (text : List ℕ) → (codes "[]" ≡ text → ⊥) → (codes "[-]" ≡ text → ⊥) → back_list text ≡ split text
split-back text h k = ap₂ (λ a b. cond a [] (cond b (codes "-" ∷ []) (split text))) (no-word (codes "[]") text h) (no-word (codes "[-]") text k)

list-back : (texts : List (List ℕ)) → AllByRecursion IsText texts → back_list (list_cell texts) ≡ texts
list-back [] h = refl
list-back (text ∷ []) h = by (bytes_eq (codes "-") text) refl
  where
    by : (b : Bool) → bytes_eq (codes "-") text ≡ b → back_list (cond b (codes "[-]") text) ≡ text ∷ []
    by true e = ap (λ t. t ∷ []) ((bytes_eq-Decides (codes "-") text).0 e)
    by false e = split-back text (λ f. h.0.item.none (sym f)) (λ f. h.0.one (sym f)) ∙ split-last text h.0.item.comma
list-back (first ∷ second ∷ others) h =
    let all = first ∷ second ∷ others in
    let parts : split (list_cell all) ≡ all = split-list first (second ∷ others) (are-items all h) in
    split-back (list_cell all) (λ f. omega (arith, ap (λ l. length l) (ap split f ∙ parts))) (λ f. omega (arith, ap (λ l. length l) (ap split f ∙ parts))) ∙ parts

same-list : (texts others : List (List ℕ)) → AllByRecursion IsText texts → AllByRecursion IsText others → list_cell texts ≡ list_cell others → texts ≡ others
same-list texts others h k e = sym (list-back texts h) ∙ ap back_list e ∙ list-back others k

heads : (x y : List ℕ) (xs ys : List (List ℕ)) → x ∷ xs ≡ y ∷ ys → (x ≡ y) × (xs ≡ ys)
heads x y xs ys e = (cc, cc)

-- ---- lists of numbers
dash-text : IsText (codes "-")
dash-text = record { item = record { comma = refl; none = λ e. omega (arith, ap head e) }; one = λ e. omega (arith, ap head e) }

number-texts : (its : Items) → are_numbers its ≡ true → AreTold its → AllByRecursion IsText (items_said its)
number-texts no_items e h = tt
number-texts (item null others) e h = (dash-text, number-texts others e h.1)
number-texts (item (number digits) others) e h = (h.0.1, number-texts others e h.1)
number-texts (item json others) e h = cc

same-numbers : (its those : Items) → are_numbers its ≡ true → are_numbers those ≡ true → AreTold its → AreTold those → items_said its ≡ items_said those → its ≡ those
same-numbers no_items no_items e f h k same = refl
same-numbers no_items (item json others) e f h k same = cc
same-numbers (item json others) no_items e f h k same = cc
same-numbers (item null xs) (item null ys) e f h k same = ap (item null) (same-numbers xs ys e f h.1 k.1 (heads _ _ _ _ same).1)
same-numbers (item null xs) (item (number digits) ys) e f h k same = absurd (k.0.0 (heads _ _ _ _ same).0)
same-numbers (item (number digits) xs) (item null ys) e f h k same = absurd (h.0.0 (sym (heads _ _ _ _ same).0))
same-numbers (item (number digits) xs) (item (number others) ys) e f h k same = let parts = heads _ _ _ _ same in ap₂ (λ a b. item (number a) b) parts.0 (same-numbers xs ys e f h.1 k.1 parts.1)
same-numbers its those e f h k same = cc

-- ---- lists of strings
said-octets : (text : List ℕ) (s : Shows text) → item_said (string text) ≡ item_cell s.octets
said-octets text s = ap (λ t. item_said (string t)) s.shown ∙ item-strings s.octets s.are

string-text : (text : List ℕ) → Shows text → IsText (item_said (string text))
string-text text s =
    subst IsText (sym (said-octets text s)) (record { item = string-item s.octets s.are; one = item-not-one s.octets s.are })

string-texts : (its : Items) → are_strings its ≡ true → AreTold its → AllByRecursion IsText (items_said its)
string-texts no_items e h = tt
string-texts (item null others) e h = (dash-text, string-texts others e h.1)
string-texts (item (string text) others) e h = (string-text text h.0, string-texts others e h.1)
string-texts (item json others) e h = cc

string-other : (text : List ℕ) → Shows text → codes "-" ≡ item_said (string text) → ⊥
string-other text s e = item-not-dash s.octets s.are (sym (e ∙ said-octets text s))

same-item : (text other : List ℕ) → Shows text → Shows other → item_said (string text) ≡ item_said (string other) → text ≡ other
same-item text other s t e =
    s.shown ∙ ap (flat_map shown_octet) (items-apart s.octets t.octets s.are t.are (sym (said-octets text s) ∙ e ∙ said-octets other t)) ∙ sym t.shown

same-strings : (its those : Items) → are_strings its ≡ true → are_strings those ≡ true → AreTold its → AreTold those → items_said its ≡ items_said those → its ≡ those
same-strings no_items no_items e f h k same = refl
same-strings no_items (item json others) e f h k same = cc
same-strings (item json others) no_items e f h k same = cc
same-strings (item null xs) (item null ys) e f h k same = ap (item null) (same-strings xs ys e f h.1 k.1 (heads _ _ _ _ same).1)
same-strings (item null xs) (item (string text) ys) e f h k same = absurd (string-other text k.0 (heads _ _ _ _ same).0)
same-strings (item (string text) xs) (item null ys) e f h k same = absurd (string-other text h.0 (sym (heads _ _ _ _ same).0))
same-strings (item (string text) xs) (item (string other) ys) e f h k same =
    let parts = heads _ _ _ _ same in ap₂ (λ a b. item (string a) b) (same-item text other h.0 k.0 parts.0) (same-strings xs ys e f h.1 k.1 parts.1)
same-strings its those e f h k same = cc

-- ---- members of each type
no-truth : (holds : Bool) → codes "-" ≡ true_or_false holds → ⊥
no-truth true e = omega (arith, ap head e)
no-truth false e = omega (arith, ap head e)

same-truth : (one other : Bool) → true_or_false one ≡ true_or_false other → one ≡ other
same-truth true true e = refl
same-truth true false e = absurd (omega (arith, ap head e))
same-truth false true e = absurd (omega (arith, ap head e))
same-truth false false e = refl

no-list : (texts : List (List ℕ)) → AllByRecursion IsText texts → codes "-" ≡ list_cell texts → ⊥
no-list texts h e = by texts (ap back_list e ∙ list-back texts h) e
  where
    by : (texts : List (List ℕ)) → codes "-" ∷ [] ≡ texts → codes "-" ≡ list_cell texts → ⊥
    by texts is e = omega (arith, ap head (subst (λ t. codes "-" ≡ list_cell t) (sym is) e))

pub apart : (type : MemberType) (line other : List ℕ) (one two : Json) → IsTold one → IsTold two → is_of type one ≡ true → is_of type two ≡ true → said line one ≡ said other two → one ≡ two
apart Truths line other null null h k e f same = refl
apart Truths line other null (boolean b) h k e f same = absurd (no-truth b same)
apart Truths line other (boolean a) null h k e f same = absurd (no-truth a (sym same))
apart Truths line other (boolean a) (boolean b) h k e f same = ap boolean (same-truth a b same)
apart Numbers line other null null h k e f same = refl
apart Numbers line other null (number b) h k e f same = absurd (k same)
apart Numbers line other (number a) null h k e f same = absurd (h (sym same))
apart Numbers line other (number a) (number b) h k e f same = ap number same
apart Strings line other null null h k e f same = refl
apart Strings line other null (string b) h k e f same = absurd (no-dash b k same)
apart Strings line other (string a) null h k e f same = absurd (no-dash a h (sym same))
apart Strings line other (string a) (string b) h k e f same = ap string (same-text a b h k same)
apart NumberLists line other null null h k e f same = refl
apart NumberLists line other null (array b) h k e f same = absurd (no-list (items_said b) (number-texts b f k) same)
apart NumberLists line other (array a) null h k e f same = absurd (no-list (items_said a) (number-texts a e h) (sym same))
apart NumberLists line other (array a) (array b) h k e f same = ap array (same-numbers a b e f h k (same-list (items_said a) (items_said b) (number-texts a e h) (number-texts b f k) same))
apart StringLists line other null null h k e f same = refl
apart StringLists line other null (array b) h k e f same = absurd (no-list (items_said b) (string-texts b f k) same)
apart StringLists line other (array a) null h k e f same = absurd (no-list (items_said a) (string-texts a e h) (sym same))
apart StringLists line other (array a) (array b) h k e f same = ap array (same-strings a b e f h k (same-list (items_said a) (items_said b) (string-texts a e h) (string-texts b f k) same))
apart type line other one two h k e f same = cc
