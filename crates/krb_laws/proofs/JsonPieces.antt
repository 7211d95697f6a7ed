-- Texts that are values of JSON, put together of their parts.
use Rattle.std.proofs.Common.{◌≡◌, ℕ, ℤ, unsigned_abs, ◌+◌, ◌^◌, ◌<◌, ◌≤◌, Bool, true, false, cond, List, [], ◌∷◌, ◌++◌, map, codes, decimal, refl, sym, ◌∙◌, ap, ap₂, subst, append_assoc, append-nil, arith, Some}
use Rattle.std.specs.Fmt.{signed_decimal}
use Rattle.std.specs.List.{AllByRecursion, flat_map}
use Rattle.json.specs.Json.{Json, null, boolean, number, string, array, object, Items, no_items, item, Members, no_members, member, document, max_depth}
use Rattle.json.specs.Print.{print, print_from, token_text, escape, quoted, IsNumber}
use Rattle.json.specs.Strict.{keys, AreDistinct, HasUniqueKeys, ItemsHaveUniqueKeys, MembersHaveUniqueKeys}
use Rattle.json.specs.Token.{Token}
use Rattle.json.specs.Token as token
use Rattle.json.specs.Tree.{json_tokens, items_tokens, members_tokens, depth, items_depth, members_depth, HasNumbers, ItemsHaveNumbers, MembersHaveNumbers}
use Rattle.json.specs.Value.{items_of}
use Rattle.json.proofs.Printed.Strings.{escape_byte_plain}
use Rattle.json.proofs.Printed.Trees.{document-print}
use Rattle.krb_record.specs.Text.{list_text}
use Rattle.krb_laws.proofs.JsonDecimals.{decimal_is_number, signed_is_number}

-- ---- what is to be shown of a text, of the text of items up to the bracket, and of that of members up to the brace
abbrev pub comma : Bool → List ℕ
comma after = cond after (44 ∷ []) []

-- the text of a value, which nests no deeper than so many levels
pub record IsText (text : List ℕ) (j : Json) (levels : ℕ) : Type 0 where
  pub prints : (after : Bool) (rest : List Token) → print_from after (json_tokens j ++ rest) ≡ comma after ++ (text ++ print_from true rest)
  pub numbers : HasNumbers j
  pub shallow : depth j ≤ levels
  pub unique : HasUniqueKeys j

-- of items after others
pub record AreItems (text : List ℕ) (js : Items) (levels : ℕ) : Type 0 where
  pub prints : (rest : List Token) → print_from true (items_tokens js ++ rest) ≡ text ++ print_from true rest
  pub numbers : ItemsHaveNumbers js
  pub shallow : items_depth js ≤ levels
  pub unique : ItemsHaveUniqueKeys js

-- and of members after others
pub record AreMembers (text : List ℕ) (ms : Members) (levels : ℕ) : Type 0 where
  pub prints : (rest : List Token) → print_from true (members_tokens ms ++ rest) ≡ text ++ print_from true rest
  pub numbers : MembersHaveNumbers ms
  pub shallow : members_depth ms ≤ levels
  pub unique : MembersHaveUniqueKeys ms

-- the same of texts that are equal, and of more levels
pub as_text : {text other : List ℕ} {j : Json} {levels : ℕ} → IsText text j levels → text ≡ other → IsText other j levels
as_text {text} {other} {j} {levels} h e = subst (λ t. IsText t j levels) e h

pub deeper : {text : List ℕ} {j : Json} (levels more : ℕ) → levels ≤ more → IsText text j levels → IsText text j more
deeper levels more le h = record { prints = h.prints; numbers = h.numbers; shallow = omega (arith, h.shallow); unique = h.unique }

-- ---- words and numbers
pub a_null : {levels : ℕ} → IsText (codes "null") null levels
unfolding print_from
a_null = record { prints = shown; numbers = tt; shallow = omega arith; unique = tt }
  where
    shown : (after : Bool) (rest : List Token) → print_from after (token.null ∷ rest) ≡ comma after ++ (codes "null" ++ print_from true rest)
    shown true rest = refl
    shown false rest = refl

pub a_true : {levels : ℕ} → IsText (codes "true") (boolean true) levels
unfolding print_from
a_true = record { prints = shown; numbers = tt; shallow = omega arith; unique = tt }
  where
    shown : (after : Bool) (rest : List Token) → print_from after (token.boolean true ∷ rest) ≡ comma after ++ (codes "true" ++ print_from true rest)
    shown true rest = refl
    shown false rest = refl

pub a_false : {levels : ℕ} → IsText (codes "false") (boolean false) levels
unfolding print_from
a_false = record { prints = shown; numbers = tt; shallow = omega arith; unique = tt }
  where
    shown : (after : Bool) (rest : List Token) → print_from after (token.boolean false ∷ rest) ≡ comma after ++ (codes "false" ++ print_from true rest)
    shown true rest = refl
    shown false rest = refl

a_numeral : {levels : ℕ} (text : List ℕ) → IsNumber text → IsText text (number text) levels
unfolding print_from
a_numeral text h = record { prints = shown; numbers = h; shallow = omega arith; unique = tt }
  where
    shown : (after : Bool) (rest : List Token) → print_from after (token.number text ∷ rest) ≡ comma after ++ (text ++ print_from true rest)
    shown true rest = refl
    shown false rest = refl

pub a_number : {levels : ℕ} (n : ℕ) → n < 10 ^ 64 → IsText (decimal n) (number (decimal n)) levels
a_number n h = a_numeral (decimal n) (decimal_is_number n h)

pub a_signed : {levels : ℕ} (z : ℤ) → unsigned_abs z < 10 ^ 64 → IsText (signed_decimal z) (number (signed_decimal z)) levels
a_signed z h = a_numeral (signed_decimal z) (signed_is_number z h)

-- ---- strings
pub a_quoted : {levels : ℕ} (s : List ℕ) → IsText (quoted s) (string s) levels
unfolding print_from
a_quoted s = record { prints = shown; numbers = tt; shallow = omega arith; unique = tt }
  where
    shown : (after : Bool) (rest : List Token) → print_from after (token.string s ∷ rest) ≡ comma after ++ (quoted s ++ print_from true rest)
    shown true rest = refl
    shown false rest = refl

-- characters that a string of JSON has as they are
abbrev pub IsPlain : List ℕ → Type 0
IsPlain text = AllByRecursion (λ c. (32 ≤ c) × (c ≡ 34 → ⊥) × (c ≡ 92 → ⊥)) text

pub plain : (text : List ℕ) → IsPlain text → escape text ≡ text
plain [] h = refl
plain (c ∷ cs) h = ap₂ (λ x xs. x ++ xs) (escape_byte_plain c h.0.1 h.0.2 h.0.0) (plain cs h.1)

pub a_plain : {levels : ℕ} (s : List ℕ) → IsPlain s → IsText (34 ∷ (s ++ 34 ∷ [])) (string s) levels
a_plain {levels} s h = subst (λ t. IsText (34 ∷ (t ++ 34 ∷ [])) (string s) levels) (plain s h) (a_quoted s)

-- ---- items

no_more_items : {levels : ℕ} → AreItems (codes "]") no_items levels
unfolding print_from
no_more_items = record { prints = λ rest. refl; numbers = tt; shallow = omega arith; unique = tt }

one_more_item : {text others : List ℕ} {j : Json} {js : Items} (levels : ℕ) → IsText text j levels → AreItems others js levels → AreItems (44 ∷ (text ++ others)) (item j js) levels
one_more_item {text} {others} {j} {js} levels h k = record {
  prints = λ rest.
      ap (print_from true) (append_assoc (json_tokens j) (items_tokens js) rest)
      ∙ h.prints true (items_tokens js ++ rest)
      ∙ ap (λ t. 44 ∷ (text ++ t)) (k.prints rest)
      ∙ ap (λ t. 44 ∷ t) (sym (append_assoc text others (print_from true rest)));
  numbers = (h.numbers, k.numbers);
  shallow = omega (arith, h.shallow, k.shallow);
  unique = (h.unique, k.unique);
}

module _ {A : Type 0} (levels : ℕ) (text : A → List ℕ) (json : A → Json) (P : A → Type 0) (shown : (a : A) → P a → IsText (text a) (json a) levels) where
  others_listed : (values : List A) → AllByRecursion P values → AreItems (flat_map (λ a. 44 ∷ text a) values ++ codes "]") (items_of (map json values)) levels
  others_listed [] h = no_more_items
  others_listed (a ∷ values) h =
      subst (λ t. AreItems (44 ∷ t) (items_of (map json (a ∷ values))) levels) (sym (append_assoc (text a) (flat_map (λ a. 44 ∷ text a) values) (codes "]")))
      (one_more_item levels (shown a h.0) (others_listed values h.1))

  -- a list in brackets
  pub a_list : (values : List A) → AllByRecursion P values → IsText (list_text text values) (array (items_of (map json values))) (1 + levels)
  unfolding print_from
  a_list [] h = record { prints = printed; numbers = tt; shallow = omega arith; unique = tt }
    where
      printed : (after : Bool) (rest : List Token) → print_from after (token.begin_array ∷ token.end_array ∷ rest) ≡ comma after ++ (codes "[]" ++ print_from true rest)
      printed true rest = refl
      printed false rest = refl
  a_list (a ∷ values) h = record { prints = printed; numbers = (first.numbers, others.numbers); shallow = omega (arith, first.shallow, others.shallow); unique = (first.unique, others.unique) }
    where
      first : IsText (text a) (json a) levels
      first = shown a h.0

      others : AreItems (flat_map (λ a. 44 ∷ text a) values ++ codes "]") (items_of (map json values)) levels
      others = others_listed values h.1

      inside : (rest : List Token) → print_from false ((json_tokens (json a) ++ items_tokens (items_of (map json values))) ++ rest) ≡ ((text a ++ flat_map (λ a. 44 ∷ text a) values) ++ codes "]") ++ print_from true rest
      inside rest =
          ap (print_from false) (append_assoc (json_tokens (json a)) (items_tokens (items_of (map json values))) rest)
          ∙ first.prints false (items_tokens (items_of (map json values)) ++ rest)
          ∙ ap (λ t. text a ++ t) (others.prints rest)
          ∙ sym (append_assoc (text a) (flat_map (λ a. 44 ∷ text a) values ++ codes "]") (print_from true rest))
          ∙ ap (λ t. t ++ print_from true rest) (sym (append_assoc (text a) (flat_map (λ a. 44 ∷ text a) values) (codes "]")))

      printed : (after : Bool) (rest : List Token) → print_from after (token.begin_array ∷ ((json_tokens (json a) ++ items_tokens (items_of (map json values))) ++ rest)) ≡ comma after ++ (list_text text (a ∷ values) ++ print_from true rest)
      printed true rest = ap (λ t. 44 ∷ 91 ∷ t) (inside rest)
      printed false rest = ap (λ t. 91 ∷ t) (inside rest)

-- ---- members
pub no_more_members : {levels : ℕ} → AreMembers (codes "}") no_members levels
unfolding print_from
no_more_members = record { prints = λ rest. refl; numbers = tt; shallow = omega arith; unique = tt }

module _ {text others : List ℕ} (key : List ℕ) {j : Json} {ms : Members} (levels : ℕ) (name : IsPlain key) (h : IsText text j levels) (k : AreMembers others ms levels) where
  -- a member is its name in quotes, a colon, its value and what follows
  member_text : (rest : List Token) → token_text (token.key key) ++ print_from false ((json_tokens j ++ members_tokens ms) ++ rest) ≡ (34 ∷ (key ++ 34 ∷ 58 ∷ (text ++ others))) ++ print_from true rest
  member_text rest =
      ap₂ (λ s t. ((34 ∷ (s ++ 34 ∷ [])) ++ 58 ∷ []) ++ t) (plain key name)
      (ap (print_from false) (append_assoc (json_tokens j) (members_tokens ms) rest)
      ∙ h.prints false (members_tokens ms ++ rest)
      ∙ ap (λ t. text ++ t) (k.prints rest)
      ∙ sym (append_assoc text others (print_from true rest)))
      ∙ simp append_assoc refl

  pub one_more_member : AreMembers (44 ∷ 34 ∷ (key ++ 34 ∷ 58 ∷ (text ++ others))) (member key j ms) levels
  unfolding print_from
  one_more_member = record {
    prints = λ rest. ap (λ t. 44 ∷ t) (member_text rest);
    numbers = (h.numbers, k.numbers);
    shallow = omega (arith, h.shallow, k.shallow);
    unique = (h.unique, k.unique);
  }

  -- an object of it and the others
  pub an_object : AreDistinct (key ∷ keys ms) → IsText (123 ∷ 34 ∷ (key ++ 34 ∷ 58 ∷ (text ++ others))) (object (member key j ms)) (1 + levels)
  unfolding print_from
  an_object distinct = record {
    prints = printed;
    numbers = (h.numbers, k.numbers);
    shallow = omega (arith, h.shallow, k.shallow);
    unique = (distinct, (h.unique, k.unique));
  }
    where
      printed : (after : Bool) (rest : List Token) → print_from after (token.begin_object ∷ token.key key ∷ ((json_tokens j ++ members_tokens ms) ++ rest)) ≡ comma after ++ ((123 ∷ 34 ∷ (key ++ 34 ∷ 58 ∷ (text ++ others))) ++ print_from true rest)
      printed true rest = ap (λ t. 44 ∷ 123 ∷ t) (member_text rest)
      printed false rest = ap (λ t. 123 ∷ t) (member_text rest)

-- ---- texts put together one after another, as they are written
pub five : (a x b y c : List ℕ) → a ++ (x ++ (b ++ (y ++ c))) ≡ a ++ x ++ b ++ y ++ c
five a x b y c = simp append_assoc refl

pub seven : (a x b y c z d : List ℕ) → a ++ (x ++ (b ++ (y ++ (c ++ (z ++ d))))) ≡ a ++ x ++ b ++ y ++ c ++ z ++ d
seven a x b y c z d = simp append_assoc refl

pub nine : (a x b y c z d u e : List ℕ) → a ++ (x ++ (b ++ (y ++ (c ++ (z ++ (d ++ (u ++ e))))))) ≡ a ++ x ++ b ++ y ++ c ++ z ++ d ++ u ++ e
nine a x b y c z d u e = simp append_assoc refl

pub eleven : (a x b y c z d u e v f : List ℕ) → a ++ (x ++ (b ++ (y ++ (c ++ (z ++ (d ++ (u ++ (e ++ (v ++ f))))))))) ≡ a ++ x ++ b ++ y ++ c ++ z ++ d ++ u ++ e ++ v ++ f
eleven a x b y c z d u e v f = simp append_assoc refl

-- ---- the whole text
pub printed_is : {text : List ℕ} {j : Json} {levels : ℕ} → IsText text j levels → print (json_tokens j) ≡ text
unfolding print_from
printed_is {text} {j} h = ap (print_from false) (sym (append-nil (json_tokens j))) ∙ h.prints false [] ∙ append-nil text

pub document_is : {text : List ℕ} {j : Json} (levels : ℕ) → levels ≤ max_depth → IsText text j levels → document text ≡ Some j
document_is {text} {j} levels le h = ap document (sym (printed_is h)) ∙ document-print j h.numbers (omega (arith, h.shallow, le))
