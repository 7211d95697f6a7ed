-- Lists of what is viewed.
use Rattle.std.proofs.Common.{◌≡◌, ℕ, ℤ, Option, None, Some, MatchOption, List, [], ◌∷◌, ◌++◌, map, refl, sym, ap, ◌∙◌, append_assoc, codes}
use Rattle.std.specs.Prelude.{⊤}
use Rattle.std.specs.List.{flat_map}
use Rattle.krb_msg.specs.Grammar.{int32, pa_data}
use Rattle.krb_msg.specs.Term.{Term}
use Rattle.krb_msg.specs.Viewed.{IsFirstItem, IsFirstType, items_of}
use Rattle.krb_record.specs.declared.item.NumberForm.{NumberForm}
use Rattle.krb_record.specs.Items.{number_item}
use Rattle.krb_text.specs.inner.Items.{IsFirstNumber, item_number}
use Rattle.krb_record.specs.Text.{joined, list_text}

pub others-text : {A B : Type 0} (f : A → B) (separator : List ℕ) (text : B → List ℕ) (values : List A) → flat_map (λ v. separator ++ text v) (map f values) ≡ flat_map (λ v. separator ++ text (f v)) values
others-text f separator text [] = refl
others-text f separator text (v ∷ vs) = ap (λ rest. (separator ++ text (f v)) ++ rest) (others-text f separator text vs)

pub list_text_map : {A B : Type 0} (f : A → B) (text : B → List ℕ) (values : List A) → list_text text (map f values) ≡ list_text (λ v. text (f v)) values
list_text_map f text [] = refl
list_text_map f text (v ∷ vs) = rw (others-text f (codes ",") text vs) refl

pub map-same : {A : Type 0} (values : List A) → map (λ value. value) values ≡ values
map-same [] = refl
map-same (v ∷ vs) = ap (λ rest. v ∷ rest) (map-same vs)

pub map-map : {A B C : Type 0} (f : B → C) (g : A → B) (values : List A) → map f (map g values) ≡ map (λ value. f (g value)) values
map-map f g [] = refl
map-map f g (v ∷ vs) = ap (λ rest. f (g v) ∷ rest) (map-map f g vs)

-- ---- the number of the first item
module _ {R : Type 0} (left : R → List ℕ) (octets : List ℕ) where
  pub first_number : (found : Option (ℤ × R)) → MatchOption found (items_of int32 octets ≡ []) (λ f. IsFirstItem int32 octets f.0 (left f.1) × ⊤) → MatchOption found (items_of int32 octets ≡ []) (λ f. IsFirstNumber int32 octets f.0 (left f.1))
  first_number None none = none
  first_number (Some found) is = record { value = found.0; first = is.0; same = refl }

  pub first_type : (found : Option (ℤ × R)) → MatchOption found (items_of pa_data octets ≡ []) (λ f. IsFirstType octets f.0 (left f.1)) → MatchOption found (items_of pa_data octets ≡ []) (λ f. IsFirstNumber pa_data octets f.0 (left f.1))
  first_type None none = none
  first_type (Some found) is = record { value = is.value; first = is.first; same = is.same }

-- after a comma and the number of the first item come those of the others
module _ (term : Term) (form : NumberForm) where
  abbrev shown : List ℕ → List ℕ
  shown octets = flat_map (λ item. codes "," ++ number_item form (item_number term item)) (items_of term octets)

  pub number_put : (octets rest text comma new : List ℕ) (number : ℤ) → IsFirstNumber term octets number rest → comma ≡ text ++ codes "," → new ≡ comma ++ number_item form number →
      new ++ flat_map (λ item. codes "," ++ number_item form (item_number term item)) (items_of term rest) ≡ text ++ flat_map (λ item. codes "," ++ number_item form (item_number term item)) (items_of term octets)
  number_put octets rest text comma new number first has_comma has_number =
      let item : List ℕ = number_item form (item_number term first.value) in
      ap (λ t. t ++ shown rest) (has_number ∙ ap (λ t. t ++ number_item form number) has_comma ∙ ap (λ n. (text ++ codes ",") ++ number_item form n) first.same)
      ∙ append_assoc (text ++ codes ",") item (shown rest)
      ∙ append_assoc text (codes ",") (item ++ shown rest)
      ∙ ap (λ t. text ++ t) (sym (append_assoc (codes ",") item (shown rest)))
      ∙ ap (λ items. text ++ flat_map (λ i. codes "," ++ number_item form (item_number term i)) items) (sym first.first.items)

  -- so it is of all items
  pub numbers_put : (none octets rest text one : List ℕ) (number : ℤ) → IsFirstNumber term octets number rest → one ≡ text ++ number_item form number →
      one ++ flat_map (λ item. codes "," ++ number_item form (item_number term item)) (items_of term rest) ≡ text ++ joined none (codes ",") (λ item. number_item form (item_number term item)) (items_of term octets)
  numbers_put none octets rest text one number first has_number =
      ap (λ t. t ++ shown rest) (has_number ∙ ap (λ n. text ++ number_item form n) first.same)
      ∙ append_assoc text (number_item form (item_number term first.value)) (shown rest)
      ∙ ap (λ items. text ++ joined none (codes ",") (λ item. number_item form (item_number term item)) items) (sym first.first.items)
