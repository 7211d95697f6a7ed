-- The value of the DER of a value is that value.
use Rattle.std.proofs.Common.{◌≡◌, ℕ, zero, suc, ◌+◌, ◌^◌, ◌<◌, ◌≤◌, true, false, not, ◌&&◌, eqb, List, [], ◌∷◌, ◌++◌, length, map, drop, Option, Some, None, refl, sym, ◌∙◌, ap, ap₂, arith, append-nil, length-append, eq-eqb, drop_at}
use Rattle.std.proofs.lemmas.Bool.{and_parts, not-true, true≢false, false_from_ne_true, eqb-true}
use Rattle.std.proofs.lemmas.List.{take_at}
use Rattle.std.specs.List.{flat_map}
use Rattle.krb_der.specs.Octets.{item, length_octets, begins_with}
use Rattle.krb_der.specs.inner.Numbers.{integer_value-integer_octets, when-true, when-false}
use Rattle.krb_der.specs.inner.Items.{item-append}
use Rattle.krb_der.specs.inner.PrefixFree.{same_pair}
use Rattle.krb_msg.specs.Term.{Term, Fields, Integer, Sequence, SequenceOf, Tagged, Application, End, Required, Optional, tag_of, Value, Values, der, der_of_fields, octets_of_option}
use Rattle.krb_msg.specs.ValueOfDer.{SplitItem, split_at_head, split_item, split_items, value_of, values_of, value_of_der}
use Rattle.krb_msg.specs.Shape.{may_begin, is_unambiguous, are_unambiguous}
use Rattle.krb_msg.specs.inner.Values.{contents, der_is, may_begin_from_der}
use Rattle.krb_msg.proofs.Accepts.{length-der}
use Rattle.krb_msg.proofs.Heads.{head-length_octets}

abbrev the_split : List ℕ → List ℕ → SplitItem
the_split contents after = record { contents = contents; rest = after }

after_header : (tag : ℕ) (lengths rest : List ℕ) → drop (1 + length lengths) (tag ∷ (lengths ++ rest)) ≡ rest
after_header tag lengths rest = drop_at (tag ∷ lengths) rest (1 + length lengths) (omega arith)

split_item-item : (tag : ℕ) (inner rest : List ℕ) → length inner < 2 ^ 32 → split_item (item tag inner ++ rest) ≡ the_split inner rest
split_item-item tag inner rest small =
    let lengths : List ℕ = length_octets (length inner) in
    let n : length (tag ∷ (lengths ++ (inner ++ rest))) ≡ 1 + length lengths + length inner + length rest = omega (arith, length-append lengths (inner ++ rest), length-append inner rest) in
    ap split_item (item-append tag inner rest)
    ∙ ap (λ h. split_at_head h (tag ∷ (lengths ++ (inner ++ rest)))) (head-length_octets (length (tag ∷ (lengths ++ (inner ++ rest)))) tag (length inner) (inner ++ rest) small (omega arith))
    ∙ rw (after_header tag lengths (inner ++ rest), take_at inner rest (length inner) refl, drop_at inner rest (length inner) refl) refl

split_item-der : (term : Term) (value : Value term) (rest : List ℕ) → length (der term value ++ rest) < 2 ^ 32 → split_item (der term value ++ rest) ≡ the_split (contents term value) rest
split_item-der term value rest small =
    ap (λ octets. split_item (octets ++ rest)) (der_is term value)
    ∙ split_item-item (tag_of term) (contents term value) rest (omega (arith, length-der term value, length-append (der term value) rest))

-- that the contents of a value are read as the value
abbrev IsRead : Term → Type 0
IsRead term = (value : Value term) → length (contents term value) < 2 ^ 32 → value_of term (contents term value) ≡ value

inner-small : (term : Term) (value : Value term) (rest : List ℕ) → length (der term value ++ rest) < 2 ^ 32 → length (contents term value) < 2 ^ 32
inner-small term value rest small = omega (arith, length-der term value, length-append (der term value) rest)

first-read : (term : Term) → IsRead term → (value : Value term) (rest : List ℕ) → length (der term value ++ rest) < 2 ^ 32 → value_of term (split_item (der term value ++ rest)).contents ≡ value
first-read term read value rest small = ap (λ (o : SplitItem). value_of term o.contents) (split_item-der term value rest small) ∙ read value (inner-small term value rest small)

sole-read : (term : Term) → IsRead term → (value : Value term) → length (der term value) < 2 ^ 32 → value_of term (split_item (der term value)).contents ≡ value
sole-read term read value small =
    ap (λ octets. value_of term (split_item octets).contents) (sym (append-nil (der term value)))
    ∙ first-read term read value [] (omega (arith, length-append (der term value) []))

-- ---- items one after another
all_step : (bound : ℕ) (octets : List ℕ) → 0 < length octets → split_items (suc bound) octets ≡ (split_item octets).contents ∷ split_items bound (split_item octets).rest
all_step bound [] p = absurd (omega arith)
all_step bound (octet ∷ octets) p = refl

items-read : (term : Term) → IsRead term → (values : List (Value term)) (bound : ℕ) → length (flat_map (der term) values) ≤ bound → length (flat_map (der term) values) < 2 ^ 32 → map (value_of term) (split_items bound (flat_map (der term) values)) ≡ values
items-read term read [] bound within small = refl
items-read term read (v ∷ vs) zero within small = absurd (omega (arith, length-der term v, length-append (der term v) (flat_map (der term) vs)))
items-read term read (v ∷ vs) (suc bound) within small =
    let l : length (der term v ++ flat_map (der term) vs) ≡ length (der term v) + length (flat_map (der term) vs) = length-append (der term v) (flat_map (der term) vs) in
    let p : 0 < length (der term v) = omega (arith, length-der term v) in
    rw (all_step bound (der term v ++ flat_map (der term) vs) (omega arith), split_item-der term v (flat_map (der term) vs) small)
    (ap₂ ◌∷◌ (read v (inner-small term v (flat_map (der term) vs) small)) (items-read term read vs bound (omega arith) (omega arith)))

-- ---- fields
begins-der : (term : Term) (value : Value term) (rest : List ℕ) → begins_with (tag_of term) (der term value ++ rest) ≡ true
begins-der term value rest = ap (λ octets. begins_with (tag_of term) (octets ++ rest)) (der_is term value) ∙ eq-eqb (tag_of term) (tag_of term) refl

begins_not : (tag : ℕ) (octets : List ℕ) → ((octet : ℕ) (rest : List ℕ) → octets ≡ octet ∷ rest → octet ≡ tag → ⊥) → begins_with tag octets ≡ false
begins_not tag [] apart = refl
begins_not tag (octet ∷ rest) apart = false_from_ne_true (eqb octet tag) (λ t. apart octet rest refl (eqb-true octet tag t))

abbrev both : (term : Term) (fields : Fields) → Option (Value term) → Values fields → Values (Optional term fields)
both term fields value values = (value, values)

option-read : (term : Term) (fields : Fields) → IsRead term → ((values : Values fields) → length (der_of_fields fields values) < 2 ^ 32 → values_of fields (der_of_fields fields values) ≡ values) → not (may_begin (tag_of term) fields) ≡ true → (value : Option (Value term)) (values : Values fields) → length (octets_of_option (der term) value ++ der_of_fields fields values) < 2 ^ 32 → values_of (Optional term fields) (octets_of_option (der term) value ++ der_of_fields fields values) ≡ both term fields value values
option-read term fields read rest u None values small =
    when-false _ _ _ (begins_not (tag_of term) (der_of_fields fields values) (λ octet after e t. true≢false (sym (may_begin_from_der fields values (tag_of term) after (e ∙ ap (λ o. o ∷ after) t)) ∙ not-true _ u)))
    ∙ same_pair _ _ refl (rest values small)
option-read term fields read rest u (Some value) values small =
    when-true _ _ _ (begins-der term value (der_of_fields fields values))
    ∙ same_pair _ _ (ap Some (first-read term read value (der_of_fields fields values) small))
    (ap (λ (o : SplitItem). values_of fields o.rest) (split_item-der term value (der_of_fields fields values) small)
    ∙ rest values (omega (arith, length-append (der term value) (der_of_fields fields values))))

mutual
  pub contents-read : (term : Term) → is_unambiguous term ≡ true → IsRead term
  contents-read (Integer low high) u value small = integer_value-integer_octets value
  contents-read (Sequence fields) u values small = fields-read fields u values small
  contents-read (SequenceOf empty term) u values small = items-read term (contents-read term u) values (length (flat_map (der term) values)) (omega arith) small
  contents-read (Tagged index term) u value small = sole-read term (contents-read term u) value small
  contents-read (Application number term) u value small = sole-read term (contents-read term u) value small
  contents-read other u another small = refl

  fields-read : (fields : Fields) → are_unambiguous fields ≡ true → (values : Values fields) → length (der_of_fields fields values) < 2 ^ 32 → values_of fields (der_of_fields fields values) ≡ values
  fields-read End u values small = refl
  fields-read (Required term fields) u values small =
      let t : (is_unambiguous term ≡ true) × (are_unambiguous fields ≡ true) = and_parts _ _ u in
      same_pair _ _ (first-read term (contents-read term t.0) values.0 (der_of_fields fields values.1) small)
      (ap (λ (o : SplitItem). values_of fields o.rest) (split_item-der term values.0 (der_of_fields fields values.1) small)
      ∙ fields-read fields t.1 values.1 (omega (arith, length-append (der term values.0) (der_of_fields fields values.1))))
  fields-read (Optional term fields) u values small =
      let s : (not (may_begin (tag_of term) fields) ≡ true) × ((is_unambiguous term && are_unambiguous fields) ≡ true) = and_parts _ _ u in
      let t : (is_unambiguous term ≡ true) × (are_unambiguous fields ≡ true) = and_parts _ _ s.1 in
      option-read term fields (contents-read term t.0) (λ values small. fields-read fields t.1 values small) s.0 values.0 values.1 small

-- the value of the DER of a value is that value
pub value_of_der_is_value : (term : Term) (value : Value term) → is_unambiguous term ≡ true → length (der term value) < 2 ^ 32 → value_of_der term (der term value) ≡ value
value_of_der_is_value term value u small = sole-read term (contents-read term u) value small
