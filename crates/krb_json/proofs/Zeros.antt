-- A value has the number 0 for an encryption type only if its octets have those of that number.
use Rattle.std.proofs.Common.{◌≡◌, ℕ, ℤ, pos, negsuc, zero, suc, ◌+◌, ◌&&◌, true, false, Bool, if◌then◌else◌, List, [], ◌∷◌, ◌++◌, length, append_assoc, Option, Some, None, refl, sym, ◌∙◌, ap, subst, arith}
use Rattle.std.proofs.lemmas.Bool.{true≢false, and_parts, ne_eqb}
use Rattle.std.specs.List.{flat_map}
use Rattle.krb_der.specs.Octets.{item, length_octets}
use Rattle.krb_msg.specs.Term.{Term, Fields, Integer, Text, Octets, Time, Bits, Sequence, SequenceOf, Tagged, Application, End, Required, Optional, Value, Values, der, der_of_fields}
use Rattle.krb_msg.specs.Views.{kind_of, kind_name, kind_term, message_value, message_der}
use Rattle.krb_msg.specs.declared.message.Message.{Message}
use Rattle.krb_judge.specs.FieldNames.{field_at, names_of_kind}
use Rattle.krb_judge.specs.Paths.{field_path, element_path}
use Rattle.krb_judge.specs.declared.locating.names.Names.{Names}
use Rattle.krb_json.specs.Unencrypted.{unencrypted, unencrypted_fields, unencrypted_items, unencrypted_in, is_zero, is_zero_number, begin_with_zero, is_encrypted_data, first_of}
use Rattle.krb_json.specs.inner.Searching.{HasZero}

-- ---- what has it after more octets, and before
after : (front octets : List ℕ) → HasZero octets → HasZero (front ++ octets)
after front octets h = record {
  before = front ++ h.before;
  after = h.after;
  parts = ap (λ l. front ++ l) h.parts ∙ sym (append_assoc front h.before (2 ∷ 1 ∷ 0 ∷ h.after));
}

followed : (octets more : List ℕ) → HasZero octets → HasZero (octets ++ more)
followed octets more h = record {
  before = h.before;
  after = h.after ++ more;
  parts = ap (λ l. l ++ more) h.parts ∙ append_assoc h.before (2 ∷ 1 ∷ 0 ∷ h.after) more;
}

inside : (tag : ℕ) (contents : List ℕ) → HasZero contents → HasZero (item tag contents)
inside tag contents h = after (tag ∷ length_octets (length contents)) contents h

-- ---- the number 0
number-zero : (value : ℤ) (low high : ℤ) → is_zero_number value ≡ true → HasZero (der (Integer low high) value)
number-zero (pos zero) low high e = record { before = []; after = []; parts = refl }
number-zero (pos (suc n)) low high e = absurd (true≢false (sym e ∙ ne_eqb (suc n) 0 (λ same. omega (arith, same))))
number-zero (negsuc n) low high e = cc e

zero-has : (term : Term) (value : Value term) → is_zero term value ≡ true → HasZero (der term value)
zero-has (Integer low high) value e = number-zero value low high e
zero-has (Text greatest) value e = cc e
zero-has Octets value e = cc e
zero-has Time value e = cc e
zero-has (Bits least) value e = cc e
zero-has (Sequence fields) value e = cc e
zero-has (SequenceOf empty term) value e = cc e
zero-has (Tagged index term) value e = inside (0xA0 + index) (der term value) (zero-has term value e)
zero-has (Application number term) value e = inside (0x60 + number) (der term value) (zero-has term value e)

first-has : (fields : Fields) (values : Values fields) → begin_with_zero fields values ≡ true → HasZero (der_of_fields fields values)
first-has End values e = cc e
first-has (Required term fields) values e = followed (der term values.0) (der_of_fields fields values.1) (zero-has term values.0 e)
first-has (Optional term fields) values e = cc e

-- ---- a path
-- octets that have it if there is a path
abbrev IfAny : Option (List ℕ) → List ℕ → Type 0
IfAny None octets = Unit {0}
IfAny (Some path) octets = HasZero octets

both : (a b : Option (List ℕ)) (first others : List ℕ) → IfAny a first → IfAny b others → IfAny (first_of a b) (first ++ others)
both None None first others f o = tt
both None (Some path) first others f o = after first others o
both (Some path) b first others f o = followed first others f

within : (o : Option (List ℕ)) (tag : ℕ) (contents : List ℕ) → IfAny o contents → IfAny o (item tag contents)
within None tag contents h = tt
within (Some path) tag contents h = inside tag contents h

items-have : {A : Type 0} (in_item : (path : List ℕ) → A → Option (List ℕ)) (form : A → List ℕ) → ((path : List ℕ) (value : A) → IfAny (in_item path value) (form value)) → (path : List ℕ) (index : ℕ) (values : List A) → IfAny (unencrypted_items in_item path index values) (flat_map form values)
items-have in_item form each path index [] = tt
items-have in_item form each path index (v ∷ values) =
    both (in_item (element_path path index) v) (unencrypted_items in_item path (index + 1) values) (form v) (flat_map form values) (each (element_path path index) v) (items-have in_item form each path (index + 1) values)

here : (names : Names) (fields : Fields) (values : Values fields) (path : List ℕ) (others : Option (List ℕ)) → IfAny others (der_of_fields fields values) → IfAny (if is_encrypted_data names && begin_with_zero fields values then Some path else others) (der_of_fields fields values)
here names fields values path others h = by (is_encrypted_data names && begin_with_zero fields values) refl
  where
    by : (b : Bool) → (is_encrypted_data names && begin_with_zero fields values) ≡ b → IfAny (if b then Some path else others) (der_of_fields fields values)
    by true e = first-has fields values (and_parts (is_encrypted_data names) (begin_with_zero fields values) e).1
    by false e = h

mutual
  value-has : (term : Term) (names : Names) (path : List ℕ) (value : Value term) → IfAny (unencrypted term names path value) (der term value)
  value-has (Integer low high) names path value = tt
  value-has (Text greatest) names path value = tt
  value-has Octets names path value = tt
  value-has Time names path value = tt
  value-has (Bits least) names path value = tt
  value-has (Sequence fields) names path values =
      within (unencrypted (Sequence fields) names path values) 0x30 (der_of_fields fields values) (here names fields values path (unencrypted_fields fields names path 0 values) (fields-have fields names path 0 values))
  value-has (SequenceOf empty term) names path values =
      within (unencrypted_items (unencrypted term names) path 0 values) 0x30 (flat_map (der term) values) (items-have (unencrypted term names) (der term) (value-has term names) path 0 values)
  value-has (Tagged index term) names path value = within (unencrypted term names path value) (0xA0 + index) (der term value) (value-has term names path value)
  value-has (Application number term) names path value = within (unencrypted term names path value) (0x60 + number) (der term value) (value-has term names path value)

  fields-have : (fields : Fields) (names : Names) (path : List ℕ) (index : ℕ) (values : Values fields) → IfAny (unencrypted_fields fields names path index values) (der_of_fields fields values)
  fields-have End names path index values = tt
  fields-have (Required term fields) names path index values =
      both (unencrypted term (field_at names index).inside (field_path path (field_at names index).name) values.0) (unencrypted_fields fields names path (index + 1) values.1) (der term values.0) (der_of_fields fields values.1)
      (value-has term (field_at names index).inside (field_path path (field_at names index).name) values.0) (fields-have fields names path (index + 1) values.1)
  fields-have (Optional term fields) names path index (None, values) = both None (unencrypted_fields fields names path (index + 1) values) [] (der_of_fields fields values) tt (fields-have fields names path (index + 1) values)
  fields-have (Optional term fields) names path index (Some value, values) =
      both (unencrypted term (field_at names index).inside (field_path path (field_at names index).name) value) (unencrypted_fields fields names path (index + 1) values) (der term value) (der_of_fields fields values)
      (value-has term (field_at names index).inside (field_path path (field_at names index).name) value) (fields-have fields names path (index + 1) values)

-- a message whose octets have no 0 is encrypted
pub none-in : (octets : List ℕ) (m : Message) → message_der m ≡ octets → (HasZero octets → ⊥) → unencrypted_in m ≡ None
none-in octets m form lacks = by (unencrypted_in m) (value-has (kind_term (kind_of m)) (names_of_kind (kind_of m)) (kind_name (kind_of m)) (message_value m))
  where
    by : (o : Option (List ℕ)) → IfAny o (message_der m) → o ≡ None
    by None h = refl
    by (Some path) h = absurd (lacks (subst HasZero form h))
