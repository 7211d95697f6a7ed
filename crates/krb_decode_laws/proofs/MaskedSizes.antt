-- What is masked of a message changes nothing of how many octets it has.
use Rattle.std.proofs.Common.{◌≡◌, ℕ, ◌+◌, Bool, true, false, if◌then◌else◌, List, [], ◌∷◌, ◌++◌, length, length-append, map, replicate, Option, Some, None, refl, sym, ◌∙◌, ap, arith}
use Rattle.std.specs.Prelude.{◌&&◌, option_map}
use Rattle.std.specs.List.{flat_map}
use Rattle.std.proofs.lemmas.List.{length-replicate}
use Rattle.krb_der.specs.Octets.{item, length_octets, octets_of_option}
use Rattle.krb_json.specs.Masked.{masked, masked_fields, masked_in, zeroed, zeroed_fields}
use Rattle.krb_json.specs.Unencrypted.{begin_with_zero, is_encrypted_data}
use Rattle.krb_judge.specs.FieldNames.{field_at, names_of_kind}
use Rattle.krb_judge.specs.declared.locating.names.Names.{Names}
use Rattle.krb_msg.specs.Term.{Application, End, Fields, Octets, Optional, Required, Sequence, SequenceOf, Tagged, Term, Value, Values, der, der_of_fields}
use Rattle.krb_msg.specs.Views.{kind_of, kind_term, message_der, message_value}
use Rattle.krb_msg.specs.declared.message.Kind.{Kind}
use Rattle.krb_msg.specs.declared.message.Message.{Message}

item-size : (tag : ℕ) (one other : List ℕ) → length one ≡ length other → length (item tag one) ≡ length (item tag other)
item-size tag one other e =
    omega (arith, length-append (length_octets (length one)) one, length-append (length_octets (length other)) other, ap (λ n. length (length_octets n)) e, e)

both-size : (a b c d : List ℕ) → length a ≡ length b → length c ≡ length d → length (a ++ c) ≡ length (b ++ d)
both-size a b c d e f = omega (arith, length-append a c, length-append b d, e, f)

module _ {A : Type 0} (octets : A → List ℕ) (mask : A → A) (same : (a : A) → length (octets (mask a)) ≡ length (octets a)) where
  all-size : (all : List A) → length (flat_map octets (map mask all)) ≡ length (flat_map octets all)
  all-size [] = refl
  all-size (a ∷ all) = both-size (octets (mask a)) (octets a) (flat_map octets (map mask all)) (flat_map octets all) (same a) (all-size all)

  option-size : (value : Option A) → length (octets_of_option octets (option_map mask value)) ≡ length (octets_of_option octets value)
  option-size None = refl
  option-size (Some value) = same value

zeroed-size : (term : Term) (value : Value term) → length (der term (zeroed term value)) ≡ length (der term value)
zeroed-size Octets octets = item-size 0x04 (replicate (length octets) 0) octets (length-replicate (length octets) 0)
zeroed-size (Tagged index term) value = item-size (0xA0 + index) (der term (zeroed term value)) (der term value) (zeroed-size term value)
zeroed-size (Application number term) value = item-size (0x60 + number) (der term (zeroed term value)) (der term value) (zeroed-size term value)
zeroed-size other value = refl

zeroed-fields : (fields : Fields) (values : Values fields) → length (der_of_fields fields (zeroed_fields fields values)) ≡ length (der_of_fields fields values)
zeroed-fields End values = refl
zeroed-fields (Required term fields) values = both-size (der term (zeroed term values.0)) (der term values.0) (der_of_fields fields (zeroed_fields fields values.1)) (der_of_fields fields values.1) (zeroed-size term values.0) (zeroed-fields fields values.1)
zeroed-fields (Optional term fields) values =
    both-size (octets_of_option (der term) (option_map (zeroed term) values.0)) (octets_of_option (der term) values.0) (der_of_fields fields (zeroed_fields fields values.1)) (der_of_fields fields values.1)
    (option-size (der term) (zeroed term) (zeroed-size term) values.0) (zeroed-fields fields values.1)

chosen-size : (fields : Fields) (zero : Bool) (one other values : Values fields) → length (der_of_fields fields one) ≡ length (der_of_fields fields values) → length (der_of_fields fields other) ≡ length (der_of_fields fields values) → length (der_of_fields fields (if zero then one else other)) ≡ length (der_of_fields fields values)
chosen-size fields true one other values e f = e
chosen-size fields false one other values e f = f

mutual
  masked-size : (term : Term) (names : Names) (value : Value term) → length (der term (masked term names value)) ≡ length (der term value)
  masked-size (Sequence fields) names values =
      let zero : Bool = is_encrypted_data names && begin_with_zero fields values in
      item-size 0x30 (der_of_fields fields (if zero then zeroed_fields fields values else masked_fields fields names 0 values)) (der_of_fields fields values)
      (chosen-size fields zero (zeroed_fields fields values) (masked_fields fields names 0 values) values (zeroed-fields fields values) (masked-fields fields names 0 values))
  masked-size (SequenceOf empty term) names values = item-size 0x30 (flat_map (der term) (map (masked term names) values)) (flat_map (der term) values) (all-size (der term) (masked term names) (masked-size term names) values)
  masked-size (Tagged index term) names value = item-size (0xA0 + index) (der term (masked term names value)) (der term value) (masked-size term names value)
  masked-size (Application number term) names value = item-size (0x60 + number) (der term (masked term names value)) (der term value) (masked-size term names value)
  masked-size other names value = refl

  masked-fields : (fields : Fields) (names : Names) (index : ℕ) (values : Values fields) → length (der_of_fields fields (masked_fields fields names index values)) ≡ length (der_of_fields fields values)
  masked-fields End names index values = refl
  masked-fields (Required term fields) names index values =
      both-size (der term (masked term (field_at names index).inside values.0)) (der term values.0) (der_of_fields fields (masked_fields fields names (index + 1) values.1)) (der_of_fields fields values.1)
      (masked-size term (field_at names index).inside values.0) (masked-fields fields names (index + 1) values.1)
  masked-fields (Optional term fields) names index values =
      both-size (octets_of_option (der term) (option_map (masked term (field_at names index).inside) values.0)) (octets_of_option (der term) values.0) (der_of_fields fields (masked_fields fields names (index + 1) values.1)) (der_of_fields fields values.1)
      (option-size (der term) (masked term (field_at names index).inside) (masked-size term (field_at names index).inside) values.0) (masked-fields fields names (index + 1) values.1)

abbrev size_of : (kind : Kind) × Value (kind_term kind) → ℕ
size_of (kind, value) = length (der (kind_term kind) value)

pub same-size : (m n : Message) → masked_in m ≡ masked_in n → length (message_der m) ≡ length (message_der n)
same-size m n e = sym (masked-size (kind_term (kind_of m)) (names_of_kind (kind_of m)) (message_value m)) ∙ ap size_of e ∙ masked-size (kind_term (kind_of n)) (names_of_kind (kind_of n)) (message_value n)
