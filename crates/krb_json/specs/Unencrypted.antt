-- What is not encrypted: an EncryptedData of encryption type 0 has its plain text for a cipher (RFC 1510, 6.3.1, and RFC 4120, 5.2.9).
use Rattle.std.specs.Prelude.{ℕ, ℤ, pos, negsuc, ◌+◌, ◌==◌, ◌&&◌, if◌then◌else◌, Bool, true, false, List, [], ◌∷◌, Option, Some, None}
use Rattle.std.specs.Option.{option_and_then}
use Rattle.krb_msg.specs.Term.{Term, Fields, Integer, Text, Octets, Time, Bits, Sequence, SequenceOf, Tagged, Application, End, Required, Optional, Value, Values}
use Rattle.krb_msg.specs.Views.{kind_of, kind_name, kind_term, message_value}
use Rattle.krb_msg.specs.declared.message.Message.{Message}
use Rattle.krb_judge.specs.FieldNames.{field_at, names_of_kind}
use Rattle.krb_judge.specs.Paths.{field_path, element_path}
use Rattle.krb_judge.specs.declared.locating.names.Names.{Names}
use Rattle.krb_judge.specs.declared.locating.names.Names.TheVariants as names

abbrev pub is_encrypted_data : Names → Bool
is_encrypted_data names.EncryptedData = true
is_encrypted_data other = false

abbrev pub is_zero_number : ℤ → Bool
is_zero_number (pos number) = number == 0
is_zero_number (negsuc number) = false

-- whether a value is the number 0
abbrev pub is_zero : (term : Term) → Value term → Bool
is_zero (Integer low high) value = is_zero_number value
is_zero (Text greatest) value = false
is_zero Octets value = false
is_zero Time value = false
is_zero (Bits least) value = false
is_zero (Sequence fields) value = false
is_zero (SequenceOf empty term) value = false
is_zero (Tagged index term) value = is_zero term value
is_zero (Application number term) value = is_zero term value

-- whether the first of fields is the number 0; that of an EncryptedData is its encryption type
abbrev pub begin_with_zero : (fields : Fields) → Values fields → Bool
begin_with_zero End values = false
begin_with_zero (Required term fields) values = is_zero term values.0
begin_with_zero (Optional term fields) values = false

abbrev pub first_of : {A : Type 0} → Option A → Option A → Option A
first_of None other = other
first_of (Some value) other = Some value

-- the first of items, by their indices
abbrev pub unencrypted_items : {A : Type 0} → ((path : List ℕ) → A → Option (List ℕ)) → (path : List ℕ) → (index : ℕ) → List A → Option (List ℕ)
unencrypted_items in_item path index [] = None
unencrypted_items in_item path index (value ∷ values) = first_of (in_item (element_path path index) value) (unencrypted_items in_item path (index + 1) values)

abbrev mutual
  -- the path of the first EncryptedData of encryption type 0 in a value that has a path
  pub unencrypted : (term : Term) → Names → (path : List ℕ) → Value term → Option (List ℕ)
  unencrypted (Integer low high) names path value = None
  unencrypted (Text greatest) names path value = None
  unencrypted Octets names path value = None
  unencrypted Time names path value = None
  unencrypted (Bits least) names path value = None
  unencrypted (Sequence fields) names path values =
      if is_encrypted_data names && begin_with_zero fields values then Some path else unencrypted_fields fields names path 0 values
  unencrypted (SequenceOf empty term) names path values = unencrypted_items (unencrypted term names) path 0 values
  unencrypted (Tagged index term) names path value = unencrypted term names path value
  unencrypted (Application number term) names path value = unencrypted term names path value

  -- and in those of fields, of which the first is the one at an index
  pub unencrypted_fields : (fields : Fields) → Names → (path : List ℕ) → (index : ℕ) → Values fields → Option (List ℕ)
  unencrypted_fields End names path index values = None
  unencrypted_fields (Required term fields) names path index values =
      first_of (unencrypted term (field_at names index).inside (field_path path (field_at names index).name) values.0)
      (unencrypted_fields fields names path (index + 1) values.1)
  unencrypted_fields (Optional term fields) names path index values =
      first_of (option_and_then (unencrypted term (field_at names index).inside (field_path path (field_at names index).name)) values.0)
      (unencrypted_fields fields names path (index + 1) values.1)

-- and in a message
abbrev pub unencrypted_in : Message → Option (List ℕ)
unencrypted_in m = unencrypted (kind_term (kind_of m)) (names_of_kind (kind_of m)) (kind_name (kind_of m)) (message_value m)
