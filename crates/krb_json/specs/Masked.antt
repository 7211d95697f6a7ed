-- A value without what is not encrypted: the cipher of each EncryptedData of encryption type 0 is as many zeros.
use Rattle.std.specs.Prelude.{ℕ, ◌+◌, ◌&&◌, if◌then◌else◌, length, map, option_map, replicate}
use Rattle.krb_msg.specs.Term.{Term, Fields, Integer, Text, Octets, Time, Bits, Sequence, SequenceOf, Tagged, Application, End, Required, Optional, Value, Values}
use Rattle.krb_msg.specs.Views.{kind_of, kind_term, message_value}
use Rattle.krb_msg.specs.declared.message.Kind.{Kind}
use Rattle.krb_msg.specs.declared.message.Message.{Message}
use Rattle.krb_judge.specs.FieldNames.{field_at, names_of_kind}
use Rattle.krb_judge.specs.declared.locating.names.Names.{Names}
use Rattle.krb_json.specs.Unencrypted.{begin_with_zero, is_encrypted_data}

-- an OCTET STRING as zeros
abbrev pub zeroed : (term : Term) → Value term → Value term
zeroed (Integer low high) value = value
zeroed (Text greatest) value = value
zeroed Octets octets = replicate (length octets) 0
zeroed Time value = value
zeroed (Bits least) value = value
zeroed (Sequence fields) value = value
zeroed (SequenceOf empty term) value = value
zeroed (Tagged index term) value = zeroed term value
zeroed (Application number term) value = zeroed term value

-- and those of fields; of an EncryptedData that is its cipher
abbrev pub zeroed_fields : (fields : Fields) → Values fields → Values fields
zeroed_fields End values = values
zeroed_fields (Required term fields) values = (zeroed term values.0, zeroed_fields fields values.1)
zeroed_fields (Optional term fields) values = (option_map (zeroed term) values.0, zeroed_fields fields values.1)

abbrev mutual
  pub masked : (term : Term) → Names → Value term → Value term
  masked (Integer low high) names value = value
  masked (Text greatest) names value = value
  masked Octets names value = value
  masked Time names value = value
  masked (Bits least) names value = value
  masked (Sequence fields) names values =
      if is_encrypted_data names && begin_with_zero fields values then zeroed_fields fields values else masked_fields fields names 0 values
  masked (SequenceOf empty term) names values = map (masked term names) values
  masked (Tagged index term) names value = masked term names value
  masked (Application number term) names value = masked term names value

  -- fields, of which the first is the one at an index
  pub masked_fields : (fields : Fields) → Names → (index : ℕ) → Values fields → Values fields
  masked_fields End names index values = values
  masked_fields (Required term fields) names index values = (masked term (field_at names index).inside values.0, masked_fields fields names (index + 1) values.1)
  masked_fields (Optional term fields) names index values = (option_map (masked term (field_at names index).inside) values.0, masked_fields fields names (index + 1) values.1)

-- a message, as its kind and its value
abbrev pub masked_in : Message → (kind : Kind) × Value (kind_term kind)
masked_in m = (kind_of m, masked (kind_term (kind_of m)) (names_of_kind (kind_of m)) (message_value m))
