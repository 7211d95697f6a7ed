-- The JSON of a value of the grammar, in the manner of ITU-T X.697 (JSON Encoding Rules of ASN.1), with the names of RFC 4120, appendix A.
-- A SEQUENCE is an object; what is absent has no member. A SEQUENCE OF is an array. A tag shows nothing.
use Rattle.std.specs.Prelude.{ℕ, ◌+◌, List, map, Option, Some, None, codes, decimal}
use Rattle.std.specs.Option.{option_map}
use Rattle.std.specs.Fmt.{signed_decimal}
use Rattle.hex.specs.Hex.{encode_lower}
use Rattle.json.specs.Json.{Json, number, string, array, object, Members, no_members, member}
use Rattle.json.specs.Value.{items_of}
use Rattle.krb_msg.specs.Term.{Term, Fields, Integer, Text, Octets, Time, Bits, Sequence, SequenceOf, Tagged, Application, End, Required, Optional, Value, Values}
use Rattle.krb_msg.specs.Views.{kind_of, kind_name, kind_term, message_value}
use Rattle.krb_msg.specs.declared.message.Message.{Message}
use Rattle.krb_judge.specs.FieldNames.{field_at, names_of_kind}
use Rattle.krb_judge.specs.declared.locating.names.Names.{Names}
use Rattle.krb_json.specs.Spelling.{shown, bit_count}

-- a BIT STRING: its octets, and the number of its bits
abbrev pub bits_json : ℕ × List ℕ → Json
bits_json bits = object (member (codes "value") (string (encode_lower bits.1)) (member (codes "length") (number (decimal (bit_count bits))) no_members))

-- a member, if there is a value
abbrev pub member_if : List ℕ → Option Json → Members → Members
member_if name None members = members
member_if name (Some value) members = member name value members

abbrev mutual
  pub json : (term : Term) → Names → Value term → Json
  json (Integer low high) names value = number (signed_decimal value)
  json (Text greatest) names octets = string (shown octets)
  json Octets names octets = string (encode_lower octets)
  json Time names octets = string octets
  json (Bits least) names bits = bits_json bits
  json (Sequence fields) names values = object (members_of fields names 0 values)
  json (SequenceOf empty term) names values = array (items_of (map (json term names) values))
  json (Tagged index term) names value = json term names value
  json (Application tag term) names value = json term names value

  -- the members of fields, of which the first is the one at an index
  pub members_of : (fields : Fields) → Names → (index : ℕ) → Values fields → Members
  members_of End names index values = no_members
  members_of (Required term fields) names index values =
      member (field_at names index).name (json term (field_at names index).inside values.0) (members_of fields names (index + 1) values.1)
  members_of (Optional term fields) names index values =
      member_if (field_at names index).name (option_map (json term (field_at names index).inside) values.0) (members_of fields names (index + 1) values.1)

-- a message is an object of one member, whose name is that of the message
abbrev pub message_json : Message → Json
message_json m = object (member (kind_name (kind_of m)) (json (kind_term (kind_of m)) (names_of_kind (kind_of m)) (message_value m)) no_members)
