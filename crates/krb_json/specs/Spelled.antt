-- The value of the grammar that a JSON value spells, or its first fault. Ranges, greatest octets, least numbers of bits and empty lists are those of the term.
use Rattle.std.specs.Prelude.{ℕ, ℤ, pos, negsuc, ◌+◌, ◌-◌, ◌*◌, ◌%◌, ◌^◌, ◌==◌, ◌&&◌, ◌||◌, not, nat_lt, int_le, Bool, true, false, List, [], ◌∷◌, length, Option, Some, None, Result, Ok, Err, codes}
use Rattle.std.specs.List.{list_any}
use Rattle.std.specs.Str.{bytes_eq}
use Rattle.std.specs.Str.Parse.{signed_digits_value}
use Rattle.hex.specs.Hex.{decode_of}
use Rattle.hex.specs.declared.error.FromHexError.{FromHexError}
use Rattle.json.specs.Json.{Json, Items, no_items, item, Members, no_members, member}
use Rattle.json.specs.Find.{get_member, as_str, as_number, as_array, as_object}
use Rattle.krb_der.specs.Octets.{last_or_zero}
use Rattle.krb_msg.specs.Term.{Term, Fields, Integer, Text, Octets, Time, Bits, Sequence, SequenceOf, Tagged, Application, End, Required, Optional, Value, Values}
use Rattle.krb_judge.specs.FieldNames.{fields_of, field_at}
use Rattle.krb_judge.specs.Paths.{field_path, element_path}
use Rattle.krb_judge.specs.declared.locating.names.Names.{Names}
use Rattle.krb_json.specs.declared.wrong.Wrong.{Wrong}
use Rattle.krb_json.specs.declared.wrong.Wrong.TheVariants.{NotAnObject, NoSuchField, Twice, Missing, NotAnArray, Empty, NotANumber, NotAnInteger, Outside, NotAString, NotHexadecimal, NotATime, Backslash, HighOctet, BitPastLength, FewerBits}
use Rattle.krb_json.specs.Spelling.{shown, unshown, is_time_from, is_integer}
use Rattle.krb_json.specs.Faults.{Fault, fault, ◌>>=◌}

-- what there is, or else a fault
abbrev pub or_fault : {A : Type 0} → List ℕ → Wrong → Option A → Result A Fault
or_fault path wrong None = fault path wrong
or_fault path wrong (Some value) = Ok value

abbrev pub unless : {A : Type 0} → Bool → List ℕ → Wrong → Result A Fault → Result A Fault
unless true path wrong other = fault path wrong
unless false path wrong other = other

-- ---- scalars
abbrev pub number_spelled : (low high : ℤ) → (path : List ℕ) → List ℕ → Result ℤ Fault
number_spelled low high path text =
    unless (not (is_integer text)) path NotAnInteger
    (unless (not (int_le low (signed_digits_value 10 text) && int_le (signed_digits_value 10 text) high)) path (Outside low high)
    (Ok (signed_digits_value 10 text)))

abbrev pub integer_spelled : (low high : ℤ) → (path : List ℕ) → Json → Result ℤ Fault
integer_spelled low high path j = or_fault path NotANumber (as_number j) >>= number_spelled low high path

abbrev pub text_spelled : (greatest : ℕ) → (path : List ℕ) → Json → Result (List ℕ) Fault
text_spelled greatest path j =
    or_fault path NotAString (as_str j) >>= λ text.
    or_fault path Backslash (unshown text) >>= λ octets.
    unless (list_any (λ octet. nat_lt greatest octet) octets) path HighOctet (Ok octets)

abbrev pub decoded : (path : List ℕ) → Result (List ℕ) FromHexError → Result (List ℕ) Fault
decoded path (Ok octets) = Ok octets
decoded path (Err error) = fault path NotHexadecimal

abbrev pub octets_spelled : (path : List ℕ) → Json → Result (List ℕ) Fault
octets_spelled path j = or_fault path NotAString (as_str j) >>= λ text. decoded path (decode_of text)

abbrev pub time_spelled : (path : List ℕ) → Json → Result (List ℕ) Fault
time_spelled path j = or_fault path NotAString (as_str j) >>= λ text. unless (not (is_time_from 14 text)) path NotATime (Ok text)

-- ---- the members of an object
abbrev pub is_among : List ℕ → List (List ℕ) → Bool
is_among name names = list_any (λ other. bytes_eq other name) names

-- the first member of a name that no field has, or that came before
abbrev pub checked_members : (is_field : List ℕ → Bool) → (path : List ℕ) → (before : List (List ℕ)) → Members → Result (Unit {0}) Fault
checked_members is_field path before no_members = Ok tt
checked_members is_field path before (member name j members) =
    unless (not (is_field name)) (field_path path (shown name)) NoSuchField
    (unless (is_among name before) (field_path path (shown name)) Twice
    (checked_members is_field path (name ∷ before) members))

-- the members of an object of fields
abbrev pub members_spelled : (is_field : List ℕ → Bool) → (path : List ℕ) → Json → Result Members Fault
members_spelled is_field path j =
    or_fault path NotAnObject (as_object j) >>= λ members.
    checked_members is_field path [] members >>= λ _.
    Ok members

abbrev pub is_field : Names → List ℕ → Bool
is_field names name = list_any (λ field. bytes_eq field.name name) (fields_of names)

-- a field that has to be there, by the path that it has
abbrev pub required : {A : Type 0} → (List ℕ → Json → Result A Fault) → (path : List ℕ) → (name : List ℕ) → Members → Result A Fault
required read path name members = or_fault (field_path path name) Missing (get_member name members) >>= read (field_path path name)

abbrev pub if_there : {A : Type 0} → (Json → Result A Fault) → Option Json → Result (Option A) Fault
if_there read None = Ok None
if_there read (Some j) = read j >>= λ value. Ok (Some value)

abbrev pub optional : {A : Type 0} → (List ℕ → Json → Result A Fault) → (path : List ℕ) → (name : List ℕ) → Members → Result (Option A) Fault
optional read path name members = if_there (read (field_path path name)) (get_member name members)

-- ---- a BIT STRING
abbrev pub is_bits_field : List ℕ → Bool
is_bits_field name = bytes_eq (codes "value") name || bytes_eq (codes "length") name

-- octets of which just a number of bits are used
abbrev pub bits_from : (least : ℕ) → (path : List ℕ) → List ℕ → ℕ → Result (ℕ × List ℕ) Fault
bits_from least path octets count =
    unless (not (last_or_zero octets % 2 ^ (8 * length octets - count) == 0)) (field_path path (codes "value")) BitPastLength
    (unless (nat_lt count least) path (FewerBits least)
    (Ok (8 * length octets - count, octets)))

abbrev pub count_of : ℤ → ℕ
count_of (pos count) = count
count_of (negsuc count) = 0

abbrev pub bits_spelled : (least : ℕ) → (path : List ℕ) → Json → Result (ℕ × List ℕ) Fault
bits_spelled least path j =
    members_spelled is_bits_field path j >>= λ members.
    required octets_spelled path (codes "value") members >>= λ octets.
    required (integer_spelled (pos (8 * length octets - 7)) (pos (8 * length octets))) path (codes "length") members >>= λ count.
    bits_from least path octets (count_of count)

-- ---- lists
abbrev pub items_spelled : {A : Type 0} → (List ℕ → Json → Result A Fault) → (path : List ℕ) → (index : ℕ) → Items → Result (List A) Fault
items_spelled read path index no_items = Ok []
items_spelled read path index (item j items) =
    read (element_path path index) j >>= λ first.
    items_spelled read path (index + 1) items >>= λ others.
    Ok (first ∷ others)

abbrev pub is_empty : Items → Bool
is_empty no_items = true
is_empty (item j items) = false

abbrev mutual
  pub spelled : (term : Term) → Names → (path : List ℕ) → Json → Result (Value term) Fault
  spelled (Integer low high) names path j = integer_spelled low high path j
  spelled (Text greatest) names path j = text_spelled greatest path j
  spelled Octets names path j = octets_spelled path j
  spelled Time names path j = time_spelled path j
  spelled (Bits least) names path j = bits_spelled least path j
  spelled (Sequence fields) names path j = members_spelled (is_field names) path j >>= fields_spelled fields names path 0
  spelled (SequenceOf empty term) names path j =
      or_fault path NotAnArray (as_array j) >>= λ items.
      unless (not empty && is_empty items) path Empty
      (items_spelled (spelled term names) path 0 items)
  spelled (Tagged index term) names path j = spelled term names path j
  spelled (Application number term) names path j = spelled term names path j

  -- the values of fields, of which the first is the one at an index
  pub fields_spelled : (fields : Fields) → Names → (path : List ℕ) → (index : ℕ) → Members → Result (Values fields) Fault
  fields_spelled End names path index given = Ok tt
  fields_spelled (Required term fields) names path index given =
      required (spelled term (field_at names index).inside) path (field_at names index).name given >>= λ value.
      fields_spelled fields names path (index + 1) given >>= λ others.
      Ok (value, others)
  fields_spelled (Optional term fields) names path index given =
      optional (spelled term (field_at names index).inside) path (field_at names index).name given >>= λ value.
      fields_spelled fields names path (index + 1) given >>= λ others.
      Ok (value, others)
