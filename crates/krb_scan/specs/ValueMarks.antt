-- The marks of the DER of a value, from the value alone.
use Rattle.std.specs.Prelude.{ℕ, ℤ, pos, ◌+◌, List, [], ◌∷◌, ◌++◌, length, Option, Some, None}
use Rattle.std.specs.List.{flat_map}
use Rattle.krb_der.specs.Octets.{integer_octets, length_octets}
use Rattle.krb_msg.specs.Term.{Term, Fields, Integer, Text, Octets, Time, Bits, Sequence, SequenceOf, Tagged, Application, End, Required, Optional, Value, Values, der, der_of_fields, octets_of_option}
use Rattle.krb_msg.specs.Views.{kind_of, kind_term_in, message_value_in}
use Rattle.krb_der.specs.declared.profile.Profile.{Profile}
use Rattle.krb_msg.specs.declared.message.Message.{Message}
use Rattle.krb_scan.specs.Scan.{Mark, mark_of}

-- the place of the first contents octet of an item at a place, if there are n: after its identifier and length octets
abbrev pub start_of : ℕ → ℕ → ℕ
start_of place n = place + (1 + length (length_octets n))

-- the mark of an item at a place, by its term, the number of its contents octets and its value if it is an INTEGER, and then those of the items in it, by the place where they begin
abbrev pub item_marks : Term → ℕ → ℕ → ℤ → (ℕ → List Mark) → List Mark
item_marks term place count number inner = mark_of term (start_of place count) count number ∷ inner (start_of place count)

abbrev pub leaf_marks : Term → ℕ → ℕ → ℤ → List Mark
leaf_marks term place count number = item_marks term place count number (λ start. [])

-- the marks of values one after another, by the octets and the marks of each
abbrev pub list_marks : {A : Type 0} → (A → List ℕ) → (ℕ → A → List Mark) → ℕ → List A → List Mark
list_marks octets_of marks_at place [] = []
list_marks octets_of marks_at place (value ∷ values) = marks_at place value ++ list_marks octets_of marks_at (place + length (octets_of value)) values

-- those of an optional value, which has none if it is absent
abbrev pub option_marks : {A : Type 0} → (ℕ → A → List Mark) → ℕ → Option A → List Mark
option_marks marks_at place None = []
option_marks marks_at place (Some value) = marks_at place value

abbrev mutual
  -- the marks of a value whose DER begins at a place
  pub value_marks : (term : Term) → ℕ → Value term → List Mark
  value_marks (Integer low high) place value = leaf_marks (Integer low high) place (length (integer_octets value)) value
  value_marks (Text greatest) place octets = leaf_marks (Text greatest) place (length octets) (pos 0)
  value_marks Octets place octets = leaf_marks Octets place (length octets) (pos 0)
  value_marks Time place octets = leaf_marks Time place (length octets) (pos 0)
  value_marks (Bits least) place bits = leaf_marks (Bits least) place (length (bits.0 ∷ bits.1)) (pos 0)
  value_marks (Sequence fields) place values = item_marks (Sequence fields) place (length (der_of_fields fields values)) (pos 0) (λ start. fields_marks fields start values)
  value_marks (SequenceOf empty term) place values =
      item_marks (SequenceOf empty term) place (length (flat_map (der term) values)) (pos 0) (λ start. list_marks (der term) (value_marks term) start values)
  value_marks (Tagged index term) place value = item_marks (Tagged index term) place (length (der term value)) (pos 0) (λ start. value_marks term start value)
  value_marks (Application number term) place value = item_marks (Application number term) place (length (der term value)) (pos 0) (λ start. value_marks term start value)

  -- those of the fields of a SEQUENCE, an absent one having none
  pub fields_marks : (fields : Fields) → ℕ → Values fields → List Mark
  fields_marks End place values = []
  fields_marks (Required term fields) place values = value_marks term place values.0 ++ fields_marks fields (place + length (der term values.0)) values.1
  fields_marks (Optional term fields) place values =
      option_marks (value_marks term) place values.0 ++ fields_marks fields (place + length (octets_of_option (der term) values.0)) values.1

-- the marks of a message of a profile
abbrev pub message_marks : Profile → Message → List Mark
message_marks profile m = value_marks (kind_term_in profile (kind_of m)) 0 (message_value_in profile m)
