-- JSON values that differ in nothing but the case of hexadecimal digits, by the term that they are to spell. All such values are alike here, and a few more:
-- texts that show the same octets, characters that are no digits, members of no field, and values of other types where a term has an object, an array or a string.
use Rattle.std.specs.Prelude.{ℕ, ◌+◌, ◌≡◌, ⊤, List, map, Option, Some, None, codes}
use Rattle.hex.specs.Hex.{hex_digit_value}
use Rattle.json.specs.Json.{Json, object, Items, no_items, item, Members, no_members, member}
use Rattle.json.specs.Find.{get_member, as_str, as_array, as_object}
use Rattle.json.specs.Strict.{keys}
use Rattle.krb_der.specs.declared.profile.Profile.{Profile}
use Rattle.krb_msg.specs.Term.{Term, Fields, Integer, Text, Octets, Time, Bits, Sequence, SequenceOf, Tagged, Application, End, Required, Optional}
use Rattle.krb_msg.specs.Views.{kind_name, kind_term_in}
use Rattle.krb_msg.specs.declared.message.Kind.{Kind}
use Rattle.krb_judge.specs.FieldNames.{field_at, names_of_kind}
use Rattle.krb_judge.specs.declared.locating.names.Names.{Names}
use Rattle.krb_json.specs.Spelling.{unshown}

-- both absent, or both there and related
abbrev pub AreAlike : {A : Type 0} → (A → A → Type 0) → Option A → Option A → Type 0
AreAlike related None None = ⊤
AreAlike related None (Some b) = ⊥
AreAlike related (Some a) None = ⊥
AreAlike related (Some a) (Some b) = related a b

-- strings that mean the same
abbrev pub MeanTheSame : {A : Type 0} → (List ℕ → A) → (j k : Json) → Type 0
MeanTheSame meaning j k = AreAlike (λ text other. meaning text ≡ meaning other) (as_str j) (as_str k)

-- objects whose members have the same names, one by one
abbrev pub HaveMembers : (Members → Members → Type 0) → (j k : Json) → Type 0
HaveMembers related j k = AreAlike (λ given others. (keys given ≡ keys others) × related given others) (as_object j) (as_object k)

-- the members of a name
abbrev pub AreAlikeAt : (name : List ℕ) → (Json → Json → Type 0) → (given others : Members) → Type 0
AreAlikeAt name related given others = AreAlike related (get_member name given) (get_member name others)

-- items, one by one
abbrev pub ItemsAreAlike : (Json → Json → Type 0) → (items others : Items) → Type 0
ItemsAreAlike related no_items no_items = ⊤
ItemsAreAlike related no_items (item k others) = ⊥
ItemsAreAlike related (item j items) no_items = ⊥
ItemsAreAlike related (item j items) (item k others) = related j k × ItemsAreAlike related items others

-- the members of a BIT STRING
abbrev pub BitsInOtherCase : (given others : Members) → Type 0
BitsInOtherCase given others =
    AreAlikeAt (codes "value") (MeanTheSame (map hex_digit_value)) given others × (get_member (codes "length") given ≡ get_member (codes "length") others)

abbrev mutual
  pub InOtherCase : Term → Names → (j k : Json) → Type 0
  InOtherCase (Integer low high) names j k = j ≡ k
  InOtherCase (Text greatest) names j k = MeanTheSame unshown j k
  InOtherCase Octets names j k = MeanTheSame (map hex_digit_value) j k
  InOtherCase Time names j k = j ≡ k
  InOtherCase (Bits least) names j k = HaveMembers BitsInOtherCase j k
  InOtherCase (Sequence fields) names j k = HaveMembers (FieldsInOtherCase fields names 0) j k
  InOtherCase (SequenceOf empty term) names j k = AreAlike (ItemsAreAlike (InOtherCase term names)) (as_array j) (as_array k)
  InOtherCase (Tagged index term) names j k = InOtherCase term names j k
  InOtherCase (Application number term) names j k = InOtherCase term names j k

  -- the members of fields, of which the first is the one at an index
  pub FieldsInOtherCase : Fields → Names → (index : ℕ) → (given others : Members) → Type 0
  FieldsInOtherCase End names index given others = ⊤
  FieldsInOtherCase (Required term fields) names index given others =
      AreAlikeAt (field_at names index).name (InOtherCase term (field_at names index).inside) given others × FieldsInOtherCase fields names (index + 1) given others
  FieldsInOtherCase (Optional term fields) names index given others =
      AreAlikeAt (field_at names index).name (InOtherCase term (field_at names index).inside) given others × FieldsInOtherCase fields names (index + 1) given others

-- objects whose one member has the name of a kind of messages, and such values
abbrev pub MessageInOtherCase : Profile → (j k : Json) → Type 0
MessageInOtherCase profile j k =
    (kind : Kind) × (value other : Json) ×
    (j ≡ object (member (kind_name kind) value no_members)) ×
    (k ≡ object (member (kind_name kind) other no_members)) ×
    InOtherCase (kind_term_in profile kind) (names_of_kind kind) value other
