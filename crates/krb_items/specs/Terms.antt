-- The types of items are those of the grammar (RFC 4120, appendix A): the same tags, the same fields in the same order and under the same names, and what is shown of a value is of its type.
use Rattle.std.specs.Prelude.{ℕ, ◌≡◌, ◌+◌, ◌==◌, ◌&&◌, not, Bool, true, false, List, [], ◌∷◌, Option, Some, None}
use Rattle.std.specs.Str.{bytes_eq}
use Rattle.krb_msg.specs.Term.{Term, Fields, Integer, Text, Octets, Time, Bits, Sequence, SequenceOf, Tagged, Application, End, Required, Optional}
use Rattle.krb_msg.specs.Grammar.{ap_req, encrypted_data, method_data}
use Rattle.krb_padata.specs.Grammar.{etype_info, etype_info2, pa_for_user, pa_fx_fast_reply, pa_fx_fast_request, pa_pac_options}
use Rattle.krb_judge.specs.FieldNames.{field_at}
use Rattle.krb_judge.specs.declared.locating.names.Names.{Names}
use Rattle.krb_items.specs.Shapes.{Field, ItemType, fields_of, item_of}
use Rattle.krb_items.specs.declared.shape.Held.{Held}
use Rattle.krb_items.specs.declared.shape.Held.TheVariants as helds
use Rattle.krb_items.specs.declared.shape.Leaf.{Leaf}
use Rattle.krb_items.specs.declared.shape.Leaf.TheVariants as leaves
use Rattle.krb_items.specs.declared.shape.Shape.{Shape}
use Rattle.krb_items.specs.declared.shape.Shape.TheVariants as shapes
use Rattle.krb_items.specs.declared.tag.Tag.{Tag}
use Rattle.krb_items.specs.declared.tag.Tag.TheVariants as tags

-- whether items of a term begin with a tag
abbrev pub is_tag : Tag → Term → Bool
is_tag tags.Integer (Integer low high) = true
is_tag tags.GeneralString (Text greatest) = true
is_tag tags.OctetString Octets = true
is_tag tags.GeneralizedTime Time = true
is_tag tags.BitString (Bits least) = true
is_tag tags.Sequence (Sequence fields) = true
is_tag tags.SequenceOf (SequenceOf empty term) = true
is_tag (tags.Context index) (Tagged i term) = index == i
is_tag (tags.Application number) (Application n term) = number == n
is_tag tag term = false

-- whether values of a term can be shown so
abbrev pub is_leaf : Leaf → Term → Bool
is_leaf leaves.Number (Integer low high) = true
is_leaf (leaves.Numbered registry) (Integer low high) = true
is_leaf leaves.ErrorCode (Integer low high) = true
is_leaf leaves.Text (Text greatest) = true
is_leaf leaves.Text Octets = true
is_leaf leaves.Octets Octets = true
is_leaf leaves.Hidden Octets = true
is_leaf (leaves.Holder holder) Octets = true
is_leaf leaves.Time Time = true
is_leaf (leaves.Flags registry) (Bits least) = true
is_leaf leaf term = false

-- whether a field has the name that the path of a field at fault has; of pre-authentication data, which have no paths, no names are asked for
abbrev pub is_named : Option Names → ℕ → List ℕ → Bool
is_named None index name = true
is_named (Some names) index name = bytes_eq name (field_at names index).name

abbrev pub names_in : Option Names → ℕ → Option Names
names_in None index = None
names_in (Some names) index = Some (field_at names index).inside

abbrev mutual
  -- whether items with these tags, the outermost first, in which there is that, are those of a term, and the fields in it have these names
  pub is_of : List Tag → Shape → Option Names → Term → Bool
  is_of (tag ∷ tags) shape names (Tagged index term) = is_tag tag (Tagged index term) && is_of tags shape names term
  is_of (tag ∷ tags) shape names (Application number term) = is_tag tag (Application number term) && is_of tags shape names term
  is_of (tag ∷ []) (shapes.Sequence sequence) names (Sequence fields) = is_tag tag (Sequence fields) && are_of (fields_of sequence) names 0 fields
  is_of (tag ∷ []) (shapes.List list) names (SequenceOf empty term) = is_tag tag (SequenceOf empty term) && is_of (item_of list).tags (item_of list).shape names term
  is_of (tag ∷ []) (shapes.Leaf leaf) names term = is_tag tag term && is_leaf leaf term
  is_of tags shape names term = false

  -- whether fields are those of a SEQUENCE from the one at an index on, in order
  pub are_of : List Field → Option Names → ℕ → Fields → Bool
  are_of [] names index End = true
  are_of (field ∷ fields) names index (Required term terms) = field.required && is_named names index field.name && is_of field.of.tags field.of.shape (names_in names index) term && are_of fields names (index + 1) terms
  are_of (field ∷ fields) names index (Optional term terms) = not field.required && is_named names index field.name && is_of field.of.tags field.of.shape (names_in names index) term && are_of fields names (index + 1) terms
  are_of fields names index terms = false

-- items of this type are those of the term, and their fields have the names that the path of a field at fault has
abbrev pub IsOf : ItemType → Names → Term → Type 0
IsOf of names term = is_of of.tags of.shape (Some names) term ≡ true

-- items of this type are those of the term
abbrev pub HasItemsOf : ItemType → Term → Type 0
HasItemsOf of term = is_of of.tags of.shape None term ≡ true

-- Items of what is held are those of the term by which it is judged. A PA-PAC-REQUEST has none, since it has a BOOLEAN (MS-KILE, 2.2.3).
abbrev pub IsOfHeld : Held → ItemType → Type 0
IsOfHeld helds.TgsReq of = HasItemsOf of ap_req
IsOfHeld helds.EncTimestamp of = HasItemsOf of encrypted_data
IsOfHeld helds.Salt of = Unit {0}
IsOfHeld helds.EtypeInfo of = HasItemsOf of etype_info
IsOfHeld helds.EtypeInfo2 of = HasItemsOf of etype_info2
IsOfHeld helds.PacRequest of = Unit {0}
IsOfHeld helds.ForUser of = HasItemsOf of pa_for_user
IsOfHeld helds.FastRequest of = HasItemsOf of pa_fx_fast_request
IsOfHeld helds.FastReply of = HasItemsOf of pa_fx_fast_reply
IsOfHeld helds.EncryptedChallenge of = HasItemsOf of encrypted_data
IsOfHeld helds.PacOptions of = HasItemsOf of pa_pac_options
IsOfHeld helds.MethodData of = HasItemsOf of method_data
IsOfHeld helds.ApReq of = HasItemsOf of ap_req
