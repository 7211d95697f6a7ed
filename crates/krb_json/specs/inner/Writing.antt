-- What is appended for octets that are contents of a value, items, or fields: the tokens of its JSON.
use Rattle.std.specs.Prelude.{ℕ, ◌≡◌, List, ◌∷◌, ◌++◌, map}
use Rattle.std.specs.List.{AllByRecursion, flat_map}
use Rattle.json.specs.Token.{Token}
use Rattle.json.specs.Tree.{json_tokens, items_tokens, members_tokens}
use Rattle.json.specs.Value.{items_of}
use Rattle.krb_msg.specs.Term.{Term, Fields, Value, Values, Fits, der}
use Rattle.krb_msg.specs.Viewed.{AreContents, AreFields}
use Rattle.krb_msg.specs.Views.{kind_of, message_der, IsInProfile}
use Rattle.krb_msg.specs.declared.message.Kind.{Kind}
use Rattle.krb_msg.specs.declared.message.Message.{Message}
use Rattle.krb_der.specs.declared.profile.Profile.TheVariants.{Lenient}
use Rattle.krb_msg.specs.declared.grammar.Slot.{Slot}
use Rattle.krb_msg.specs.declared.grammar.Slot.TheVariants as slot
use Rattle.krb_judge.specs.declared.locating.names.Names.{Names}
use Rattle.krb_json.specs.Objects.{json, members_of, message_json, bits_json}

-- for the contents octets of a value
abbrev pub Puts : (term : Term) → Names → (contents : List ℕ) → (old new : List Token) → Type 0
Puts term names contents old new = (value : Value term) → AreContents term contents value → new ≡ old ++ json_tokens (json term names value)

-- for the octets of values one after another, and the end of their array
abbrev pub PutsItems : (term : Term) → Names → (octets : List ℕ) → (old new : List Token) → Type 0
PutsItems term names octets old new =
    (values : List (Value term)) → AllByRecursion (Fits term) values → octets ≡ flat_map (der term) values → new ≡ old ++ items_tokens (items_of (map (json term names) values))

-- for the octets of fields, of which the first is the one at an index, and the end of their object
abbrev pub PutsFields : (fields : Fields) → Names → (index : ℕ) → (octets : List ℕ) → (old new : List Token) → Type 0
PutsFields fields names index octets old new = (values : Values fields) → AreFields fields octets values → new ≡ old ++ members_tokens (members_of fields names index values)

-- for the contents octets of flags
abbrev pub PutsBits : (contents : List ℕ) → (old new : List Token) → Type 0
PutsBits contents old new = (unused : ℕ) (octets : List ℕ) → contents ≡ unused ∷ octets → new ≡ old ++ json_tokens (bits_json (unused, octets))

-- for the octets of a message of a kind
abbrev pub PutsMessage : Kind → (octets : List ℕ) → (old new : List Token) → Type 0
PutsMessage kind octets old new = (m : Message) → IsInProfile Lenient m → kind_of m ≡ kind → message_der m ≡ octets → new ≡ old ++ json_tokens (message_json m)

-- the node of a field
abbrev pub slot_node : Slot → ℕ
slot_node (slot.Required node) = node
slot_node (slot.Optional node) = node
