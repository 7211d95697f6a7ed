-- What is printed in the form Json, as values of JSON (RFC 8259): the object of a record, and the value of a field.
use Rattle.std.specs.Prelude.{ℕ, ℤ, pos, ◌-◌, ◌*◌, List, [], ◌∷◌, ◌++◌, length, map, Option, Some, None, codes, decimal}
use Rattle.std.specs.Fmt.{signed_decimal}
use Rattle.std.specs.List.{flat_map}
use Rattle.std.specs.Net.Text.{ip_text}
use Rattle.json.specs.Json.{Json, null, boolean, number, string, array, object, Members, no_members, member}
use Rattle.json.specs.Value.{items_of}
use Rattle.krb_source.specs.declared.endpoint.Endpoint.{Endpoint}
use Rattle.krb_der.specs.Reasons.{reason_number, reason_name}
use Rattle.krb_der.specs.declared.verdict.Refusal.{Refusal}
use Rattle.krb_registry.specs.Rows.{name_of}
use Rattle.krb_registry.specs.declared.registry.Registry.{Registry}
use Rattle.krb_registry.specs.declared.registry.Registry.TheVariants as registries
use Rattle.krb_record.specs.Flows.{transport_name}
use Rattle.krb_record.specs.Forms.{four_octets, set_names, shown_octet}
use Rattle.krb_record.specs.Text.{hex, principal_text}
use Rattle.krb_record.specs.Values.{Value, Absent, NoTicket, Number, Named, Numbers, ErrorCode, Status, Reason, NoReason, String, Quoted, FileName, Word, Hex, Flags, TicketFlags, Encrypted, Principal, Address, Digest, YesNo, Offset, RefusedTicket, Flow, Layers, Span, Called, Host, Field, Part, Printed}
use Rattle.krb_source.specs.Layers.{layer_name}

-- ---- values of JSON
-- an object of members in order
abbrev pub members_of : List (List ℕ × Json) → Members
members_of [] = no_members
members_of (first ∷ others) = member first.0 first.1 (members_of others)

abbrev pub object_of : List (List ℕ × Json) → Json
object_of members = object (members_of members)

abbrev pub list_of : {A : Type 0} → (A → Json) → List A → Json
list_of json values = array (items_of (map json values))

abbrev pub if_known : {A : Type 0} → (A → Json) → Option A → Json
if_known json None = null
if_known json (Some value) = json value

abbrev pub number_of : ℤ → Json
number_of n = number (signed_decimal n)

abbrev pub count_of : ℕ → Json
count_of n = number (decimal n)

-- octets as a string: 20 to 7E but `\` as they are, each other as `\x` and two hexadecimal digits
abbrev pub octets_of : List ℕ → Json
octets_of octets = string (flat_map shown_octet octets)

-- the name of a number, or null
abbrev pub name_json : Registry → ℤ → Json
name_json registry n = if_known string (name_of registry n)

-- ---- values of fields
abbrev pub flags_json : Registry → ℕ × List ℕ → Json
flags_json registry bits =
    object_of ((codes "bits", count_of (8 * length bits.1 - bits.0))
    ∷ (codes "hex", string (hex bits.1))
    ∷ (codes "names", list_of string (set_names registry bits.1))
    ∷ [])

abbrev pub encrypted_json : ℤ → Option ℤ → ℕ → Json
encrypted_json etype kvno size =
    object_of ((codes "etype", number_of etype)
    ∷ (codes "etype_name", name_json registries.EncryptionTypes etype)
    ∷ (codes "kvno", if_known number_of kvno)
    ∷ (codes "size", count_of size)
    ∷ [])

abbrev pub principal_json : ℤ → List (List ℕ) → List ℕ → Json
principal_json name_type components realm =
    object_of ((codes "text", string (principal_text components realm))
    ∷ (codes "type", number_of name_type)
    ∷ (codes "type_name", name_json registries.NameTypes name_type)
    ∷ (codes "components", list_of octets_of components)
    ∷ (codes "realm", octets_of realm)
    ∷ [])

abbrev pub address_json : ℤ → List ℕ → Json
address_json addr_type octets =
    object_of ((codes "type", number_of addr_type)
    ∷ (codes "type_name", name_json registries.AddressTypes addr_type)
    ∷ (codes "hex", string (hex octets))
    ∷ [])

abbrev pub digest_json : ℤ → ℕ → Json
digest_json cksumtype size =
    object_of ((codes "type", number_of cksumtype)
    ∷ (codes "type_name", name_json registries.ChecksumTypes cksumtype)
    ∷ (codes "size", count_of size)
    ∷ [])

abbrev pub offset_json : ℤ → ℤ → Json
offset_json seconds microseconds = object_of ((codes "seconds", number_of seconds) ∷ (codes "microseconds", number_of microseconds) ∷ [])

abbrev pub refused_json : Refusal → Json
refused_json refusal =
    object_of ((
      codes "refused",
      object_of (
          (codes "place", count_of refusal.place)
          ∷ (codes "why", count_of (reason_number refusal.why))
          ∷ (codes "why_name", string (reason_name refusal.why))
          ∷ []),
    )
    ∷ [])

abbrev pub endpoint_json : Endpoint → Json
endpoint_json e = object_of ((codes "address", string (ip_text e.address)) ∷ (codes "port", count_of e.port) ∷ [])

-- the value of a field
unfoldable pub json_of_value : Value → Json
json_of_value Absent = null
json_of_value NoTicket = null
json_of_value (Number n) = number_of n
json_of_value (Named registry n) = number_of n
json_of_value (Numbers registry ns) = list_of number_of ns
json_of_value (ErrorCode code) = number_of code
json_of_value (Status n) = string (hex (four_octets n))
json_of_value (Reason n name) = count_of n
json_of_value NoReason = null
json_of_value (String octets) = octets_of octets
json_of_value (Quoted octets) = octets_of octets
json_of_value (FileName octets) = octets_of octets
json_of_value (Word text) = string text
json_of_value (Hex octets) = string (hex octets)
json_of_value (Flags registry bits) = flags_json registry bits
json_of_value (TicketFlags flags) = flags_json registries.TicketFlags (0, four_octets flags)
json_of_value (Encrypted etype kvno size) = encrypted_json etype kvno size
json_of_value (Principal name_type components realm) = principal_json name_type components realm
json_of_value (Address addr_type octets) = address_json addr_type octets
json_of_value (Digest cksumtype size) = digest_json cksumtype size
json_of_value (YesNo holds) = boolean holds
json_of_value (Offset seconds microseconds) = offset_json seconds microseconds
json_of_value (RefusedTicket refusal) = refused_json refusal
json_of_value (Flow transport source target) =
    object_of ((codes "over", string (transport_name transport)) ∷ (codes "source", endpoint_json source) ∷ (codes "target", endpoint_json target) ∷ [])
json_of_value (Span microseconds) = number_of microseconds
json_of_value (Called n name) = count_of n
json_of_value (Host address) = string (ip_text address)
json_of_value (Layers layers) = list_of (λ layer. string (layer_name layer)) layers

-- the names of the numbers in the value of a field, in a member of their own
unfoldable pub names_of_value : (name : List ℕ) → Value → List (List ℕ × Json)
names_of_value name (Named registry n) = (name ++ codes "_name", name_json registry n) ∷ []
names_of_value name (ErrorCode code) = (name ++ codes "_name", name_json registries.ErrorCodes code) ∷ []
names_of_value name (Status n) = (name ++ codes "_name", name_json registries.Statuses (pos n)) ∷ []
names_of_value name (Reason n reason) = (name ++ codes "_name", string reason) ∷ []
names_of_value name (Called n called) = (name ++ codes "_name", if_known string called) ∷ []
names_of_value name NoReason = (name ++ codes "_name", null) ∷ []
names_of_value name (Numbers registry ns) = (name ++ codes "_names", list_of (name_json registry) ns) ∷ []
names_of_value name value = []

-- ---- records
abbrev pub field_members : Field → List (List ℕ × Json)
field_members f = (f.name, json_of_value f.value) ∷ names_of_value f.name f.value

-- a record inside of another: its kind and its fields
abbrev pub part_json : Part → Json
part_json p = object_of ((codes "kind", string p.kind) ∷ flat_map field_members p.fields)

abbrev pub inside_members : Option (List Part) → List (List ℕ × Json)
inside_members None = []
inside_members (Some parts) = (codes "inside", list_of part_json parts) ∷ []

-- its kind, where it comes from, its fields, what is inside, and what is last
unfoldable pub json_of : Printed → Json
json_of r = object_of ((codes "kind", string r.kind) ∷ (flat_map field_members (r.origin ++ r.fields) ++ (inside_members r.inside ++ flat_map field_members r.last)))
