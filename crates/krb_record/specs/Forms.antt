-- The forms of records: lines, lines with the names of numbers, and JSON (RFC 8259), one object each; these with marks, by which a choice keeps them; and marked cells, of which a choice makes rows.
use Rattle.std.specs.Prelude.{ℕ, ℤ, pos, negsuc, unsigned_abs, ◌+◌, ◌-◌, ◌*◌, ◌/◌, ◌%◌, ◌^◌, ◌==◌, ◌&&◌, nat_le, not, Bool, true, false, List, [], ◌∷◌, ◌++◌, length, map, Option, Some, None, codes, bytes_eq, if◌then◌else◌}
use Rattle.std.specs.List.{filter, flat_map, list_all, list_any}
use Rattle.std.specs.Int.RustNames.{bit_and}
use Rattle.std.specs.Fmt.{decimal, signed_decimal}
use Rattle.std.specs.Net.Text.{ip_text}
use Rattle.krb_der.specs.Reasons.{reason_number, reason_name}
use Rattle.krb_der.specs.declared.verdict.Refusal.{Refusal}
use Rattle.krb_registry.specs.Rows.{rows, name_of}
use Rattle.krb_registry.specs.declared.registry.Registry.{Registry}
use Rattle.krb_registry.specs.declared.registry.Registry.TheVariants as registries
use Rattle.krb_record.specs.declared.form.Form.{Form}
use Rattle.krb_record.specs.declared.form.Form.TheVariants as form
use Rattle.krb_record.specs.declared.form.Base.{Base}
use Rattle.krb_record.specs.declared.form.Base.TheVariants as bases
use Rattle.krb_record.specs.declared.form.Wanted.{Wanted}
use Rattle.krb_record.specs.declared.path.Path.{Path}
use Rattle.krb_record.specs.declared.path.Path.TheVariants as paths
use Rattle.krb_record.specs.Text.{escape, hex, joined, line_feed, list_text, or_dash, principal_text, two_hex, yes_or_no}
use Rattle.krb_record.specs.FileNames.{name_text}
use Rattle.krb_record.specs.Flows.{endpoint_text, flow_text, flow_object, transport_name}
use Rattle.krb_record.specs.TicketFlags.{ticket_flags_text}
use Rattle.krb_record.specs.Errors.{code_text}
use Rattle.krb_record.specs.Time.{last_digits}
use Rattle.krb_source.specs.Layers.{layer_name}
use Rattle.krb_source.specs.declared.endpoint.Endpoint.{Endpoint}
use Rattle.krb_record.specs.declared.flow.Transport.{Transport}
use Rattle.krb_record.specs.Values.{Value, Absent, NoTicket, Number, Named, Numbers, ErrorCode, Status, Reason, NoReason, String, Quoted, FileName, Word, Hex, Flags, TicketFlags, Encrypted, Principal, Address, Digest, YesNo, Offset, RefusedTicket, Flow, Layers, Span, Called, Host, Field, LastLine, Part, Printed}

-- ---- flags by name; bit 0 is the highest of the first octet
-- whether a bit is set; those after the last octet are not
abbrev pub octet_at : List ℕ → ℕ → ℕ
octet_at [] k = 0
octet_at (octet ∷ octets) k = if k == 0 then octet else octet_at octets (k - 1)

abbrev pub is_set : List ℕ → ℕ → Bool
is_set octets bit = octet_at octets (bit / 8) / 2 ^ (7 - bit % 8) % 2 == 1

-- the names of the bits that are set and have one, in order of bit number
unfoldable pub set_names : Registry → List ℕ → List (List ℕ)
set_names registry octets = map (λ row. row.1) (filter (λ row. is_set octets (unsigned_abs row.0)) (rows registry))

-- the value of the bits of octet k that have names
abbrev pub named_in : ℕ → List (ℤ × List ℕ) → ℕ
named_in k [] = 0
named_in k (row ∷ others) = (if unsigned_abs row.0 / 8 == k then 2 ^ (7 - unsigned_abs row.0 % 8) else 0) + named_in k others

-- the octets, of which the first is octet k, without the bits that have names
abbrev pub unnamed_from : ℕ → Registry → List ℕ → List ℕ
unnamed_from k registry [] = []
unnamed_from k registry (octet ∷ octets) = bit_and octet (255 - named_in k (rows registry)) ∷ unnamed_from (k + 1) registry octets

unfoldable pub unnamed : Registry → List ℕ → List ℕ
unnamed registry octets = unnamed_from 0 registry octets

-- the octets in hexadecimal after `+`, unless all are 00
abbrev pub plus_text : List ℕ → List ℕ
plus_text octets = if list_all (λ octet. octet == 0) octets then [] else codes "+" ++ hex octets

-- the names of the flags that are set, or `-`, and then the bits without a name
unfoldable pub named_flags_text : Registry → List ℕ → List ℕ
named_flags_text registry octets = joined (codes "-") (codes ",") (λ name. name) (set_names registry octets) ++ plus_text (unnamed registry octets)

-- the octets of a number of 32 bits, the highest first
abbrev pub four_octets : ℕ → List ℕ
four_octets n = n / 16777216 ∷ n / 65536 % 256 ∷ n / 256 % 256 ∷ n % 256 ∷ []

-- ---- lines
-- a number, and with names `:` and its name, or `-` if it has none
abbrev pub number_text : Bool → Registry → ℤ → List ℕ
number_text false registry number = signed_decimal number
number_text true registry number = signed_decimal number ++ codes ":" ++ or_dash (λ name. name) (name_of registry number)

-- the number of bits, their octets in hexadecimal, and with names those of the bits that are set
abbrev pub flags_text : Bool → Registry → ℕ × List ℕ → List ℕ
flags_text false registry bits = decimal (8 * length bits.1 - bits.0) ++ codes ":" ++ hex bits.1
flags_text true registry bits = decimal (8 * length bits.1 - bits.0) ++ codes ":" ++ hex bits.1 ++ codes ":" ++ named_flags_text registry bits.1

-- a status of 32 bits in hexadecimal, and with names `:` and its name, or `-` if it has none
abbrev pub status_text : Bool → ℕ → List ℕ
status_text false number = hex (four_octets number)
status_text true number = hex (four_octets number) ++ codes ":" ++ or_dash (λ name. name) (name_of registries.Statuses (pos number))

-- why and where octets are no ticket
abbrev pub refused_ticket_text : Bool → Refusal → List ℕ
refused_ticket_text false refusal = codes "refused:" ++ decimal refusal.place ++ codes ":" ++ decimal (reason_number refusal.why)
refused_ticket_text true refusal = codes "refused:" ++ decimal refusal.place ++ codes ":" ++ decimal (reason_number refusal.why) ++ codes ":" ++ reason_name refusal.why

-- a number, and with names `:` and its name, or `-` if it has none
abbrev pub called_text : Bool → ℕ → Option (List ℕ) → List ℕ
called_text false number name = decimal number
called_text true number name = decimal number ++ codes ":" ++ or_dash (λ name. name) name

-- a span of time in seconds, a dot and six digits, after `-` if it is negative
abbrev pub seconds_text : ℕ → List ℕ
seconds_text microseconds = decimal (microseconds / 1000000) ++ codes "." ++ last_digits 6 microseconds

unfoldable pub span_text : ℤ → List ℕ
span_text (pos microseconds) = seconds_text microseconds
span_text (negsuc less) = codes "-" ++ seconds_text (less + 1)

-- what a line shows of a value, with names or without
unfoldable pub value_text : Bool → Value → List ℕ
value_text names Absent = codes "-"
value_text names NoTicket = codes "absent"
value_text names (Number number) = signed_decimal number
value_text names (Named registry number) = number_text names registry number
value_text names (Numbers registry numbers) = list_text (number_text names registry) numbers
value_text false (ErrorCode code) = code_text code
value_text true (ErrorCode code) = number_text true registries.ErrorCodes code
value_text names (Status number) = status_text names number
value_text names (Reason number name) = decimal number ++ codes " " ++ name
value_text names NoReason = codes "-"
value_text names (String octets) = escape octets
value_text names (Quoted octets) = codes "\"" ++ escape octets ++ codes "\""
value_text names (FileName octets) = name_text octets
value_text names (Word text) = text
value_text names (Hex octets) = hex octets
value_text names (Flags registry bits) = flags_text names registry bits
value_text false (TicketFlags flags) = ticket_flags_text flags
value_text true (TicketFlags flags) = named_flags_text registries.TicketFlags (four_octets flags)
value_text names (Encrypted etype kvno size) = number_text names registries.EncryptionTypes etype ++ codes ":" ++ or_dash signed_decimal kvno ++ codes ":" ++ decimal size
value_text names (Principal name_type components realm) = principal_text components realm
value_text names (Address addr_type octets) = number_text names registries.AddressTypes addr_type ++ codes ":" ++ hex octets
value_text names (Digest cksumtype size) = number_text names registries.ChecksumTypes cksumtype ++ codes ":" ++ decimal size
value_text names (YesNo holds) = yes_or_no holds
value_text names (Offset seconds microseconds) = signed_decimal seconds ++ codes ":" ++ signed_decimal microseconds
value_text names (RefusedTicket refusal) = refused_ticket_text names refusal
value_text names (Flow transport source target) = flow_text transport source target
value_text names (Layers layers) = joined [] (codes ",") layer_name layers
value_text names (Span microseconds) = span_text microseconds
value_text names (Called number name) = called_text names number name
value_text names (Host address) = ip_text address

-- ---- JSON
-- a string of a text of 20 to 7E: `"` and `\` after a `\` (RFC 8259, section 7)
abbrev pub json_character : ℕ → List ℕ
json_character c = if c == 0x22 then codes "\\\"" else if c == 0x5C then codes "\\\\" else c ∷ []

abbrev pub json_string : List ℕ → List ℕ
json_string text = codes "\"" ++ flat_map json_character text ++ codes "\""

-- octets as such a text: 20 to 7E but `\` as they are, each other as `\x` and two hexadecimal digits
abbrev pub shown_octet : ℕ → List ℕ
shown_octet octet = if nat_le 0x20 octet && nat_le octet 0x7E && not (octet == 0x5C) then octet ∷ [] else codes "\\x" ++ two_hex octet

abbrev pub octets_string : List ℕ → List ℕ
octets_string octets = json_string (flat_map shown_octet octets)

abbrev pub or_null : {A : Type 0} → (A → List ℕ) → Option A → List ℕ
or_null text None = codes "null"
or_null text (Some value) = text value

abbrev pub name_string : Registry → ℤ → List ℕ
name_string registry number = or_null json_string (name_of registry number)

abbrev pub flags_object : Registry → ℕ × List ℕ → List ℕ
flags_object registry bits =
    codes "{\"bits\":" ++ decimal (8 * length bits.1 - bits.0)
    ++ codes ",\"hex\":\"" ++ hex bits.1
    ++ codes "\",\"names\":" ++ list_text json_string (set_names registry bits.1) ++ codes "}"

abbrev pub encrypted_object : ℤ → Option ℤ → ℕ → List ℕ
encrypted_object etype kvno size =
    codes "{\"etype\":" ++ signed_decimal etype
    ++ codes ",\"etype_name\":" ++ name_string registries.EncryptionTypes etype
    ++ codes ",\"kvno\":" ++ or_null signed_decimal kvno
    ++ codes ",\"size\":" ++ decimal size ++ codes "}"

abbrev pub principal_object : ℤ → List (List ℕ) → List ℕ → List ℕ
principal_object name_type components realm =
    codes "{\"text\":" ++ json_string (principal_text components realm)
    ++ codes ",\"type\":" ++ signed_decimal name_type
    ++ codes ",\"type_name\":" ++ name_string registries.NameTypes name_type
    ++ codes ",\"components\":" ++ list_text octets_string components
    ++ codes ",\"realm\":" ++ octets_string realm ++ codes "}"

abbrev pub address_object : ℤ → List ℕ → List ℕ
address_object addr_type octets =
    codes "{\"type\":" ++ signed_decimal addr_type
    ++ codes ",\"type_name\":" ++ name_string registries.AddressTypes addr_type
    ++ codes ",\"hex\":\"" ++ hex octets ++ codes "\"}"

abbrev pub digest_object : ℤ → ℕ → List ℕ
digest_object cksumtype size =
    codes "{\"type\":" ++ signed_decimal cksumtype
    ++ codes ",\"type_name\":" ++ name_string registries.ChecksumTypes cksumtype
    ++ codes ",\"size\":" ++ decimal size ++ codes "}"

abbrev pub offset_object : ℤ → ℤ → List ℕ
offset_object seconds microseconds =
    codes "{\"seconds\":" ++ signed_decimal seconds ++ codes ",\"microseconds\":" ++ signed_decimal microseconds ++ codes "}"

abbrev pub refused_object : Refusal → List ℕ
refused_object refusal =
    codes "{\"refused\":{\"place\":" ++ decimal refusal.place
    ++ codes ",\"why\":" ++ decimal (reason_number refusal.why)
    ++ codes ",\"why_name\":" ++ json_string (reason_name refusal.why) ++ codes "}}"

abbrev pub true_or_false : Bool → List ℕ
true_or_false true = codes "true"
true_or_false false = codes "false"

-- a value
unfoldable pub json_value : Value → List ℕ
json_value Absent = codes "null"
json_value NoTicket = codes "null"
json_value (Number number) = signed_decimal number
json_value (Named registry number) = signed_decimal number
json_value (Numbers registry numbers) = list_text signed_decimal numbers
json_value (ErrorCode code) = signed_decimal code
json_value (Status number) = codes "\"" ++ hex (four_octets number) ++ codes "\""
json_value (Reason number name) = decimal number
json_value NoReason = codes "null"
json_value (String octets) = octets_string octets
json_value (Quoted octets) = octets_string octets
json_value (FileName octets) = octets_string octets
json_value (Word text) = json_string text
json_value (Hex octets) = codes "\"" ++ hex octets ++ codes "\""
json_value (Flags registry bits) = flags_object registry bits
json_value (TicketFlags flags) = flags_object registries.TicketFlags (0, four_octets flags)
json_value (Encrypted etype kvno size) = encrypted_object etype kvno size
json_value (Principal name_type components realm) = principal_object name_type components realm
json_value (Address addr_type octets) = address_object addr_type octets
json_value (Digest cksumtype size) = digest_object cksumtype size
json_value (YesNo holds) = true_or_false holds
json_value (Offset seconds microseconds) = offset_object seconds microseconds
json_value (RefusedTicket refusal) = refused_object refusal
json_value (Flow transport source target) = flow_object transport source target
json_value (Layers layers) = list_text (λ layer. json_string (layer_name layer)) layers
json_value (Span microseconds) = signed_decimal microseconds
json_value (Called number name) = decimal number
json_value (Host address) = codes "\"" ++ ip_text address ++ codes "\""

-- the member after a value that has names: `,"NAME_name":` and the name or null, or `,"NAME_names":` and those of a list; `begin` is `,"NAME`
unfoldable pub names_member : List ℕ → Value → List ℕ
names_member begin (Named registry number) = begin ++ codes "_name\":" ++ name_string registry number
names_member begin (ErrorCode code) = begin ++ codes "_name\":" ++ name_string registries.ErrorCodes code
names_member begin (Status number) = begin ++ codes "_name\":" ++ name_string registries.Statuses (pos number)
names_member begin (Reason number name) = begin ++ codes "_name\":" ++ json_string name
names_member begin (Called number name) = begin ++ codes "_name\":" ++ or_null json_string name
names_member begin NoReason = begin ++ codes "_name\":null"
names_member begin (Numbers registry numbers) = begin ++ codes "_names\":" ++ list_text (name_string registry) numbers
names_member begin value = []

unfoldable pub members : List ℕ → Value → List ℕ
members begin value = begin ++ codes "\":" ++ json_value value ++ names_member begin value

-- ---- cells: of a value, or of one of its members, without quotes; `-` is what is absent
-- a text that may be empty, which is `""`
abbrev pub or_empty : List ℕ → List ℕ
or_empty [] = codes "\"\""
or_empty (first ∷ others) = first ∷ others

-- a string, whose first octet is escaped where all of it is what cells have of no string: `-`, `""`, `[]`, `[-]` or `..`
abbrev pub is_mistaken : List ℕ → Bool
is_mistaken octets = list_any (λ other. bytes_eq other octets) (codes "-" ∷ codes "\"\"" ∷ codes "[]" ∷ codes "[-]" ∷ codes ".." ∷ [])

abbrev pub escaped_if : Bool → (ℕ → List ℕ) → ℕ → List ℕ
escaped_if false show octet = show octet
escaped_if true show octet = codes "\\x" ++ two_hex octet

abbrev pub string_of : (ℕ → List ℕ) → List ℕ → List ℕ
string_of show [] = codes "\"\""
string_of show (first ∷ others) = escaped_if (is_mistaken (first ∷ others)) show first ++ flat_map show others

unfoldable pub string_cell : List ℕ → List ℕ
string_cell octets = string_of shown_octet octets

-- in a list a comma is escaped, too
abbrev pub item_octet : ℕ → List ℕ
item_octet octet = if octet == 0x2C then codes "\\x2c" else shown_octet octet

unfoldable pub item_cell : List ℕ → List ℕ
item_cell octets = string_of item_octet octets

-- the name of a file, in which nothing is mistaken
abbrev pub name_cell : List ℕ → List ℕ
name_cell [] = codes "\"\""
name_cell (first ∷ others) = flat_map shown_octet (first ∷ others)

-- a list: one absent item alone is in brackets
abbrev pub list_cell : List (List ℕ) → List ℕ
list_cell [] = codes "[]"
list_cell (item ∷ []) = if bytes_eq (codes "-") item then codes "[-]" else item
list_cell (first ∷ second ∷ others) = joined [] (codes ",") (λ item. item) (first ∷ second ∷ others)

abbrev pub name_or_dash : Registry → ℤ → List ℕ
name_or_dash registry number = or_dash (λ name. name) (name_of registry number)

-- of what has no members
abbrev pub whole_cell : Path → List ℕ → List ℕ
whole_cell paths.Whole text = text
whole_cell path text = codes "-"

-- of a number and its name
abbrev pub named_cell : Path → (number name : List ℕ) → List ℕ
named_cell paths.Whole number name = number
named_cell paths.Name number name = name
named_cell path number name = codes "-"

abbrev pub numbers_cell : Path → Registry → List ℤ → List ℕ
numbers_cell paths.Whole registry numbers = list_cell (map signed_decimal numbers)
numbers_cell paths.Names registry numbers = list_cell (map (name_or_dash registry) numbers)
numbers_cell path registry numbers = codes "-"

abbrev pub flags_cell : Path → (text : List ℕ) → Registry → ℕ × List ℕ → List ℕ
flags_cell paths.Whole text registry bits = text
flags_cell paths.Bits text registry bits = decimal (8 * length bits.1 - bits.0)
flags_cell paths.Hex text registry bits = or_empty (hex bits.1)
flags_cell paths.Names text registry bits = joined (codes "[]") (codes ",") (λ name. name) (set_names registry bits.1)
flags_cell path text registry bits = codes "-"

abbrev pub encrypted_cell : Path → (text : List ℕ) → ℤ → Option ℤ → ℕ → List ℕ
encrypted_cell paths.Whole text etype kvno size = text
encrypted_cell paths.Etype text etype kvno size = signed_decimal etype
encrypted_cell paths.EtypeName text etype kvno size = name_or_dash registries.EncryptionTypes etype
encrypted_cell paths.Kvno text etype kvno size = or_dash signed_decimal kvno
encrypted_cell paths.Size text etype kvno size = decimal size
encrypted_cell path text etype kvno size = codes "-"

abbrev pub principal_cell : Path → (text : List ℕ) → ℤ → List (List ℕ) → List ℕ → List ℕ
principal_cell paths.Whole text name_type components realm = text
principal_cell paths.Text text name_type components realm = text
principal_cell paths.Type text name_type components realm = signed_decimal name_type
principal_cell paths.TypeName text name_type components realm = name_or_dash registries.NameTypes name_type
principal_cell paths.Components text name_type components realm = joined (codes "[]") (codes ",") item_cell components
principal_cell paths.Realm text name_type components realm = string_cell realm
principal_cell path text name_type components realm = codes "-"

abbrev pub address_cell : Path → (text : List ℕ) → ℤ → List ℕ → List ℕ
address_cell paths.Whole text addr_type octets = text
address_cell paths.Type text addr_type octets = signed_decimal addr_type
address_cell paths.TypeName text addr_type octets = name_or_dash registries.AddressTypes addr_type
address_cell paths.Hex text addr_type octets = or_empty (hex octets)
address_cell path text addr_type octets = codes "-"

abbrev pub digest_cell : Path → (text : List ℕ) → ℤ → ℕ → List ℕ
digest_cell paths.Whole text cksumtype size = text
digest_cell paths.Type text cksumtype size = signed_decimal cksumtype
digest_cell paths.TypeName text cksumtype size = name_or_dash registries.ChecksumTypes cksumtype
digest_cell paths.Size text cksumtype size = decimal size
digest_cell path text cksumtype size = codes "-"

abbrev pub offset_cell : Path → (text : List ℕ) → ℤ → ℤ → List ℕ
offset_cell paths.Whole text seconds microseconds = text
offset_cell paths.Seconds text seconds microseconds = signed_decimal seconds
offset_cell paths.Microseconds text seconds microseconds = signed_decimal microseconds
offset_cell path text seconds microseconds = codes "-"

abbrev pub refused_cell : Path → (text : List ℕ) → Refusal → List ℕ
refused_cell paths.Whole text refusal = text
refused_cell paths.Place text refusal = decimal refusal.place
refused_cell paths.Why text refusal = decimal (reason_number refusal.why)
refused_cell paths.WhyName text refusal = reason_name refusal.why
refused_cell path text refusal = codes "-"

abbrev pub flow_cell : Path → Transport → Endpoint → Endpoint → List ℕ
flow_cell paths.Whole transport source target = flow_text transport source target
flow_cell paths.Over transport source target = transport_name transport
flow_cell paths.Source transport source target = endpoint_text source
flow_cell paths.SourceAddress transport source target = ip_text source.address
flow_cell paths.SourcePort transport source target = decimal source.port
flow_cell paths.Target transport source target = endpoint_text target
flow_cell paths.TargetAddress transport source target = ip_text target.address
flow_cell paths.TargetPort transport source target = decimal target.port
flow_cell path transport source target = codes "-"

unfoldable pub cell : Path → Value → List ℕ
cell path Absent = codes "-"
cell path NoTicket = codes "-"
cell path (Number number) = whole_cell path (signed_decimal number)
cell path (Named registry number) = named_cell path (signed_decimal number) (name_or_dash registry number)
cell path (Numbers registry numbers) = numbers_cell path registry numbers
cell path (ErrorCode code) = named_cell path (signed_decimal code) (name_or_dash registries.ErrorCodes code)
cell path (Status number) = named_cell path (hex (four_octets number)) (name_or_dash registries.Statuses (pos number))
cell path (Reason number name) = named_cell path (decimal number) (string_cell name)
cell path NoReason = codes "-"
cell path (String octets) = whole_cell path (string_cell octets)
cell path (Quoted octets) = whole_cell path (string_cell octets)
cell path (FileName octets) = whole_cell path (name_cell octets)
cell path (Word text) = whole_cell path (string_cell text)
cell path (Hex octets) = whole_cell path (or_empty (hex octets))
cell path (Flags registry bits) = flags_cell path (flags_text true registry bits) registry bits
cell path (TicketFlags flags) = flags_cell path (named_flags_text registries.TicketFlags (four_octets flags)) registries.TicketFlags (0, four_octets flags)
cell path (Encrypted etype kvno size) = encrypted_cell path (value_text true (Encrypted etype kvno size)) etype kvno size
cell path (Principal name_type components realm) = principal_cell path (principal_text components realm) name_type components realm
cell path (Address addr_type octets) = address_cell path (value_text true (Address addr_type octets)) addr_type octets
cell path (Digest cksumtype size) = digest_cell path (value_text true (Digest cksumtype size)) cksumtype size
cell path (YesNo holds) = whole_cell path (true_or_false holds)
cell path (Offset seconds microseconds) = offset_cell path (value_text true (Offset seconds microseconds)) seconds microseconds
cell path (RefusedTicket refusal) = refused_cell path (refused_ticket_text true refusal) refusal
cell path (Flow transport source target) = flow_cell path transport source target
cell path (Layers layers) = whole_cell path (joined (codes "[]") (codes ",") layer_name layers)
cell path (Span microseconds) = whole_cell path (signed_decimal microseconds)
cell path (Called number name) = named_cell path (decimal number) (or_dash (λ name. name) name)
cell path (Host address) = whole_cell path (ip_text address)

-- ---- marks: no text of a record has an octet below 20 but the line feed, so octets below it tell its parts apart
-- a kind is between 01 and 06
abbrev pub kind_mark : List ℕ → List ℕ
kind_mark kind = 1 ∷ kind ++ 6 ∷ []

-- the paths in order of their numbers, and the letters that stand for them
abbrev pub path_number : Path → ℕ
path_number paths.Whole = 0
path_number paths.Name = 1
path_number paths.Names = 2
path_number paths.Text = 3
path_number paths.Type = 4
path_number paths.TypeName = 5
path_number paths.Components = 6
path_number paths.Realm = 7
path_number paths.Etype = 8
path_number paths.EtypeName = 9
path_number paths.Kvno = 10
path_number paths.Size = 11
path_number paths.Bits = 12
path_number paths.Hex = 13
path_number paths.Seconds = 14
path_number paths.Microseconds = 15
path_number paths.Place = 16
path_number paths.Why = 17
path_number paths.WhyName = 18
path_number paths.Over = 19
path_number paths.Source = 20
path_number paths.SourceAddress = 21
path_number paths.SourcePort = 22
path_number paths.Target = 23
path_number paths.TargetAddress = 24
path_number paths.TargetPort = 25

abbrev pub path_letter : Path → ℕ
path_letter path = 65 + path_number path

abbrev pub all_paths : List Path
all_paths = paths.Whole ∷ paths.Name ∷ paths.Names ∷ paths.Text ∷ paths.Type ∷ paths.TypeName ∷ paths.Components ∷ paths.Realm
    ∷ paths.Etype ∷ paths.EtypeName ∷ paths.Kvno ∷ paths.Size ∷ paths.Bits ∷ paths.Hex ∷ paths.Seconds ∷ paths.Microseconds
    ∷ paths.Place ∷ paths.Why ∷ paths.WhyName ∷ paths.Over ∷ paths.Source ∷ paths.SourceAddress ∷ paths.SourcePort
    ∷ paths.Target ∷ paths.TargetAddress ∷ paths.TargetPort ∷ []

-- each cell that is wanted, after 03 and the letter of its path; `bits` has a bit for each path, the lowest for the first
abbrev pub cells_from : (bits : ℕ) → List Path → Value → List ℕ
cells_from bits [] value = []
cells_from bits (path ∷ others) value = (if bits % 2 == 1 then 3 ∷ path_letter path ∷ cell path value else []) ++ cells_from (bits / 2) others value

-- one of 16 bits for names, by the length and the third octet of what begins a member, which is the first letter of its name
abbrev pub name_bit : List ℕ → ℕ
name_bit begin = 2 ^ ((5 * length begin + octet_at begin 2) % 16)

-- the next 16 bits are for kinds of messages, by the length and the last letter
abbrev pub kind_bit : List ℕ → ℕ
kind_bit kind = 2 ^ (16 + (3 * length kind + octet_at kind (length kind - 1)) % 16)

abbrev pub has_kind : Wanted → List ℕ → Bool
has_kind wanted kind = not (bit_and wanted.bits (kind_bit kind) == 0)

-- the highest bit is for what is inside
abbrev pub has_inside : Wanted → Bool
has_inside wanted = not (bit_and wanted.bits (2 ^ 63) == 0)

-- a field that may be wanted: 02, what begins its member, and its cells, by the 26 bits for paths
unfoldable pub cells : Wanted → List ℕ → Value → List ℕ
cells wanted begin value = if bit_and wanted.bits (name_bit begin) == 0 then [] else 2 ∷ begin ++ cells_from (wanted.bits / 2 ^ 32 % 2 ^ 26) all_paths value

abbrev pub nothing_wanted : Wanted
nothing_wanted = record { bits = 0 }

-- the form of a record that is kept, without its marks
abbrev pub form_of : Base → Form
form_of bases.Lines = form.Lines
form_of bases.NamedLines = form.NamedLines
form_of bases.Json = form.Json

-- whether messages of a kind are shown: rows have nothing of those that they do not want
unfoldable pub shows_kind : Form → List ℕ → Bool
shows_kind form.Lines kind = true
shows_kind form.NamedLines kind = true
shows_kind form.Json kind = true
shows_kind form.KeptLines kind = true
shows_kind form.KeptNamedLines kind = true
shows_kind form.KeptJson kind = true
shows_kind (form.Rows wanted) kind = has_kind wanted kind

-- the form with marks of a record that may be kept
abbrev pub kept_form : Base → Form
kept_form bases.Lines = form.KeptLines
kept_form bases.NamedLines = form.KeptNamedLines
kept_form bases.Json = form.KeptJson

-- the text that a record has, or none of rows
abbrev pub base_of : Form → Option Base
base_of form.Lines = Some bases.Lines
base_of form.NamedLines = Some bases.NamedLines
base_of form.Json = Some bases.Json
base_of form.KeptLines = Some bases.Lines
base_of form.KeptNamedLines = Some bases.NamedLines
base_of form.KeptJson = Some bases.Json
base_of (form.Rows wanted) = None

-- what lines have, or else what objects and rows have
abbrev pub match_base : {A : Type 0} → Option Base → (line other : A) → A
match_base (Some bases.Lines) line other = line
match_base (Some bases.NamedLines) line other = line
match_base (Some bases.Json) line other = other
match_base None line other = other

-- a line without names, which has nothing of what is told
abbrev pub is_plain_form : Form → Bool
is_plain_form form.Lines = true
is_plain_form form.NamedLines = false
is_plain_form form.Json = false
is_plain_form form.KeptLines = true
is_plain_form form.KeptNamedLines = false
is_plain_form form.KeptJson = false
is_plain_form (form.Rows wanted) = false

abbrev pub is_marked : Form → Bool
is_marked form.Lines = false
is_marked form.NamedLines = false
is_marked form.Json = false
is_marked form.KeptLines = true
is_marked form.KeptNamedLines = true
is_marked form.KeptJson = true
is_marked (form.Rows wanted) = true

-- such a line that is not marked, either, so nothing is told of it
abbrev pub is_unmarked_plain : Form → Bool
is_unmarked_plain f = is_plain_form f && not (is_marked f)

-- ---- fields and records
-- a field that begins so in a line, and so in an object
unfoldable pub labelled : Form → List ℕ → List ℕ → Value → List ℕ
labelled form.Lines label begin value = label ++ value_text false value
labelled form.NamedLines label begin value = label ++ value_text true value
labelled form.Json label begin value = members begin value
labelled form.KeptLines label begin value = label ++ value_text false value
labelled form.KeptNamedLines label begin value = label ++ value_text true value
labelled form.KeptJson label begin value = members begin value
labelled (form.Rows wanted) label begin value = cells wanted begin value

-- ` NAME=` and the text of the value, or `,"NAME":` and the value, or cells
abbrev pub field : Form → List ℕ → Value → List ℕ
field f name value = labelled f (codes " " ++ name ++ codes "=") (codes ",\"" ++ name) value

unfoldable pub opening : Form → List ℕ → List ℕ
opening form.Lines kind = kind
opening form.NamedLines kind = kind
opening form.Json kind = codes "{\"kind\":\"" ++ kind ++ codes "\""
opening form.KeptLines kind = kind_mark kind ++ kind
opening form.KeptNamedLines kind = kind_mark kind ++ kind
opening form.KeptJson kind = kind_mark kind ++ codes "{\"kind\":\"" ++ kind ++ codes "\""
opening (form.Rows wanted) kind = kind_mark kind

unfoldable pub closing : Form → List ℕ
closing form.Lines = []
closing form.NamedLines = []
closing form.Json = codes "}"
closing form.KeptLines = []
closing form.KeptNamedLines = []
closing form.KeptJson = codes "}"
closing (form.Rows wanted) = []

abbrev pub fields_text : Form → List Field → List ℕ
fields_text f [] = []
fields_text f (first ∷ others) = field f first.name first.value ++ fields_text f others

-- the fields of an origin: a line has no blank before the first
abbrev pub origin_text : Form → List Field → List ℕ
origin_text f [] = []
origin_text f (first ∷ others) = labelled f (first.name ++ codes "=") (codes ",\"" ++ first.name) first.value ++ fields_text f others

-- a line has the origin and a blank before the kind, and an object has the origin after it; the cells of a row have it first
unfoldable pub opening_from : Form → List Field → List ℕ → List ℕ
opening_from form.Lines origin kind = origin_text form.Lines origin ++ codes " " ++ kind
opening_from form.NamedLines origin kind = origin_text form.NamedLines origin ++ codes " " ++ kind
opening_from form.Json origin kind = opening form.Json kind ++ origin_text form.Json origin
opening_from form.KeptLines origin kind = origin_text form.KeptLines origin ++ codes " " ++ opening form.KeptLines kind
opening_from form.KeptNamedLines origin kind = origin_text form.KeptNamedLines origin ++ codes " " ++ opening form.KeptNamedLines kind
opening_from form.KeptJson origin kind = opening form.KeptJson kind ++ origin_text form.KeptJson origin
opening_from (form.Rows wanted) origin kind = origin_text (form.Rows wanted) origin ++ opening (form.Rows wanted) kind

-- what precedes the fields of a record
abbrev pub heading : Form → List Field → List ℕ → List ℕ
heading f [] kind = opening f kind
heading f (first ∷ others) kind = opening_from f (first ∷ others) kind

-- a record inside of another
unfoldable pub part_text : Form → Part → List ℕ
part_text f p = opening f p.kind ++ fields_text f p.fields ++ closing f

-- the records inside of another: how many there are, and each after a blank; in an object an array of them; a line without names has their kinds between marks alone, and the cells of a row have them between 04 and 07, if they are wanted
unfoldable pub inside_text : Form → List Part → List ℕ
inside_text form.Lines parts = []
inside_text form.NamedLines parts = codes " inside=" ++ decimal (length parts) ++ flat_map (λ p. codes " " ++ part_text form.NamedLines p) parts
inside_text form.Json parts = codes ",\"inside\":" ++ list_text (part_text form.Json) parts
inside_text form.KeptLines parts = flat_map (part_text (form.Rows nothing_wanted)) parts
inside_text form.KeptNamedLines parts = codes " inside=" ++ decimal (length parts) ++ flat_map (λ p. codes " " ++ part_text form.KeptNamedLines p) parts
inside_text form.KeptJson parts = codes ",\"inside\":" ++ list_text (part_text form.KeptJson) parts
inside_text (form.Rows wanted) parts = if has_inside wanted then 4 ∷ flat_map (part_text (form.Rows wanted)) parts ++ 7 ∷ [] else []

-- of what has no parts, nothing
abbrev pub parts_text : Form → Option (List Part) → List ℕ
parts_text f None = []
parts_text f (Some parts) = inside_text f parts

-- the last fields of a record, which lines do not have
abbrev pub unless_line : Form → List Field → List ℕ
unless_line form.Lines fields = []
unless_line form.NamedLines fields = []
unless_line form.Json fields = fields_text form.Json fields
unless_line form.KeptLines fields = []
unless_line form.KeptNamedLines fields = []
unless_line form.KeptJson fields = fields_text form.KeptJson fields
unless_line (form.Rows wanted) fields = fields_text (form.Rows wanted) fields

abbrev pub last_text : Form → List Field → List ℕ
last_text f [] = []
last_text f (first ∷ others) = unless_line f (first ∷ others)

-- the last fields of a record, and what follows them
abbrev pub end_text : Form → List Field → List ℕ
end_text f last = last_text f last ++ closing f

-- what follows the fields of a record
abbrev pub ending : Form → Option (List Part) → List Field → List ℕ
ending f inside last = parts_text f inside ++ end_text f last

-- a line with names that tells of a last record, which marked ones alone have, between 05 and 06
abbrev pub aside_text : Form → Option LastLine → List ℕ
aside_text f None = []
aside_text f (Some line) = if is_marked f then 5 ∷ (heading form.NamedLines line.origin line.kind ++ fields_text form.NamedLines line.fields) ++ 6 ∷ [] else []

-- a record without its line feed
unfoldable pub record_text : Form → Printed → List ℕ
record_text f r = heading f r.origin r.kind ++ fields_text f r.fields ++ aside_text f r.aside ++ ending f r.inside r.last

abbrev pub record_line : Form → Printed → List ℕ
record_line f r = record_text f r ++ line_feed
