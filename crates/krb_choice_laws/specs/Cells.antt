-- What a cell says of an object: it is a function of the member of that at the path of its column.
use Rattle.std.specs.Prelude.{ℕ, ◌≡◌, ◌<◌, ◌^◌, ◌==◌, ◌&&◌, nat_le, not, Bool, true, false, List, [], ◌∷◌, ◌++◌, IfSome, Some, bytes_eq, codes, if◌then◌else◌}
use Rattle.std.specs.List.{AllByRecursion, Contains, flat_map, list_all}
use Rattle.std.specs.Net.Addr.{IsIpv4Addr, IsIpv6Addr, MatchIp}
use Rattle.json.specs.Json.{Items, Json, Members, array, boolean, item, member, no_items, no_members, null, number, object, string}
use Rattle.krb_der.specs.Octets.{AreOctets}
use Rattle.krb_record.specs.Flows.{endpoint_text}
use Rattle.krb_record.specs.Forms.{cell, is_mistaken, list_cell, or_empty, string_of, true_or_false, value_text}
use Rattle.krb_record.specs.Text.{AllAreOctets}
use Rattle.krb_record.specs.Values.{Address, Called, Field, FileName, Flags, Flow, Hex, Host, Part, Principal, Printed, Quoted, Reason, Status, String, TicketFlags, Value, Word}
use Rattle.krb_record.specs.declared.path.Path.{Path}
use Rattle.krb_record.specs.declared.path.Path.TheVariants as paths
use Rattle.krb_laws.specs.Json.{field_members, json_of, object_of, part_json}
use Rattle.krb_laws.specs.JsonLaws.{are_different, inside_name, member_names}
use Rattle.krb_choice.specs.Choices.{Inside, Kind, Member, kind_alone, own_cell, part_cell, shown, shown_part}

-- ---- members of objects
-- the first one of a name, or null
abbrev pub member_in : (name : List ℕ) → Members → Json
member_in name no_members = null
member_in name (member other json others) = if bytes_eq other name then json else member_in name others

abbrev pub member_of : (name : List ℕ) → Json → Json
member_of name (object its) = member_in name its
member_of name other = null

-- the one at names, each in the object before it
abbrev pub member_within : (names : List (List ℕ)) → Json → Json
member_within [] json = json
member_within (name ∷ others) json = member_within others (member_of name json)

abbrev pub unless_null : (json other : Json) → Json
unless_null null other = other
unless_null json other = json

-- the names of a path after the name of its field
abbrev pub names_of : Path → List (List ℕ)
names_of paths.Whole = []
names_of paths.Name = []
names_of paths.Names = codes "names" ∷ []
names_of paths.Text = codes "text" ∷ []
names_of paths.Type = codes "type" ∷ []
names_of paths.TypeName = codes "type_name" ∷ []
names_of paths.Components = codes "components" ∷ []
names_of paths.Realm = codes "realm" ∷ []
names_of paths.Etype = codes "etype" ∷ []
names_of paths.EtypeName = codes "etype_name" ∷ []
names_of paths.Kvno = codes "kvno" ∷ []
names_of paths.Size = codes "size" ∷ []
names_of paths.Bits = codes "bits" ∷ []
names_of paths.Hex = codes "hex" ∷ []
names_of paths.Seconds = codes "seconds" ∷ []
names_of paths.Microseconds = codes "microseconds" ∷ []
names_of paths.Place = codes "refused" ∷ codes "place" ∷ []
names_of paths.Why = codes "refused" ∷ codes "why" ∷ []
names_of paths.WhyName = codes "refused" ∷ codes "why_name" ∷ []
names_of paths.Over = codes "over" ∷ []
names_of paths.Source = codes "source" ∷ []
names_of paths.SourceAddress = codes "source" ∷ codes "address" ∷ []
names_of paths.SourcePort = codes "source" ∷ codes "port" ∷ []
names_of paths.Target = codes "target" ∷ []
names_of paths.TargetAddress = codes "target" ∷ codes "address" ∷ []
names_of paths.TargetPort = codes "target" ∷ codes "port" ∷ []

-- The member of an object at a path of the field of a name. The name of a number is in a member beside it, `NAME_name`, and so are the names of numbers, `NAME_names`; those of flags are within.
abbrev pub member_at : Path → (name : List ℕ) → Json → Json
member_at paths.Name name json = member_of (name ++ codes "_name") json
member_at paths.Names name json = unless_null (member_of (name ++ codes "_names") json) (member_within (codes "names" ∷ []) (member_of name json))
member_at path name json = member_within (names_of path) (member_of name json)

-- ---- the cell of a member
-- a character as it is, and in a list a comma escaped
abbrev pub character : ℕ → List ℕ
character c = c ∷ []

abbrev pub item_character : ℕ → List ℕ
item_character c = if c == 0x2C then codes "\\x2c" else c ∷ []

-- no item of a list is an object or a list
abbrev pub item_said : Json → List ℕ
item_said null = codes "-"
item_said (boolean holds) = true_or_false holds
item_said (number digits) = digits
item_said (string text) = string_of item_character text
item_said (array items) = []
item_said (object its) = []

abbrev pub items_said : Items → List (List ℕ)
items_said no_items = []
items_said (item json others) = item_said json ∷ items_said others

-- what is null or not there is `-`, and an object has the text that a line with names has of it
abbrev pub said : (line : List ℕ) → Json → List ℕ
said line null = codes "-"
said line (boolean holds) = true_or_false holds
said line (number digits) = digits
said line (string text) = string_of character text
said line (array items) = list_cell (items_said items)
said line (object its) = line

-- that of a value, or of an end of a flow
abbrev pub line_part : Value → Path → List ℕ
line_part (Flow transport source target) paths.Source = endpoint_text source
line_part (Flow transport source target) paths.Target = endpoint_text target
line_part value path = value_text true value

-- what a value says: of the name of a file nothing is escaped that could be mistaken
abbrev pub name_said : Json → List ℕ
name_said (string text) = or_empty text
name_said json = codes "-"

abbrev pub said_of : Value → Path → Json → List ℕ
said_of (FileName octets) path json = name_said json
said_of value path json = said (line_part value path) json

-- ---- values
-- 20 to 7E but `\`, and none of the texts that cells have of no string
abbrev pub is_word : List ℕ → Bool
is_word text = list_all (λ c. nat_le 0x20 c && nat_le c 0x7E && not (c == 0x5C)) text && (not (is_mistaken text) && not (bytes_eq text []))

abbrev pub IsWord : List ℕ → Type 0
IsWord text = is_word text ≡ true

-- octets are octets, and words are words
abbrev pub Speaks : Value → Type 0
Speaks (Status n) = n < 2 ^ 32
Speaks (Reason n name) = IsWord name
Speaks (String octets) = AreOctets octets
Speaks (Quoted octets) = AreOctets octets
Speaks (FileName octets) = AreOctets octets
Speaks (Word text) = IsWord text
Speaks (Hex octets) = AreOctets octets
Speaks (Flags registry bits) = AreOctets bits.1
Speaks (TicketFlags flags) = flags < 2 ^ 32
Speaks (Principal name_type components realm) = AllAreOctets components × AreOctets realm
Speaks (Address addr_type octets) = AreOctets octets
Speaks (Flow transport source target) = MatchIp source.address IsIpv4Addr IsIpv6Addr × MatchIp target.address IsIpv4Addr IsIpv6Addr
Speaks (Called n name) = IfSome name IsWord
Speaks (Host address) = MatchIp address IsIpv4Addr IsIpv6Addr
Speaks value = Unit {0}

-- ---- a cell says what the object says
-- the object of a field alone
abbrev pub object_with : Field → Json
object_with field = object_of (field_members field)

-- The cell of a field is what the member at its path says.
abbrev pub CellsSayMembers : Type 0
CellsSayMembers = (path : Path) (field : Field) → Speaks field.value → cell path field.value ≡ said_of field.value path (member_at path field.name (object_with field))

-- the names of the members of a record differ; so do those of one inside
abbrev pub names_beside : List Field → List (List ℕ)
names_beside fields = flat_map (λ (field : Field). member_names field.name) fields

abbrev pub NamesDiffer : Printed → Type 0
NamesDiffer r = are_different (codes "kind" ∷ (names_beside (r.origin ++ r.fields) ++ (inside_name r.inside ++ names_beside r.last))) ≡ true

abbrev pub PartNamesDiffer : Part → Type 0
PartNamesDiffer part = are_different (codes "kind" ∷ names_beside part.fields) ≡ true

-- In a row of a record it is what the object of the record says.
abbrev pub SaysObject : Printed → Type 0
SaysObject r =
    (path : Path) (field : Field) → Contains (r.origin ++ r.fields ++ r.last) field → Speaks field.value
    → own_cell (Member field.name path) (shown r) ≡ said_of field.value path (member_at path field.name (json_of r))

abbrev pub SaysPart : Part → Type 0
SaysPart part =
    (path : Path) (field : Field) → Contains part.fields field → Speaks field.value
    → part_cell (Member field.name path) (Some (shown_part part)) ≡ said_of field.value path (member_at path field.name (part_json part))

abbrev pub CellsSayObjects : Type 0
CellsSayObjects = (r : Printed) → NamesDiffer r → SaysObject r

abbrev pub CellsSayParts : Type 0
CellsSayParts = (part : Part) → PartNamesDiffer part → SaysPart part

-- The kind of a record has no blank, and is a word without commas.
pub record IsKind (kind : List ℕ) : Type 0 where
  pub alone : kind_alone kind ≡ kind
  pub word : IsWord kind
  pub comma : list_all (λ c. not (c == 0x2C)) kind ≡ true

abbrev pub KindsSayObjects : Type 0
KindsSayObjects = (r : Printed) → IsKind r.kind → own_cell Kind (shown r) ≡ said [] (member_of (codes "kind") (json_of r))

-- Of what is inside a cell has the kinds, as a list of strings.
abbrev pub kinds_in : Items → List (List ℕ)
kinds_in no_items = []
kinds_in (item json others) = item_said (member_of (codes "kind") json) ∷ kinds_in others

abbrev pub kinds_said : Json → List ℕ
kinds_said (array items) = list_cell (kinds_in items)
kinds_said json = codes "-"

abbrev pub InsideSaysObjects : Type 0
InsideSaysObjects =
    (r : Printed) (parts : List Part) → NamesDiffer r → r.inside ≡ Some parts → AllByRecursion (λ (p : Part). IsKind p.kind) parts → own_cell Inside (shown r) ≡ kinds_said (member_of (codes "inside") (json_of r))

-- ---- members of one type that are no objects; null is of each type
pub data MemberType : Type 0 where
  Truths : MemberType
  Numbers : MemberType
  Strings : MemberType
  NumberLists : MemberType
  StringLists : MemberType

abbrev pub are_numbers : Items → Bool
are_numbers no_items = true
are_numbers (item null others) = are_numbers others
are_numbers (item (number digits) others) = are_numbers others
are_numbers (item other others) = false

abbrev pub are_strings : Items → Bool
are_strings no_items = true
are_strings (item null others) = are_strings others
are_strings (item (string text) others) = are_strings others
are_strings (item other others) = false

abbrev pub is_of : MemberType → Json → Bool
is_of type null = true
is_of Truths (boolean holds) = true
is_of Numbers (number digits) = true
is_of Strings (string text) = true
is_of NumberLists (array items) = are_numbers items
is_of StringLists (array items) = are_strings items
is_of type json = false

-- the name of a file is none of the texts that cells have of no string
abbrev pub IsUnmistaken : Value → Type 0
IsUnmistaken (FileName octets) = is_mistaken octets ≡ false
IsUnmistaken value = Unit {0}

-- Two members of one type that differ have cells that differ.
abbrev pub MembersAreApart : Type 0
MembersAreApart =
    (type : MemberType) (path : Path) (one other : Field) → Speaks one.value → Speaks other.value → IsUnmistaken one.value → IsUnmistaken other.value → is_of type (member_at path one.name (object_with one)) ≡ true → is_of type (member_at path other.name (object_with other)) ≡ true
    → cell path one.value ≡ cell path other.value → member_at path one.name (object_with one) ≡ member_at path other.name (object_with other)
