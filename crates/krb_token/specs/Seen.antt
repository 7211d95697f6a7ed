-- The types of this crate as what the definitions speak of.
use Rattle.std.specs.Prelude.{ℕ, ◌+◌, ◌^◌, ◌<◌, ◌≤◌, ◌≡◌, List, [], ◌∷◌, length, Option, Some, None}
use Rattle.std.specs.Option.{option_map}
use Rattle.krb_der.specs.declared.verdict.Refusal.{Refusal}
use Rattle.krb_judge.specs.Paths.{element_path}
use Rattle.krb_token.specs.Items.{Item}
use Rattle.krb_token.specs.Opened.{Part, Fault, Found, Opened, Message, Ticket, Ntlm, Refused}
use Rattle.krb_token.specs.Spnego.{Holds, Fields, One, Many, Token, OctetsOr, End, Field, neg_hints}
use Rattle.krb_token.specs.declared.fields.Field.{Field as FieldOfCode}
use Rattle.krb_token.specs.declared.fields.Holds.{Holds as HoldsOfCode}
use Rattle.krb_token.specs.declared.fields.Holds.TheVariants as holds
use Rattle.krb_token.specs.declared.item.Part.{Part as PartOfCode}
use Rattle.krb_token.specs.declared.item.Item.{Item as ItemOfCode}
use Rattle.krb_token.specs.declared.opening.Found.{Found as FoundOfCode}
use Rattle.krb_token.specs.declared.opening.Found.TheVariants as found
use Rattle.krb_token.specs.declared.opening.Opened.{Opened as OpenedOfCode}
use Rattle.krb_token.specs.declared.path.TokenPath.{TokenPath}
use Rattle.krb_token.specs.declared.path.TokenFault.{TokenFault}

abbrev pub path_at : List ℕ → Option ℕ → List ℕ
path_at name None = name
path_at name (Some index) = element_path name index

-- what a path prints
abbrev pub path_text : TokenPath → List ℕ
path_text path = path_at path.name.now path.index

abbrev pub fault_at : Refusal → Option TokenPath → Fault
fault_at refusal path = record { place = refusal.place; why = refusal.why; path = option_map path_text path }

abbrev pub fault_of : TokenFault → Fault
fault_of fault = fault_at fault.refusal fault.path

abbrev pub part_of : PartOfCode → Part
part_of part = record { place = part.place; octets = part.octets.now }

abbrev pub item_of : ItemOfCode → Item
item_of item = record { contents = part_of item.contents; rest = part_of item.rest }

abbrev pub token_of : Option PartOfCode → Option Part
token_of token = option_map part_of token

abbrev pub holds_of : HoldsOfCode → Holds
holds_of (holds.One type) = One type
holds_of (holds.Many type) = Many type
holds_of holds.Token = Token
holds_of holds.OctetsOrHints = OctetsOr neg_hints

abbrev pub fields_of : List FieldOfCode → Fields
fields_of [] = End
fields_of (field ∷ fields) = Field field.tag field.path.now (holds_of field.holds) (fields_of fields)

abbrev pub found_of : FoundOfCode → Found
found_of (found.Message place octets) = Message (record { place = place; octets = octets.now })
found_of (found.Ticket octets) = Ticket
found_of (found.Ntlm place) = Ntlm place
found_of (found.Refused refusal path) = Refused (fault_at refusal path)

abbrev pub opened_of : OpenedOfCode → Opened
opened_of opened = record { layers = opened.layers.now; found = found_of opened.found }

-- ---- parts of fewer than 2147483648 octets
abbrev pub IsShort : PartOfCode → Type 0
IsShort part = part.place + length part.octets.now < 2 ^ 31

-- an item lies in a part: its contents are after at least two octets, and followed by the rest, which ends the part
pub record IsItemOf (part : PartOfCode) (item : ItemOfCode) : Type 0 where
  pub header : part.place + 2 ≤ item.contents.place
  pub contents : item.contents.place + length item.contents.octets.now ≡ item.rest.place
  pub rest : item.rest.place + length item.rest.octets.now ≡ part.place + length part.octets.now

-- what is found in a layer: a message is short, and no Ticket is found
abbrev pub IsInLayer : FoundOfCode → Type 0
IsInLayer (found.Message place octets) = place + length octets.now < 2 ^ 31
IsInLayer (found.Ticket octets) = ⊥
IsInLayer (found.Ntlm place) = Unit {0}
IsInLayer (found.Refused refusal path) = Unit {0}

-- a message that is found is short, and a Ticket is all octets
abbrev pub IsShortFound : FoundOfCode → Type 0
IsShortFound (found.Message place octets) = place + length octets.now < 2 ^ 31
IsShortFound (found.Ticket octets) = Unit {0}
IsShortFound (found.Ntlm place) = Unit {0}
IsShortFound (found.Refused refusal path) = Unit {0}

abbrev pub IsAll : List ℕ → FoundOfCode → Type 0
IsAll octets (found.Message place message) = Unit {0}
IsAll octets (found.Ticket ticket) = ticket.now ≡ octets
IsAll octets (found.Ntlm place) = Unit {0}
IsAll octets (found.Refused refusal path) = Unit {0}
