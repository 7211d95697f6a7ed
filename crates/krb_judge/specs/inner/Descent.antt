-- The contracts of the functions that find the field at fault.
use Rattle.std.specs.Prelude.{ℕ, ◌≡◌, ◌+◌, ◌^◌, ◌<◌, ◌≤◌, false, List, length, Option, Some, None}
use Rattle.krb_msg.specs.Judgement.{Head, Got}
use Rattle.krb_msg.specs.Nodes.{nodes, term_at}
use Rattle.krb_msg.specs.Shape.{depth, depth_of_fields}
use Rattle.krb_msg.specs.Table.{IsNode, with_slot}
use Rattle.krb_msg.specs.Term.{Term, Fields}
use Rattle.krb_msg.specs.declared.grammar.Slot.{Slot}
use Rattle.krb_judge.specs.FieldNames.{Named, field_at}
use Rattle.krb_judge.specs.Paths.{within, first_item, item_path, contents_path, fields_path, field_path, element_path}
use Rattle.krb_judge.specs.declared.locating.head.Head.{Head as Found}
use Rattle.krb_judge.specs.declared.locating.names.Names.{Names}
use Rattle.krb_judge.specs.declared.locating.Item.{Item}
use Rattle.krb_judge.specs.declared.locating.Rest.{Rest}
use Rattle.krb_judge.specs.declared.locating.Presence.{Presence}
use Rattle.krb_judge.specs.declared.locating.Presence.TheVariants as presence
use Rattle.krb_judge.specs.declared.locating.Fault.{Fault}
use Rattle.krb_judge.specs.declared.locating.Fault.TheVariants as fault
use Rattle.krb_judge.specs.declared.locating.Element.{Element}

-- a head that is accepted, with its numbers of octets, or that there is none
abbrev pub IsHeadOf : Head → Option Found → Type 0
IsHeadOf outcome None = (header size : ℕ) → outcome ≡ Got header size → ⊥
IsHeadOf outcome (Some found) = outcome ≡ Got found.header found.size

pub record IsItem (item : Item) : Type 0 where
  pub known : IsNode item.node
  pub short : item.room < 2 ^ 31
  pub present : length item.octets.now ≤ item.room

pub record IsPresent (rest : Rest) : Type 0 where
  pub short : rest.room < 2 ^ 31
  pub present : length rest.octets.now ≤ rest.room

-- an item in another
pub record IsInside (outer inner : Item) : Type 0 where
  pub item : IsItem inner
  pub shallower : depth (term_at inner.node) < depth (term_at outer.node)

-- the path in an item that has a path
abbrev pub path_in : Item → List ℕ → List ℕ
path_in item path = item_path (term_at item.node) item.names path item.room item.sole item.octets.now

abbrev pub path_on : Option Item → List ℕ → List ℕ
path_on None path = path
path_on (Some item) path = path_in item path

-- the path in the contents of an item, if they are reached
abbrev pub in_contents : Option Rest → List ℕ → (ℕ → List ℕ → List ℕ) → List ℕ
in_contents None path inside = path
in_contents (Some contents) path inside = inside contents.room contents.octets.now

-- after the first item, if it is done, and else in it
abbrev pub in_first : Term → List ℕ → Rest → Option Rest → (inside after : ℕ → List ℕ → List ℕ) → List ℕ
in_first term path rest None inside after = within term path rest.room false rest.octets.now inside
in_first term path rest (Some next) inside after = after next.room next.octets.now

-- ---- fields
-- the path in a field that has a type
abbrev pub in_field : Term → Named → List ℕ → ℕ → List ℕ → List ℕ
in_field term field path room octets = item_path term field.inside (field_path path field.name) room false octets

-- the path by whether a field is present, whatever fields are after it, and whatever their names
abbrev pub presence_path : Presence → Rest → Fields → Names → List ℕ → ℕ → List ℕ
presence_path presence.Missing rest fields names path index = field_path path (field_at names index).name
presence_path presence.Sequence rest fields names path index = path
presence_path presence.Absent rest fields names path index = fields_path fields names path (index + 1) rest.room rest.octets.now
presence_path (presence.Item node) rest fields names path index =
    first_item (term_at node) (field_path path (field_at names index).name) rest.room rest.octets.now
    (contents_path (term_at node) (field_at names index).inside (field_path path (field_at names index).name))
    (fields_path fields names path (index + 1))

pub record IsItemOfField (slot : Slot) (rest : Rest) (node : ℕ) : Type 0 where
  pub known : IsNode node
  pub some : 0 < length rest.octets.now
  pub shallow : (fields : Fields) → depth (term_at node) ≤ depth_of_fields (with_slot nodes slot fields)

abbrev pub IsPresenceFor : Slot → Rest → Presence → Type 0
IsPresenceFor slot rest presence.Missing = Unit {0}
IsPresenceFor slot rest presence.Sequence = Unit {0}
IsPresenceFor slot rest presence.Absent = Unit {0}
IsPresenceFor slot rest (presence.Item node) = IsItemOfField slot rest node

-- the path in a SEQUENCE, by what is at fault in it
abbrev pub fault_path : Fault → Names → List ℕ → List ℕ
fault_path fault.Sequence names path = path
fault_path (fault.Missing index) names path = field_path path (field_at names index).name
fault_path (fault.Inside index node rest) names path = in_field (term_at node) (field_at names index) path rest.room rest.octets.now

pub record IsFaultInside (fields : Fields) (node : ℕ) (rest : Rest) : Type 0 where
  pub known : IsNode node
  pub present : IsPresent rest
  pub shallow : depth (term_at node) ≤ depth_of_fields fields

abbrev pub IsFaultOf : Fields → Fault → Type 0
IsFaultOf fields fault.Sequence = Unit {0}
IsFaultOf fields (fault.Missing index) = Unit {0}
IsFaultOf fields (fault.Inside index node rest) = IsFaultInside fields node rest

-- ---- the items of a SEQUENCE OF
abbrev pub in_element : Term → Option Element → List ℕ → (List ℕ → ℕ → List ℕ → List ℕ) → List ℕ
in_element term None path inside = path
in_element term (Some element) path inside =
    within term (element_path path element.index) element.rest.room false element.rest.octets.now (inside (element_path path element.index))
