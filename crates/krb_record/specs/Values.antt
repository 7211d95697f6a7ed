-- What is printed, before it is text: records. A record is a kind and fields, and maybe an origin, which is fields, too; a field is a name and a value. The record of a message may have parts, which are records inside of it.
use Rattle.std.specs.Prelude.{ℕ, ℤ, pos, Bool, List, [], ◌∷◌, Option, Some, None, length}
use Rattle.std.specs.declared.net.ip_addr.IpAddr.{IpAddr}
use Rattle.krb_der.specs.declared.verdict.Refusal.{Refusal}
use Rattle.krb_source.specs.declared.endpoint.Endpoint.{Endpoint}
use Rattle.krb_registry.specs.declared.registry.Registry.{Registry}
use Rattle.krb_record.specs.declared.flow.Transport.{Transport}
use Rattle.krb_source.specs.declared.layer.Layer.{Layer}

-- A number has a name if its registry has one. Of what is encrypted, of a checksum and of a key, there is the number of octets and none of these. A flow comes from an address and a port, and goes to others. A span of time is in microseconds. What is called so has a name of its own, if it has one.
pub data Value : Type 0 where
  Absent : Value
  NoTicket : Value
  Number : (number : ℤ) → Value
  Named : (registry : Registry) → (number : ℤ) → Value
  Numbers : (registry : Registry) → (numbers : List ℤ) → Value
  ErrorCode : (code : ℤ) → Value
  Status : (number : ℕ) → Value
  Reason : (number : ℕ) → (name : List ℕ) → Value
  NoReason : Value
  String : (octets : List ℕ) → Value
  Quoted : (octets : List ℕ) → Value
  FileName : (octets : List ℕ) → Value
  Word : (text : List ℕ) → Value
  Hex : (octets : List ℕ) → Value
  Flags : (registry : Registry) → (bits : ℕ × List ℕ) → Value
  TicketFlags : (flags : ℕ) → Value
  Encrypted : (etype : ℤ) → (kvno : Option ℤ) → (size : ℕ) → Value
  Principal : (name_type : ℤ) → (components : List (List ℕ)) → (realm : List ℕ) → Value
  Address : (addr_type : ℤ) → (octets : List ℕ) → Value
  Digest : (cksumtype : ℤ) → (size : ℕ) → Value
  YesNo : (holds : Bool) → Value
  Offset : (seconds : ℤ) → (microseconds : ℤ) → Value
  RefusedTicket : (refusal : Refusal) → Value
  Flow : (transport : Transport) → (source : Endpoint) → (target : Endpoint) → Value
  Layers : (layers : List Layer) → Value
  Span : (microseconds : ℤ) → Value
  Called : (number : ℕ) → (name : Option (List ℕ)) → Value
  Host : (address : IpAddr) → Value

pub record Field : Type 0 where
  pub name : List ℕ
  pub value : Value

-- a record inside of another
pub record Part : Type 0 where
  pub kind : List ℕ
  pub fields : List Field

-- the line with names that tells of a record which may be the last one
pub record LastLine : Type 0 where
  pub origin : List Field
  pub kind : List ℕ
  pub fields : List Field

-- `inside` is told, so lines without names have nothing of it; it is None of what has no parts, of which no form has anything. `last` is what an object has after all else, and no line has any of it. `aside` is what a choice tells of the record if it is the last one and not kept, and no form that is printed has anything of it.
pub record Printed : Type 0 where
  pub origin : List Field
  pub kind : List ℕ
  pub fields : List Field
  pub inside : Option (List Part)
  pub last : List Field
  pub aside : Option LastLine

abbrev pub the : List ℕ → Value → Field
the name value = record { name = name; value = value }

abbrev pub printed : List ℕ → List Field → Printed
printed kind fields = record { origin = []; kind = kind; fields = fields; inside = None; last = []; aside = None }

abbrev pub part : List ℕ → List Field → Part
part kind fields = record { kind = kind; fields = fields }

-- the same with what is inside
abbrev pub with_inside : Option (List Part) → Printed → Printed
with_inside inside r = record r { inside = inside }

-- the same with an origin
abbrev pub line_from : List Field → Option LastLine → Option LastLine
line_from origin None = None
line_from origin (Some line) = Some (record line { origin = origin })

abbrev pub with_origin : List Field → Printed → Printed
with_origin origin r = record r { origin = origin; aside = line_from origin r.aside }

-- the same with a field before its origin, of which a choice tells nothing
abbrev pub with_first : Field → Printed → Printed
with_first field r = record r { origin = field ∷ r.origin }

-- the same with what is last
abbrev pub with_last : List Field → Printed → Printed
with_last fields r = record r { last = fields }

-- the same, of which a choice tells so much of another record, in a line with names
abbrev pub told_by : Printed → Printed → Printed
told_by named r = record r { aside = Some (record { origin = named.origin; kind = named.kind; fields = named.fields }) }

-- that of what is optional
abbrev pub if_there : {A : Type 0} → (A → Value) → Option A → Value
if_there value None = Absent
if_there value (Some a) = value a

-- how many there are
abbrev pub count : {A : Type 0} → List A → Value
count values = Number (pos (length values))
