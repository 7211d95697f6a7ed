-- The fields of files: the octets that spell each of them, and how they are read from left to right, up to the first fault.
use Rattle.std.specs.Prelude.{ℕ, zero, suc, ℤ, ◌+◌, ◌-◌, ◌*◌, ◌^◌, ◌<◌, ◌≤◌, ◌≡◌, Bool, true, false, ◌==◌, nat_lt, nat_le, Option, Some, None, Result, Ok, Err, List, [], ◌∷◌, ◌++◌, length, take, drop}
use Rattle.std.specs.List.{flat_map, list_all, list_any, AllByRecursion}
use Rattle.std.specs.Int.{Width, w8, byte_len, from_be_bytes, to_be_bytes, cast_signed, cast_unsigned}
use Rattle.krb_der.specs.Octets.{when, AreOctets}
use Rattle.krb_source.specs.declared.file_why.FileWhy.{FileWhy}
use Rattle.krb_source.specs.declared.file_why.FileWhy.TheVariants as why
use Rattle.krb_file.specs.declared.fault.FileRefusal.{FileRefusal}
use Rattle.krb_file.specs.declared.fault.FileFault.{FileFault}
use Rattle.krb_file.specs.declared.fault.FileFault.TheVariants as faults
use Rattle.krb_file.specs.declared.field_name.FieldName.{FieldName}
use Rattle.krb_file.specs.declared.field_name.FieldName.TheVariants as fields
use Rattle.krb_file.specs.declared.field_name.FilePart.{FilePart}
use Rattle.krb_file.specs.declared.field_name.FileField.{FileField}

-- ---- Spelling. Numbers are big-endian.

abbrev pub signed : Width → ℤ → List ℕ
signed width z = to_be_bytes width (cast_unsigned width z)

-- octets after their length
abbrev pub counted : Width → List ℕ → List ℕ
counted width octets = to_be_bytes width (length octets) ++ octets

-- The number of components, the realm, and the components.
pub record Names : Type 0 where
  pub realm : List ℕ
  pub components : List (List ℕ)

abbrev pub names : Width → Names → List ℕ
names width n = to_be_bytes width (length n.components) ++ counted width n.realm ++ flat_map (counted width) n.components

abbrev pub zeros : ℕ → List ℕ
zeros zero = []
zeros (suc n) = 0 ∷ zeros n

abbrev pub are_zero : List ℕ → Bool
are_zero octets = list_all (λ octet. octet == 0) octets

-- ---- Which values have a spelling.

abbrev pub bound_of : Width → ℕ
bound_of width = 2 ^ (8 * byte_len width)

pub record IsCounted (width : Width) (octets : List ℕ) : Type 0 where
  pub short : length octets < bound_of width
  pub are_octets : AreOctets octets

pub record AreNames (width : Width) (n : Names) : Type 0 where
  pub few : length n.components < bound_of width
  pub realm : IsCounted width n.realm
  pub components : AllByRecursion (IsCounted width) n.components

-- ---- Reading. A source: the octets of a file that are not read yet, and the place of the first of them.

pub record Source : Type 0 where
  pub place : ℕ
  pub octets : List ℕ

abbrev pub is_empty : List ℕ → Bool
is_empty [] = true
is_empty (octet ∷ octets) = false

-- the source of a whole file
abbrev pub source_of : List ℕ → Source
source_of file = record { place = 0; octets = file }

-- A fault of the octets. The part of the file that it is in is a record, a credential, a principal or a field of the header; else it is the field itself.
abbrev pub Fault : Type 0
Fault = FileRefusal

-- What bounds a field: the place at which its entry or header ends, and the greatest length of a field of octets.
pub record Bounds : Type 0 where
  pub end : Option ℕ
  pub limit : Option ℕ

abbrev pub limited : Option ℕ → Bounds
limited limit = record { end = None; limit = limit }

abbrev pub ended : Option ℕ → Bounds
ended end = record { end = end; limit = None }

abbrev pub Reader : Type 0 → Type 0
Reader A = Bounds → Source → Result (A × Source) Fault

abbrev pub and_then : {A B : Type 0} → Result A Fault → (A → Result B Fault) → Result B Fault
and_then (Ok value) next = next value
and_then (Err fault) next = Err fault

infixl 10 ◌>>=◌
abbrev pub ◌>>=◌ : {A B : Type 0} → Reader A → (A → Reader B) → Reader B
first >>= next = λ bounds source. and_then (first bounds source) (λ read. next read.0 bounds read.1)

abbrev pub succeed : {A : Type 0} → A → Reader A
succeed value = λ bounds source. Ok (value, source)

-- a fault of the field at a place, as long as no reader names the field or tells what it is in
abbrev pub fault_of : ℕ → FileWhy → Fault
fault_of place reason = record { place = place; why = reason; field = None; begin = place }

abbrev pub refused : {A : Type 0} → Source → FileWhy → Result A Fault
refused source reason = Err (fault_of source.place reason)

-- ---- Which field is at fault.

-- the field of this name, in no part
abbrev pub with_name : FieldName → Option FileField → Option FileField
with_name name field = Some (record { part = None; name = name })

-- the same field, in this part
abbrev pub with_part : FilePart → Option FileField → Option FileField
with_part part None = None
with_part part (Some field) = Some (record field { part = Some part })

abbrev pub refused_at : {A : Type 0} → (Option FileField → Option FileField) → Result A Fault → Result A Fault
refused_at field (Ok value) = Ok value
refused_at field (Err fault) = Err (record fault { field = field fault.field })

-- the same reader, whose faults are of the field of this name
abbrev pub called : {A : Type 0} → FieldName → Reader A → Reader A
called name reader = λ bounds source. refused_at (with_name name) (reader bounds source)

-- ---- Where the part of the file begins that a fault is in.

abbrev pub begun_at : {A : Type 0} → ℕ → Result A Fault → Result A Fault
begun_at place (Ok value) = Ok value
begun_at place (Err fault) = Err (record fault { begin = place })

-- the same reader, which reads one part of the file: its faults are in a part that begins where it begins
abbrev pub one_part : {A : Type 0} → Reader A → Reader A
one_part reader = λ bounds source. begun_at source.place (reader bounds source)

-- the same reader, whose fields are in this part
abbrev pub in_part : {A : Type 0} → FilePart → Reader A → Reader A
in_part part reader = one_part (λ bounds source. refused_at (with_part part) (reader bounds source))

-- ---- Readers of fields.

abbrev pub exceeds : ℕ → Option ℕ → Bool
exceeds n None = false
exceeds n (Some most) = nat_lt most n

-- the next n octets, at most `limit` of them: Overrun, then TooLong, then Truncated
abbrev pub next_octets_at : Option ℕ → ℕ → Reader (List ℕ)
next_octets_at limit size = λ bounds source.
    when (exceeds (source.place + size) bounds.end) (λ _. refused source why.Overrun) (λ _.
    when (exceeds size limit) (λ _. refused source (why.TooLong size)) (λ _.
    when (nat_lt (length source.octets) size) (λ _. refused source why.Truncated) (λ _.
    Ok (take size source.octets, record { place = source.place + size; octets = drop size source.octets }))))

-- a field of octets; the field limit applies to these fields alone
abbrev pub octets_at : ℕ → Reader (List ℕ)
octets_at size = λ bounds source. next_octets_at bounds.limit size bounds source

abbrev pub number_at : Width → Reader ℕ
number_at width = do
  octets ← next_octets_at None (byte_len width)
  succeed (from_be_bytes width octets)

abbrev pub signed_at : Width → Reader ℤ
signed_at width = do
  n ← number_at width
  succeed (cast_signed width n)

abbrev pub counted_at : Width → Reader (List ℕ)
counted_at width = do
  size ← number_at width
  octets_at size

-- n items, each read by its index, from 0
abbrev pub times : {A : Type 0} → ℕ → (ℕ → Reader A) → Reader (List A)
times zero item_at = succeed []
times (suc n) item_at = do
  first ← item_at 0
  others ← times n (λ index. item_at (suc index))
  succeed (first ∷ others)

abbrev pub component_at : Width → ℕ → Reader (List ℕ)
component_at width index = called (fields.Component index) (counted_at width)

abbrev pub names_at : Width → Reader Names
names_at width = do
  count ← called fields.ComponentCount (number_at width)
  realm ← called fields.Realm (counted_at width)
  components ← times count (component_at width)
  succeed (record { realm = realm; components = components })

-- the number of octets up to the end of the entry or the header
abbrev pub octets_to_end : Option ℕ → ℕ → ℕ
octets_to_end None place = 0
octets_to_end (Some end) place = end - place

abbrev pub rest_at : Reader (List ℕ)
rest_at = λ bounds source. octets_at (octets_to_end bounds.end source.place) bounds source

-- the same reader, in an entry or a header that has n octets
abbrev pub within : {A : Type 0} → ℕ → Reader A → Reader A
within size inner = λ bounds source. inner (record { end = Some (source.place + size); limit = bounds.limit }) source

-- whether the entry or the header is read to its end
abbrev pub reaches : ℕ → Option ℕ → Bool
reaches place None = false
reaches place (Some end) = nat_le end place

abbrev pub is_at_end : Bounds → Source → Bool
is_at_end bounds source = reaches source.place bounds.end

abbrev pub is_one_of : ℕ → List ℕ → Bool
is_one_of octet wanted = list_any (λ other. octet == other) wanted

-- an octet that is one of `wanted`
abbrev pub expect : List ℕ → FileWhy → Reader ℕ
expect wanted reason = λ bounds source.
    and_then (number_at w8 bounds source) (λ read. when (is_one_of read.0 wanted) (λ _. Ok read) (λ _. refused source reason))

-- the first two octets of a file: 5, and one of these versions
abbrev pub version_at : List ℕ → Reader ℕ
version_at versions = do
  five ← called fields.Magic (expect (5 ∷ []) why.Magic)
  called fields.Version (expect versions why.Version)

-- ---- Results of functions. The result of a function, seen by `view`, agrees with that of a definition unless the function ran out of memory.

abbrev pub Fails : {B : Type 0} → FileFault → Result B Fault → Type 0
Fails (faults.Refused fault) read = read ≡ Err fault
Fails faults.Read read = ⊥
Fails faults.Memory read = Unit {0}

abbrev pub Agrees : {A B : Type 0} → (A → B) → Result A FileFault → Result B Fault → Type 0
Agrees view (Ok x) read = read ≡ Ok (view x)
Agrees view (Err e) read = Fails e read

-- the same result, whose fault is of another field
abbrev pub fault_at : (Option FileField → Option FileField) → FileFault → FileFault
fault_at field (faults.Refused fault) = faults.Refused (record fault { field = field fault.field })
fault_at field faults.Read = faults.Read
fault_at field faults.Memory = faults.Memory

abbrev pub fails_at : {A : Type 0} → (Option FileField → Option FileField) → Result A FileFault → Result A FileFault
fails_at field (Ok value) = Ok value
fails_at field (Err fault) = Err (fault_at field fault)

-- the same result, whose fault is in a part that begins at this place
abbrev pub fault_begun : ℕ → FileFault → FileFault
fault_begun place (faults.Refused fault) = faults.Refused (record fault { begin = place })
fault_begun place faults.Read = faults.Read
fault_begun place faults.Memory = faults.Memory

abbrev pub fails_begun : {A : Type 0} → ℕ → Result A FileFault → Result A FileFault
fails_begun place (Ok value) = Ok value
fails_begun place (Err fault) = Err (fault_begun place fault)

-- A fault of reading a whole file, to which no limit applies: a refusal at a place of the file or at its end, not as TooLong, or out of memory.
abbrev pub IsFaultIn : List ℕ → FileFault → Type 0
IsFaultIn file (faults.Refused fault) = (fault.place ≤ length file) × ((size : ℕ) → fault.why ≡ why.TooLong size → ⊥)
IsFaultIn file faults.Read = ⊥
IsFaultIn file faults.Memory = Unit {0}

-- A fault of reading a file as it comes: a refusal at a place of the file or at its end, a read that failed, or out of memory.
abbrev pub IsStreamFaultIn : List ℕ → FileFault → Type 0
IsStreamFaultIn file (faults.Refused fault) = fault.place ≤ length file
IsStreamFaultIn file faults.Read = Unit {0}
IsStreamFaultIn file faults.Memory = Unit {0}
