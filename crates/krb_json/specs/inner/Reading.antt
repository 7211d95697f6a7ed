-- What reading a value of JSON gives: contents octets are appended, or there is a fault, whose path follows that of the value.
use Rattle.std.specs.Prelude.{ℕ, ◌≡◌, ⊤, List, ◌++◌, Bool, Result, Ok, Err, string_bytes}
use Rattle.std.specs.Global.{Vec}
use Rattle.json.specs.Json.{Members}
use Rattle.krb_msg.specs.Nodes.{term_at}
use Rattle.krb_msg.specs.Term.{Fields, der, der_of_fields, octets_of_option}
use Rattle.krb_msg.specs.declared.grammar.Slot.{Slot}
use Rattle.krb_msg.specs.declared.grammar.Slot.TheVariants as slot
use Rattle.krb_msg.specs.declared.message.Message.{Message}
use Rattle.krb_judge.specs.Named.{Named}
use Rattle.krb_judge.specs.declared.locating.names.Names.{Names}
use Rattle.krb_json.specs.Faults.{Fault, fault}
use Rattle.krb_json.specs.Spelled.{is_field, is_bits_field, required, optional, spelled, fields_spelled}
use Rattle.krb_json.specs.Lines as lines
use Rattle.krb_json.specs.Reading.{AreSpelled, IsFaultOf}
use Rattle.krb_json.specs.declared.line_fault.LineFault.{LineFault}
use Rattle.krb_json.specs.declared.wrong.Wrong.{Wrong}
use Rattle.krb_json.specs.declared.value_fault.ValueFault.{ValueFault}
use Rattle.krb_json.specs.declared.value_fault.ValueFault.TheVariants.{At, Memory}
use Rattle.krb_json.specs.declared.members.Allowed.{Allowed}
use Rattle.krb_json.specs.declared.members.Allowed.TheVariants as allowed

-- a value is spelled, whatever its path, and its octets were appended
pub record IsRead {A : Type 0} (read : (path : List ℕ) → Result A Fault) (octets_of : A → List ℕ) (old new : List ℕ) : Type 0 where
  pub value : A
  pub spelled : (path : List ℕ) → read path ≡ Ok value
  pub octets : new ≡ old ++ octets_of value

-- what a function that reads a value returns; nothing is said if it is out of memory
abbrev pub Reads : {A : Type 0} → (read : (path : List ℕ) → Result A Fault) → (octets_of : A → List ℕ) → (old new : List ℕ) → Result (Unit {0}) ValueFault → Type 0
Reads read octets_of old new (Ok done) = IsRead read octets_of old new
Reads read octets_of old new (Err (At found)) = (path : List ℕ) → read path ≡ fault (path ++ string_bytes found.path) found.wrong
Reads read octets_of old new (Err Memory) = ⊤

-- a field of a name and of a type, in the members of an object
abbrev pub ReadsField : Slot → Named → Members → (old new : List ℕ) → Result (Unit {0}) ValueFault → Type 0
ReadsField (slot.Required node) field members old new outcome =
    Reads (λ path. required (spelled (term_at node) field.inside) path field.name members) (der (term_at node)) old new outcome
ReadsField (slot.Optional node) field members old new outcome =
    Reads (λ path. optional (spelled (term_at node) field.inside) path field.name members) (octets_of_option (der (term_at node))) old new outcome

-- and fields, of which the first is the one at an index
abbrev pub ReadsFields : (fields : Fields) → Names → (index : ℕ) → Members → (old new : List ℕ) → Result (Unit {0}) ValueFault → Type 0
ReadsFields fields names index members old new outcome = Reads (λ path. fields_spelled fields names path index members) (der_of_fields fields) old new outcome

-- what a function returns that reads the message which is spelled, if one is
abbrev pub ReadsLine : Result Message lines.LineFault → Result (Vec ℕ) LineFault → Type 0
ReadsLine spells (Ok octets) = AreSpelled spells octets.items
ReadsLine spells (Err fault) = IsFaultOf spells fault

-- a fault with what the path has after that of the value
abbrev pub IsFaultAt : (more : List ℕ) → Wrong → ValueFault → Type 0
IsFaultAt more wrong (At found) = (string_bytes found.path ≡ more) × (found.wrong ≡ wrong)
IsFaultAt more wrong Memory = ⊤

-- what was found in a part of a value, as a fault of the value: more comes before its path
abbrev pub IsUnder : {A : Type 0} → (more : List ℕ) → Result A ValueFault → Result A ValueFault → Type 0
IsUnder more (Ok value) outer = outer ≡ Ok value
IsUnder more (Err Memory) outer = outer ≡ Err Memory
IsUnder more (Err (At found)) (Ok value) = ⊥
IsUnder more (Err (At found)) (Err outer) = IsFaultAt (more ++ string_bytes found.path) found.wrong outer

-- whether an object may have a member of a name
abbrev pub is_allowed : Allowed → (name : List ℕ) → Bool
is_allowed (allowed.Fields names) name = is_field names name
is_allowed allowed.Bits name = is_bits_field name
