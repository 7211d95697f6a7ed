-- The line of a message, and the message that a line spells, or its first fault.
use Rattle.std.specs.Prelude.{ℕ, nat_lt, if◌then◌else◌, List, [], ◌∷◌, ◌++◌, length, codes, find, Option, Some, None, Result, Ok, Err}
use Rattle.std.specs.Option.{option_and_then}
use Rattle.std.specs.Str.{bytes_eq, is_utf8}
use Rattle.json.specs.Json.{Json, Members, no_members, member, document}
use Rattle.json.specs.Find.{as_object}
use Rattle.json.specs.Print.{print}
use Rattle.json.specs.Tree.{json_tokens}
use Rattle.krb_der.specs.declared.profile.Profile.{Profile}
use Rattle.krb_msg.specs.Term.{der}
use Rattle.krb_msg.specs.Views.{message_of_der}
use Rattle.krb_msg.specs.Views.{kind_name, kind_term_in}
use Rattle.krb_msg.specs.declared.message.Kind.{Kind}
use Rattle.krb_msg.specs.declared.message.Message.{Message}
use Rattle.krb_judge.specs.FieldNames.{names_of_kind}
use Rattle.krb_json.specs.AllKinds.{kinds}
use Rattle.krb_json.specs.declared.wrong.Wrong.TheVariants.{Longer}
use Rattle.krb_json.specs.Faults.{Fault, ◌>>=◌, wrong_text}
use Rattle.krb_json.specs.Objects.{message_json}
use Rattle.krb_json.specs.Spelled.{spelled, unless}

-- the text of a message, and its line
abbrev pub message_text : Message → List ℕ
message_text m = print (json_tokens (message_json m))

abbrev pub line_of : Message → List ℕ
line_of m = message_text m ++ 10 ∷ []

-- ---- and back
-- why a line spells no message
pub data LineFault : Type 0 where
  NotJson : LineFault
  NotAMessage : LineFault
  At : Fault → LineFault

abbrev pub line_fault_text : LineFault → List ℕ
line_fault_text NotJson = codes "not JSON; each line is a whole object"
line_fault_text NotAMessage = codes "not an object whose one member is a message"
line_fault_text (At fault) = fault.path ++ codes ": " ++ wrong_text fault.wrong

-- the value that a line is, if it is UTF-8 and JSON (RFC 8259)
abbrev pub value_of_line : List ℕ → Option Json
value_of_line text = if is_utf8 text then document text else None

-- the member of an object that has just one
abbrev pub sole_member : Members → Option (List ℕ × Json)
sole_member no_members = None
sole_member (member name j no_members) = Some (name, j)
sole_member (member name j (member other k others)) = None

-- the kind of the messages that have a name
abbrev pub kind_named : List ℕ → Option Kind
kind_named name = find (λ kind. bytes_eq (kind_name kind) name) kinds

-- the message whose DER octets are, if they are no more than a limit
abbrev pub within : (limit : ℕ) → Kind → List ℕ → Result Message Fault
within limit kind octets = unless (nat_lt limit (length octets)) (kind_name kind) (Longer limit) (Ok (message_of_der octets))

-- the message of a kind and of a profile that a value spells
abbrev pub message_spelled : Profile → (limit : ℕ) → Kind → Json → Result Message Fault
message_spelled profile limit kind j =
    spelled (kind_term_in profile kind) (names_of_kind kind) (kind_name kind) j >>= λ value. within limit kind (der (kind_term_in profile kind) value)

abbrev pub in_line : {A : Type 0} → Result A Fault → Result A LineFault
in_line (Ok value) = Ok value
in_line (Err fault) = Err (At fault)

abbrev pub named_spells : Profile → (limit : ℕ) → Json → Option Kind → Result Message LineFault
named_spells profile limit j None = Err NotAMessage
named_spells profile limit j (Some kind) = in_line (message_spelled profile limit kind j)

abbrev pub member_spells : Profile → (limit : ℕ) → Option (List ℕ × Json) → Result Message LineFault
member_spells profile limit None = Err NotAMessage
member_spells profile limit (Some sole) = named_spells profile limit sole.1 (kind_named sole.0)

abbrev pub value_spells : Profile → (limit : ℕ) → Option Json → Result Message LineFault
value_spells profile limit None = Err NotJson
value_spells profile limit (Some j) = member_spells profile limit (option_and_then sole_member (as_object j))

-- the message of a profile, of no more octets than a limit, that a line spells; its line feed is not part of it
abbrev pub line_spells : Profile → (limit : ℕ) → List ℕ → Result Message LineFault
line_spells profile limit text = value_spells profile limit (value_of_line text)
