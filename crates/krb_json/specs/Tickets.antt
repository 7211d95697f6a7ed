-- A Ticket by itself as JSON, an object of one member, as a message is; and the octets of the message or the Ticket that a line spells.
use Rattle.std.specs.Prelude.{ℕ, nat_lt, false, ◌≡◌, if◌then◌else◌, List, length, codes, Option, Some, None, IfSome, Result, Ok, Err}
use Rattle.std.specs.Option.{option_and_then}
use Rattle.std.specs.Str.{bytes_eq}
use Rattle.json.specs.Json.{Json, object, member, no_members}
use Rattle.json.specs.Find.{as_object}
use Rattle.json.specs.Print.{print}
use Rattle.json.specs.Tree.{json_tokens}
use Rattle.krb_der.specs.declared.profile.Profile.{Profile}
use Rattle.krb_msg.specs.Grammar.{ticket}
use Rattle.krb_msg.specs.Profiles.{profile_term}
use Rattle.krb_msg.specs.Term.{Value, der}
use Rattle.krb_msg.specs.Views.{message_der}
use Rattle.krb_msg.specs.declared.message.Message.{Message}
use Rattle.krb_judge.specs.declared.locating.names.Names.TheVariants as names
use Rattle.krb_json.specs.declared.line_fault.LineFault as read
use Rattle.krb_json.specs.declared.wrong.Wrong.TheVariants.{Longer}
use Rattle.krb_json.specs.Faults.{Fault, ◌>>=◌}
use Rattle.krb_json.specs.Lines.{LineFault, NotAMessage, NotJson, in_line, sole_member, value_of_line, value_spells}
use Rattle.krb_json.specs.Objects.{json}
use Rattle.krb_json.specs.Reading.{line_fault_of}
use Rattle.krb_json.specs.Spelled.{spelled, unless}

abbrev pub ticket_name : List ℕ
ticket_name = codes "Ticket"

abbrev pub ticket_json : Value ticket → Json
ticket_json value = object (member ticket_name (json ticket names.Ticket value) no_members)

-- its text
abbrev pub ticket_text : Value ticket → List ℕ
ticket_text value = print (json_tokens (ticket_json value))

-- ---- and back
-- octets, if they are no more than a limit
abbrev pub ticket_within : (limit : ℕ) → List ℕ → Result (List ℕ) Fault
ticket_within limit octets = unless (nat_lt limit (length octets)) ticket_name (Longer limit) (Ok octets)

-- the octets of the Ticket of a profile that a value spells
abbrev pub ticket_spelled : Profile → (limit : ℕ) → Json → Result (List ℕ) Fault
ticket_spelled profile limit j =
    spelled (profile_term profile false ticket) names.Ticket ticket_name j >>= λ value. ticket_within limit (der (profile_term profile false ticket) value)

-- the octets of a message that is spelled
abbrev pub as_octets : Result Message LineFault → Result (List ℕ) LineFault
as_octets (Ok m) = Ok (message_der m)
as_octets (Err fault) = Err fault

-- a Ticket, if the one member has its name, and else a message
abbrev pub member_octets : Profile → (limit : ℕ) → Json → Option (List ℕ × Json) → Result (List ℕ) LineFault
member_octets profile limit j None = Err NotAMessage
member_octets profile limit j (Some sole) =
    if bytes_eq sole.0 ticket_name then in_line (ticket_spelled profile limit sole.1) else as_octets (value_spells profile limit (Some j))

abbrev pub value_octets : Profile → (limit : ℕ) → Option Json → Result (List ℕ) LineFault
value_octets profile limit None = Err NotJson
value_octets profile limit (Some j) = member_octets profile limit j (option_and_then sole_member (as_object j))

-- the octets of the message or the Ticket of a profile, no more than a limit, that a line spells
abbrev pub line_octets : Profile → (limit : ℕ) → List ℕ → Result (List ℕ) LineFault
line_octets profile limit text = value_octets profile limit (value_of_line text)

-- a fault is the one that there is in place of octets; out of memory, nothing is said
abbrev pub IsFaultIn : Result (List ℕ) LineFault → read.LineFault → Type 0
IsFaultIn spells fault = IfSome (line_fault_of fault) (λ found. spells ≡ Err found)
