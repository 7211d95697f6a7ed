-- What reading a line gives: the octets of the message that it spells, or its first fault.
use Rattle.std.specs.Prelude.{ℕ, ◌≡◌, List, codes, Option, Some, None, IfSome, Result, Ok, Err, string_bytes}
use Rattle.std.specs.Option.{option_map_or}
use Rattle.krb_msg.specs.Views.{message_der}
use Rattle.krb_msg.specs.declared.message.Message.{Message}
use Rattle.krb_json.specs.declared.line_fault.Fault as found
use Rattle.krb_json.specs.declared.line_fault.LineFault as read
use Rattle.krb_json.specs.declared.line_fault.LineFault.TheVariants.{NotJson, NotAMessage, At, Memory}
use Rattle.krb_json.specs.Faults.{Fault}
use Rattle.krb_json.specs.Lines as lines

-- a fault that was found
abbrev pub fault_of : found.Fault → Fault
fault_of found = record { path = string_bytes found.path; wrong = found.wrong }

-- and that of a line; out of memory, none was found
abbrev pub line_fault_of : read.LineFault → Option lines.LineFault
line_fault_of NotJson = Some lines.NotJson
line_fault_of NotAMessage = Some lines.NotAMessage
line_fault_of (At found) = Some (lines.At (fault_of found))
line_fault_of Memory = None

abbrev pub found_fault_text : found.Fault → List ℕ
found_fault_text found = lines.line_fault_text (lines.At (fault_of found))

abbrev pub read_fault_text : read.LineFault → List ℕ
read_fault_text fault = option_map_or lines.line_fault_text (line_fault_of fault) (codes "out of memory")

-- octets are those of the message that is spelled
pub record AreSpelled (spells : Result Message lines.LineFault) (octets : List ℕ) : Type 0 where
  pub message : Message
  pub spelled : spells ≡ Ok message
  pub form : octets ≡ message_der message

-- a fault is the one that there is in place of a message; out of memory, nothing is said
abbrev pub IsFaultOf : Result Message lines.LineFault → read.LineFault → Type 0
IsFaultOf spells fault = IfSome (line_fault_of fault) (λ found. spells ≡ Err found)
