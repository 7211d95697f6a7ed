-- The messages that lines spell, up to the end or to the first fault.
use Rattle.std.specs.Prelude.{ℕ, ◌+◌, ◌*◌, ◌≤◌, ◌&&◌, nat_lt, not, Bool, true, false, List, [], ◌∷◌, length, Option, Some, Result, Ok, Err}
use Rattle.krb_der.specs.Octets.{when}
use Rattle.krb_der.specs.declared.profile.Profile.{Profile}
use Rattle.krb_frame.specs.Frame.{framed}
use Rattle.krb_json.specs.Lines.{LineFault, line_spells}
use Rattle.krb_json.specs.Reading.{line_fault_of}
use Rattle.krb_json.specs.Tickets.{as_octets, line_octets}
use Rattle.krb_run.specs.TextLines.{parts, lines_of, ended_of, last_of, is_blank_line}
use Rattle.krb_run.specs.Conversions.{Converted, after_text, Converts, FailsToConvert}
use Rattle.krb_run.specs.declared.run.RunFault.{RunFault}
use Rattle.krb_convert.specs.declared.encode_run.EncodeEnd.{EncodeEnd}
use Rattle.krb_convert.specs.declared.encode_run.EncodeEnd.TheVariants as ends

-- How an encoding ends: each line is read; or a line, by its number from 1, is at fault, or too long, or has a second message where one is allowed; or there is no message where one has to be.
pub data Ending : Type 0 where
  All : Ending
  Faulty : (line : ℕ) → Option LineFault → Ending
  LongLine : (line most : ℕ) → Ending
  SecondMessage : (line : ℕ) → Ending
  NoMessage : Ending

abbrev pub ending_of : EncodeEnd → Ending
ending_of ends.Clean = All
ending_of (ends.Fault line fault) = Faulty line (line_fault_of fault)
ending_of (ends.LongLine line most) = LongLine line most
ending_of (ends.SecondMessage line) = SecondMessage line
ending_of ends.NoMessage = NoMessage

-- ---- messages
-- The octets of a message as they are written: after their number, or, if there is just one message, alone.
abbrev pub written_as : (is_framed : Bool) → List ℕ → List ℕ
written_as true octets = framed octets
written_as false octets = octets

-- The octets that a line spells: of a message, or, if there is just one, maybe of a Ticket.
abbrev pub line_spelled : (is_framed : Bool) → Profile → (limit : ℕ) → List ℕ → Result (List ℕ) LineFault
line_spelled true profile limit line = as_octets (line_spells profile limit line)
line_spelled false profile limit line = line_octets profile limit line

-- these before others, or the fault of the line
abbrev pub message_and : (is_framed : Bool) → (number : ℕ) → Result (List ℕ) LineFault → Converted Ending → Converted Ending
message_and is_framed number (Ok octets) others = after_text (written_as is_framed octets) others
message_and is_framed number (Err fault) others = record { text = []; end = Faulty number (Some fault) }

-- the end of lines, after a message or without one
abbrev pub ending_after : (is_framed came : Bool) → Ending
ending_after true came = All
ending_after false true = All
ending_after false false = NoMessage

-- The greatest number of octets of a line: 8 times that of a message, and 64 KiB. No message is longer as decoding writes it.
abbrev pub most_of_line : (limit : ℕ) → ℕ
most_of_line limit = 8 * limit + 65536

-- of lines, of which the first has a number, after a message or without one
abbrev pub encoded_lines : (is_framed : Bool) → Profile → (limit : ℕ) → (number : ℕ) → (came : Bool) → List (List ℕ) → Converted Ending
encoded_lines is_framed profile limit number came [] = record { text = []; end = ending_after is_framed came }
encoded_lines is_framed profile limit number came (line ∷ lines) =
    when (nat_lt (most_of_line limit) (length line)) (λ _. record { text = []; end = LongLine number (most_of_line limit) })
    (λ _. when (is_blank_line line) (λ _. encoded_lines is_framed profile limit (number + 1) came lines)
    (λ _. when (not is_framed && came) (λ _. record { text = []; end = SecondMessage number })
    (λ _. message_and is_framed number (line_spelled is_framed profile limit line) (encoded_lines is_framed profile limit (number + 1) true lines))))

-- of a text, whose messages are of a profile, each of at most n octets
unfoldable pub encoded : (is_framed : Bool) → Profile → (limit : ℕ) → (text : List ℕ) → Converted Ending
encoded is_framed profile limit text = encoded_lines is_framed profile limit 1 false (lines_of text)

-- the messages of the lines that end in a text
unfoldable pub ended_encoded : (is_framed : Bool) → Profile → (limit : ℕ) → (text : List ℕ) → List ℕ
ended_encoded is_framed profile limit text = (encoded_lines is_framed profile limit 1 false (ended_of (parts text))).text

-- ---- what a run does
abbrev pub IsNoFault : Ending → Type 0
IsNoFault All = Unit {0}
IsNoFault (Faulty line fault) = ⊥
IsNoFault (LongLine line most) = ⊥
IsNoFault (SecondMessage line) = ⊥
IsNoFault NoMessage = Unit {0}

-- none of the lines that end in a text is at fault, and the last one is not too long
abbrev pub GoesOn : (is_framed : Bool) → Profile → ℕ → (text : List ℕ) → Type 0
GoesOn is_framed profile limit text = IsNoFault (encoded_lines is_framed profile limit 1 false (ended_of (parts text))).end × (length (last_of (parts text)) ≤ most_of_line limit)

abbrev pub Encodes : (is_framed : Bool) → Profile → ℕ → (had left written_before written_after : Option (List ℕ)) → EncodeEnd → Type 0
Encodes is_framed profile limit had left written_before written_after ended = Converts (encoded is_framed profile limit) (GoesOn is_framed profile limit) had left written_before written_after (ending_of ended)

-- If a read fails, the messages are written of the lines that end in what was read.
abbrev pub FailsToEncode : (is_framed : Bool) → Profile → ℕ → (had left written_before written_after : Option (List ℕ)) → RunFault → Type 0
FailsToEncode is_framed profile limit had left written_before written_after failed = FailsToConvert (λ read. (encoded is_framed profile limit read).text) (ended_encoded is_framed profile limit) had left written_before written_after failed
