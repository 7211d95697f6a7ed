-- The records of the messages that the lines of a text spell, one in each line.
use Rattle.std.specs.Prelude.{ℕ, ◌+◌, ◌==◌, ◌&&◌, ◌||◌, nat_lt, not, Bool, false, List, [], ◌∷◌, length, Option, Some}
use Rattle.krb_der.specs.Octets.{when}
use Rattle.krb_der.specs.declared.profile.Profile.{Profile}
use Rattle.krb_record.specs.Labels.{Label}
use Rattle.krb_run.specs.Conversions.{Converted, after_text, Converts, FailsToConvert}
use Rattle.krb_run.specs.TextLines.{ended_of, is_blank_line, lines_of, parts}
use Rattle.krb_tool.specs.GoingOn.{counted_end_line, counted_run_end}
use Rattle.krb_tool.specs.Messages.{input_limit, input_listing, listing_with}
use Rattle.krb_tool.specs.declared.lines_run.Seen.{Seen}
use Rattle.krb_tool.specs.declared.message_input.MessageInput.{MessageInput}
use Rattle.krb_run.specs.declared.run.RunEnd.{RunEnd}
use Rattle.krb_run.specs.declared.run.RunEnd.TheVariants as run
use Rattle.krb_run.specs.declared.run.RunFault.{RunFault}

-- the line after those that were seen
abbrev pub next_line : Label → Profile → Seen → MessageInput
next_line label profile seen = record { form = label.form; profile = profile; line = Some (seen.lines + 1); at = seen.octets }

-- a line of blanks alone is passed over, unless it is too long
abbrev pub is_passed : List ℕ → Bool
is_passed line = not (nat_lt input_limit (length line)) && is_blank_line line

-- with a line more, and the line feed after it
abbrev pub with_line : Seen → (size : ℕ) → Seen
with_line seen size = record seen { lines = seen.lines + 1; octets = seen.octets + size + 1 }

-- with a refused record more
abbrev pub with_refused : Seen → Seen
with_refused seen = record seen { refused = seen.refused + 1; is_refused_at_once = seen.is_refused_at_once || (seen.messages == 0 && seen.refused == 0) }

-- with a record more
abbrev pub with_record : RunEnd → Seen → Seen
with_record run.Clean seen = record seen { messages = seen.messages + 1 }
with_record run.Refused seen = with_refused seen
with_record run.RefusedAtOnce seen = with_refused seen

-- The records of lines after others, that of each that is not passed over; and what is seen then.
abbrev pub records_of : Label → Profile → Seen → List (List ℕ) → Converted Seen
records_of label profile seen [] = record { text = []; end = seen }
records_of label profile seen (line ∷ lines) =
    when (is_passed line) (λ _. records_of label profile (with_line seen (length line)) lines)
    (λ _. let listing = listing_with label (input_listing (next_line label profile seen) line) in
    after_text listing.text (records_of label profile (with_record listing.end (with_line seen (length line))) lines))

abbrev pub none_seen : Seen
none_seen = record { lines = 0; octets = 0; messages = 0; refused = 0; is_refused_at_once = false }

-- the record of the end, and how a run ends
abbrev pub end_of : Label → Seen → Converted RunEnd
end_of label seen = record { text = counted_end_line label seen.messages seen.refused; end = counted_run_end seen.is_refused_at_once seen.refused }

-- with it
abbrev pub with_end : Label → Converted Seen → Converted RunEnd
with_end label records = after_text records.text (end_of label records.end)

-- of a text
unfoldable pub lines_listed : Label → Profile → (text : List ℕ) → Converted RunEnd
lines_listed label profile text = with_end label (records_of label profile none_seen (lines_of text))

-- the records of the lines that end in a text
unfoldable pub ended_listed : Label → Profile → (text : List ℕ) → List ℕ
ended_listed label profile text = (records_of label profile none_seen (ended_of (parts text))).text

-- ---- what a run does: no line ends it
abbrev pub ListsLines : Label → Profile → (had left written_before written_after : Option (List ℕ)) → RunEnd → Type 0
ListsLines label profile had left written_before written_after ended = Converts (lines_listed label profile) (λ read. Unit {0}) had left written_before written_after ended

-- If a read fails, the records are written of the lines that end in what was read, and no last one.
abbrev pub FailsLines : Label → Profile → (had left written_before written_after : Option (List ℕ)) → RunFault → Type 0
FailsLines label profile had left written_before written_after failed = FailsToConvert (λ read. (lines_listed label profile read).text) (ended_listed label profile) had left written_before written_after failed
