-- What is found in a flow, and what is written of it.
use Rattle.std.specs.Prelude.{ℕ, ◌+◌, ◌≤◌, List, [], ◌∷◌, ◌++◌, length, take, drop, Option, None, Some, codes, if◌then◌else◌}
use Rattle.krb_der.specs.declared.verdict.Refusal.{Refusal}
use Rattle.krb_source.specs.declared.unread_why.UnreadWhy.{UnreadWhy}
use Rattle.krb_msg.specs.Views.{message_of_der}
use Rattle.krb_capture.specs.Decoded.{decoded_message}
use Rattle.krb_capture.specs.Labels.{Label, is_decoded, line_of}
use Rattle.krb_capture.specs.declared.style.Decoding.{Decoding}
use Rattle.krb_record.specs.Captures.{captured, lost_record, password_record, unread_record}
use Rattle.krb_record.specs.Refusals.{extent_in, path_in, refusal_record}
use Rattle.krb_record.specs.Values.{Printed, printed}
use Rattle.krb_text.specs.Messages.{shown_record}
use Rattle.krb_record.specs.declared.capture.CaptureCounts.{CaptureCounts}
use Rattle.krb_record.specs.declared.extent.Extent.{Extent}
use Rattle.krb_record.specs.declared.form.Form.{Form}
use Rattle.krb_record.specs.declared.capture_origin.CaptureOrigin.{CaptureOrigin}
pub use Rattle.krb_capture.specs.Counts.{and_more}
use Rattle.krb_exchange.specs.declared.parties.Header.{Header}
use Rattle.krb_record.specs.declared.unreachable.IcmpError.{IcmpError}
use Rattle.krb_capture.specs.Happened.{Heard, begun_heard, by_part, error_heard, heard, message_event, moment_of, news_lines, news_told, part_count, password_event, segment_heard, telling, told_of, unread_event}
use Rattle.krb_capture.specs.declared.happened.Event.{Event}
use Rattle.krb_capture.specs.declared.happened.Happened.{Happened}

-- A message, by its octets; a message or a frame that is refused, the path of the field at fault, and where the frame is and its length; that a direction begins, which has no record, and that it does so without its SYN; octets that are not in the capture, and the path of the field that has the first of them; a message that changes a password, by its octets, with the lengths of its parts; octets that no message has, and why. A segment and an error have no record of their own, either: what is told of them is.
pub data Found : Type 0 where
  Whole : (octets : List ℕ) → Found
  Faulty : (refusal : Refusal) → (path : Option (List ℕ)) → (extent : Extent) → Found
  Begun : Found
  Joined : Found
  Missing : (place : ℕ) → (octets : ℕ) → (path : Option (List ℕ)) → Found
  Password : (octets : List ℕ) → (version : ℕ) → (ap : ℕ) → (rest : ℕ) → Found
  Unread : (place : Option ℕ) → (octets : ℕ) → (why : UnreadWhy) → Found
  Sent : (header : Header) → Found
  Failed : (error : IcmpError) → Found

-- its record, if it has one
abbrev pub found_record : Form → Found → Option Printed
found_record form (Whole octets) = Some (shown_record form (message_of_der octets))
found_record form (Faulty refusal path extent) = Some (refusal_record refusal (path_in form path ++ extent_in form extent))
found_record form Begun = None
found_record form Joined = Some (printed (codes "joined") [])
found_record form (Missing place octets path) = Some (lost_record form place octets path)
found_record form (Password octets version ap rest) = Some (password_record version ap rest)
found_record form (Unread place octets why) = Some (unread_record place octets why)
found_record form (Sent header) = None
found_record form (Failed error) = None

abbrev pub line_if : Label → CaptureOrigin → Option Printed → List ℕ
line_if label origin None = []
line_if label origin (Some r) = line_of label (captured label.form origin r)

abbrev pub listed_line : Label → CaptureOrigin → Found → List ℕ
listed_line label origin found = line_if label origin (found_record label.form found)

-- As it is decoded, a message has its line, and a message that changes a password those of its parts; what is refused, lost or unread is said by its record.
abbrev pub decoded_line : Label → CaptureOrigin → Found → List ℕ
decoded_line label origin (Whole octets) = decoded_message label.form origin (message_of_der octets)
decoded_line label origin Joined = []
decoded_line label origin (Password octets version ap rest) = []
decoded_line label origin found = listed_line label origin found

abbrev pub written_line : Option Decoding → Label → CaptureOrigin → Found → List ℕ
written_line None label origin found = listed_line label origin found
written_line (Some decoding) label origin found = if is_decoded decoding origin then decoded_line label origin found else []

-- what has no record has none in any case
abbrev pub found_line : Label → CaptureOrigin → Found → List ℕ
found_line label origin Begun = []
found_line label origin (Sent header) = []
found_line label origin (Failed error) = []
found_line label origin found = written_line label.decoding label origin found

abbrev pub counted : Found → CaptureCounts → CaptureCounts
counted (Whole octets) counts = record counts { messages = and_more counts.messages 1 }
counted (Faulty refusal path extent) counts = record counts { refused = and_more counts.refused 1 }
counted Begun counts = counts
counted Joined counts = counts
counted (Missing place octets path) counts = record counts { lost = and_more counts.lost 1 }
counted (Password octets version ap rest) counts = counts
counted (Unread place octets why) counts = record counts { unread = and_more counts.unread 1 }
counted (Sent header) counts = counts
counted (Failed error) counts = counts

-- ---- what happens with something that is found, and what is told of that
-- its event, if so many of the next messages and refusals are parts of a message that changes a password
abbrev pub event_of : ℕ → Found → Option Event
event_of parts (Whole octets) = Some (by_part parts (message_event octets))
event_of parts (Faulty refusal path extent) = Some (by_part parts unread_event)
event_of parts Begun = None
event_of parts Joined = None
event_of parts (Missing place octets path) = Some (by_part parts unread_event)
event_of parts (Password octets version ap rest) = Some (password_event octets (take ap (drop 6 octets)))
event_of parts (Unread place octets why) = None
event_of parts (Sent header) = None
event_of parts (Failed error) = None

abbrev pub with_parts : ℕ → ℕ → Heard → Heard
with_parts ap rest after = record after { happened = record after.happened { parts = part_count ap + part_count rest } }

abbrev pub found_heard : CaptureOrigin → Found → Happened → Heard
found_heard origin (Whole octets) happened = heard (by_part happened.parts (message_event octets)) origin happened
found_heard origin (Faulty refusal path extent) happened = heard (by_part happened.parts unread_event) origin happened
found_heard origin Begun happened = begun_heard origin happened
found_heard origin Joined happened = record { news = []; happened = happened }
found_heard origin (Missing place octets path) happened = heard (by_part happened.parts unread_event) origin happened
found_heard origin (Password octets version ap rest) happened = with_parts ap rest (heard (password_event octets (take ap (drop 6 octets))) origin happened)
found_heard origin (Unread place octets why) happened = record { news = []; happened = happened }
found_heard origin (Sent header) happened = segment_heard header origin happened
found_heard origin (Failed error) happened = error_heard error origin happened

-- the origin of its record with what is told
abbrev pub origin_with : Option Event → CaptureOrigin → Happened → CaptureOrigin
origin_with None origin happened = origin
origin_with (Some event) origin happened = telling origin (told_of event origin happened.sendings)

-- its record, and those that are told after it
abbrev pub found_text : Label → CaptureOrigin → Found → Option Happened → List ℕ
found_text label origin found None = found_line label origin found
found_text label origin found (Some happened) =
    found_line label (origin_with (event_of happened.parts found) origin happened) found ++ news_lines label (moment_of origin) (found_heard origin found happened).news

abbrev pub found_happened : CaptureOrigin → Found → Option Happened → Option Happened
found_happened origin found None = None
found_happened origin found (Some happened) = Some (news_told (found_heard origin found happened))

-- ---- what is written of a capture, with a label, what was counted in it, and what happened, if it is told; and which text that is, by its name
pub record Written : Type 0 where
  pub label : Label
  pub text : List ℕ
  pub counts : CaptureCounts
  pub happened : Option Happened
  pub text_name : ℕ

-- the text has 64 KiB, so that it is to be written before more is listed
abbrev pub IsFull : List ℕ → Type 0
IsFull text = 65536 ≤ length text

-- it has, if anything is left
abbrev pub IsFullIf : {X : Type 0} → Option X → List ℕ → Type 0
IsFullIf None text = Unit {0}
IsFullIf (Some left) text = IsFull text

abbrev pub with_found : CaptureOrigin → Found → Written → Written
with_found origin found written = record written { text = written.text ++ found_text written.label origin found written.happened; counts = counted found written.counts; happened = found_happened origin found written.happened }

abbrev pub with_all : CaptureOrigin → List Found → Written → Written
with_all origin [] written = written
with_all origin (first ∷ others) written = with_all origin others (with_found origin first written)

-- with the fragments that no whole datagram came of
abbrev pub totals : ℕ → CaptureCounts → CaptureCounts
totals fragments counts = record counts { unread = and_more counts.unread fragments }
