-- What the listing of a capture tells is what is told of its events: those of what is found in it.
use Rattle.std.specs.Prelude.{ℕ, ◌≡◌, ◌+◌, ◌-◌, ◌==◌, Bool, true, false, if◌then◌else◌, List, [], ◌∷◌, ◌++◌, length, filter, flat_map, take, drop, is_some, Option, None, Some}
use Rattle.krb_exchange.specs.Fingerprints.{fingerprint_of}
use Rattle.krb_exchange.specs.Happened.{is_request, is_syn}
use Rattle.krb_exchange.specs.declared.parties.Reply.TheVariants as replies
use Rattle.krb_exchange.specs.declared.sending.Moment.{Moment}
use Rattle.krb_exchange.specs.declared.sending.Sending.{Sending}
use Rattle.krb_exchange_laws.specs.Events
use Rattle.krb_msg.specs.declared.message.Kind.{Kind}
use Rattle.krb_msg.specs.declared.message.Kind.TheVariants as kinds
use Rattle.krb_record.specs.Captures.{captured, unreachable_record}
use Rattle.krb_capture.specs.Labels.{Label, line_of}
use Rattle.krb_record.specs.declared.capture_origin.CaptureOrigin.{CaptureOrigin}
use Rattle.krb_record.specs.declared.told.Request.TheVariants as requests
use Rattle.krb_record.specs.declared.told.Told.{Told}
use Rattle.krb_record.specs.declared.told.Told.TheVariants as told
use Rattle.krb_record.specs.declared.told.ToldCounts.{ToldCounts}
use Rattle.krb_record.specs.declared.unreachable.How.TheVariants as hows
use Rattle.krb_record.specs.declared.unreachable.IcmpError.{IcmpError}
use Rattle.krb_capture.specs.Captures.{Finding, happened_each, lines_of}
use Rattle.krb_capture.specs.Counts.{and_more}
use Rattle.krb_capture.specs.Found.{Begun, Failed, Faulty, Found, Missing, Password, Sent, Whole, found_line}
use Rattle.krb_capture.specs.Happened.{answer_with, at_moment, begins_ap_req, end_counts, end_lines, kind_in, missed_record, moment_of, nothing_happened, part_count, waited}

-- ---- the events of what is found
-- a message by its kind
abbrev pub message_events : Option Kind → List ℕ → CaptureOrigin → List Events.Event
message_events (Some kinds.AsReq) octets origin = Events.Requested requests.AsReq origin.flow (fingerprint_of octets) (moment_of origin) ∷ []
message_events (Some kinds.TgsReq) octets origin = Events.Requested requests.TgsReq origin.flow (fingerprint_of octets) (moment_of origin) ∷ []
message_events (Some kinds.AsRep) octets origin = Events.Replied replies.AsRep origin.flow (moment_of origin) ∷ []
message_events (Some kinds.TgsRep) octets origin = Events.Replied replies.TgsRep origin.flow (moment_of origin) ∷ []
message_events (Some kinds.KrbError) octets origin = Events.Replied replies.Error origin.flow (moment_of origin) ∷ []
message_events _ octets origin = []

-- a message that changes a password, which is a request if it has an AP-REQ
abbrev pub password_events : Bool → List ℕ → CaptureOrigin → List Events.Event
password_events true octets origin = Events.Requested requests.Kpasswd origin.flow (fingerprint_of octets) (moment_of origin) ∷ []
password_events false octets origin = Events.Replied replies.Kpasswd origin.flow (moment_of origin) ∷ []

-- its parts have none: they are the next messages and refusals, so many
abbrev pub unless_parts : ℕ → List Events.Event → List Events.Event
unless_parts parts events = if parts == 0 then events else []

abbrev pub events_of : ℕ → CaptureOrigin → Found → List Events.Event
events_of parts origin (Whole octets) = unless_parts parts (message_events (kind_in octets) octets origin)
events_of parts origin (Faulty refusal path extent) = unless_parts parts (Events.Replied replies.Unread origin.flow (moment_of origin) ∷ [])
events_of parts origin (Missing place octets path) = unless_parts parts (Events.Replied replies.Unread origin.flow (moment_of origin) ∷ [])
events_of parts origin (Password octets version ap rest) = password_events (begins_ap_req (take ap (drop 6 octets))) octets origin
events_of parts origin Begun = Events.Begun origin.flow (moment_of origin) ∷ []
events_of parts origin (Sent header) = Events.Sent header origin.flow (moment_of origin) ∷ []
events_of parts origin (Failed error) = Events.Failed origin.flow (moment_of origin) ∷ []
events_of parts origin _ = []

abbrev pub parts_after : ℕ → Found → ℕ
parts_after parts (Whole octets) = parts - 1
parts_after parts (Faulty refusal path extent) = parts - 1
parts_after parts (Missing place octets path) = parts - 1
parts_after parts (Password octets version ap rest) = part_count ap + part_count rest
parts_after parts _ = parts

abbrev pub events_from : ℕ → List Finding → List Events.Event
events_from parts [] = []
events_from parts (one ∷ others) = events_of parts one.0 one.1 ++ events_from (parts_after parts one.1) others

-- those of a capture
abbrev pub events_in : List Finding → List Events.Event
events_in found = events_from 0 found

-- ---- what is told of something that is found, by what is told of its event
abbrev pub first_told : List Events.Heard → Events.Told
first_told [] = Events.nothing
first_told (one ∷ others) = one.told

-- in its origin
abbrev pub message_told : Option Kind → Events.Told → Moment → Told
message_told (Some kinds.AsReq) what now = told.Request what.again
message_told (Some kinds.TgsReq) what now = told.Request what.again
message_told (Some kinds.AsRep) what now = told.Reply (answer_with what.answers now)
message_told (Some kinds.TgsRep) what now = told.Reply (answer_with what.answers now)
message_told (Some kinds.KrbError) what now = told.Reply (answer_with what.answers now)
message_told _ what now = told.Nothing

abbrev pub found_told : CaptureOrigin → Found → Events.Told → Told
found_told origin (Whole octets) what = message_told (kind_in octets) what (moment_of origin)
found_told origin (Faulty refusal path extent) what = told.Reply (answer_with what.answers (moment_of origin))
found_told origin (Missing place octets path) what = told.Reply (answer_with what.answers (moment_of origin))
found_told origin (Password octets version ap rest) what = told.Either what.again (answer_with what.answers (moment_of origin))
found_told origin _ what = origin.told

-- in records after its own: a SYN that is reset, the sendings that nothing answered, and an error
abbrev pub missed_line : Label → Moment → Sending → List ℕ
missed_line label now one = line_of label (captured label.form (at_moment now one.flow) (missed_record now one.what one))

abbrev pub missed_lines : Label → Moment → List Sending → List ℕ
missed_lines label now sendings = flat_map (missed_line label now) sendings

abbrev pub reset_lines : Label → Moment → Option Sending → List ℕ
reset_lines label now None = []
reset_lines label now (Some one) = line_of label (captured label.form (at_moment now one.flow) (unreachable_record hows.Reset (waited one now)))

abbrev pub failed_line : Label → CaptureOrigin → IcmpError → Option Sending → List ℕ
failed_line label origin error one = line_of label (captured label.form (at_moment (moment_of origin) origin.flow) (unreachable_record (hows.Error error) (answer_with one (moment_of origin))))

abbrev pub lines_after : Label → CaptureOrigin → Found → Events.Told → List ℕ
lines_after label origin (Failed error) what = failed_line label origin error what.is_about
lines_after label origin _ what = reset_lines label (moment_of origin) what.resets ++ missed_lines label (moment_of origin) what.missed

abbrev pub text_with : Label → CaptureOrigin → Found → Events.Told → List ℕ
text_with label origin found what = found_line label (record origin { told = found_told origin found what }) found ++ lines_after label origin found what

-- the lines of what is found, if so much is told of the events
abbrev pub lines_with : Label → ℕ → List Finding → List Events.Heard → List ℕ
lines_with label parts [] heard = []
lines_with label parts (one ∷ others) heard =
    let events = length (events_of parts one.0 one.1) in
    text_with label one.0 one.1 (first_told (take events heard)) ++ lines_with label (parts_after parts one.1) others (drop events heard)

-- What is told in the lines of a capture is what is told of its events.
abbrev pub LinesTellOfEvents : Type 0
LinesTellOfEvents = (label : Label) (found : List Finding) → lines_of label (Some nothing_happened) found ≡ lines_with label 0 found (Events.heard (events_in found))

-- What is told at its end is what is told of that event.
abbrev pub EndTellsOfEvents : Type 0
EndTellsOfEvents = (label : Label) (now : Moment) (found : List Finding) → end_lines label now (happened_each found (Some nothing_happened)) ≡ missed_lines label now (Events.taken (Events.Ended now) (Events.window_after (events_in found))).told.missed

-- ---- what is counted
abbrev pub missed_in : List Events.Heard → List Sending
missed_in heard = flat_map (λ one. one.told.missed) heard

abbrev pub is_failed : Events.Event → Bool
is_failed (Events.Failed flow now) = true
is_failed _ = false

-- the replies that answer a request
abbrev pub answered_in : List Events.Heard → ℕ
answered_in heard = length (filter (λ one. is_some one.told.answers) heard)

-- the requests that nothing answers
abbrev pub unanswered_in : List Events.Heard → ℕ
unanswered_in heard = length (filter (λ one. is_request (λ _. true) one.what) (missed_in heard))

-- the requests that were sent before
abbrev pub again_in : List Events.Heard → ℕ
again_in heard = length (filter (λ one. is_some one.told.again) heard)

-- the SYNs that nothing answers, those that are reset, and the errors
abbrev pub unreachable_in : List Events.Heard → ℕ
unreachable_in heard = length (filter (λ one. is_syn one.what) (missed_in heard)) + (length (filter (λ one. is_some one.told.resets) heard) + length (filter (λ one. is_failed one.event) heard))

-- they stop at the greatest number of 64 bits
abbrev pub counts_in : List Events.Heard → ToldCounts
counts_in heard = record { answered = and_more 0 (answered_in heard); unanswered = and_more 0 (unanswered_in heard); again = and_more 0 (again_in heard); unreachable = and_more 0 (unreachable_in heard) }

-- The counts of a capture are those of what is told of its events, its end among them.
abbrev pub CountsAreOfEvents : Type 0
CountsAreOfEvents = (now : Moment) (found : List Finding) → end_counts (happened_each found (Some nothing_happened)) ≡ counts_in (Events.heard (events_in found ++ Events.Ended now ∷ []))
