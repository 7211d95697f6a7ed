-- The law of the directions of TCP.
use Rattle.std.specs.Prelude.{◌≡◌, ℕ, List, [], ◌∷◌, ◌++◌, Some, Bool, true, false, drop, if◌then◌else◌}
use Rattle.std.specs.List.{filter}
use Rattle.krb_packet.specs.declared.contents.Segment.{Segment}
use Rattle.krb_msg.specs.Grammar.{messages}
use Rattle.krb_frame.specs.GoingOn.{entries}
use Rattle.krb_flow.specs.Arrivals.{AreAllOf}
use Rattle.krb_flow.specs.Directions.{step}
use Rattle.krb_flow.specs.Laws.{Piece, segments_of}
use Rattle.krb_flow.specs.Unread.{untaken_of}
use Rattle.krb_flow.specs.declared.direction.State.{State}
use Rattle.krb_flow.specs.declared.direction.State.TheVariants as states
use Rattle.krb_flow.specs.declared.direction.Beginning.{Beginning}
use Rattle.krb_flow.specs.declared.stream.End.TheVariants as ends
use Rattle.krb_capture.specs.Found.{Found, Unread}
use Rattle.krb_capture.specs.Sending.{Sent, after_segment, beginning_found, last_found, nothing_sent, outcome_found}
use Rattle.krb_capture.specs.Streams.{end_found, entries_found, framed}
use Rattle.krb_capture.specs.declared.flow.Flow.{Flow}
use Rattle.krb_capture.specs.declared.flow.Service.{Service}
use Rattle.krb_capture.specs.declared.flow.Service.TheVariants as services

-- what copies are compared with: after the end of a direction only as long as what it took is kept
abbrev pub compared : Bool → State → List ℕ → List ℕ
compared kept states.Fresh stream = stream
compared kept (states.Open progress) stream = stream
compared kept (states.Ended had) stream = if kept then stream else []

abbrev pub found_if : ℕ → Sent → Bool → Segment → List Found
found_if limit sent kept segment = outcome_found sent.service limit sent.stream (untaken_of sent.state (compared kept sent.state sent.stream) segment) (step sent.state segment).0

-- of the next segment
abbrev pub still : List Bool → Bool
still [] = true
still (kept ∷ others) = kept

-- What is found in a direction: with each of its segments, in order, and at the end. Of each it is said whether what the direction took would still be kept, had it ended.
abbrev pub direction_found : ℕ → Sent → List Bool → List Segment → List Found
direction_found limit sent kept [] = last_found limit sent
direction_found limit sent kept (segment ∷ segments) = found_if limit sent (still kept) segment ++ direction_found limit (after_segment sent segment) (drop 1 kept) segments

-- What is found in a stream. In one of messages that is each of its frames, as they are listed if one goes on after a refusal.
abbrev pub stream_found : Service → ℕ → List ℕ → List Found
stream_found (services.Kerberos profile) limit stream = entries_found profile 0 (entries (messages profile) limit stream)
stream_found (services.Passwords profile) limit stream = (framed (services.Passwords profile) limit stream).found ++ end_found (services.Passwords profile) limit stream ends.Complete

-- what is found but for octets that no message has
abbrev pub is_read : Found → Bool
is_read (Unread place octets why) = false
is_read _ = true

abbrev pub but_unread : List Found → List Found
but_unread found = filter is_read found

-- Whatever way a stream is cut into segments, in whatever order and how often these are captured: what is found in the direction, but for octets that no message has, is what is found in the stream, after `Joined` if its SYN does not come first.
abbrev pub RecordsAreOfTheStream : Type 0
RecordsAreOfTheStream = (limit : ℕ) (flow : Flow) (service : Service) (stream : List ℕ) (how : Beginning) (pieces : List Piece) (kept : List Bool) → AreAllOf stream how pieces → but_unread (direction_found limit (nothing_sent flow service) kept (segments_of pieces)) ≡ beginning_found (Some how) ++ stream_found service limit stream
