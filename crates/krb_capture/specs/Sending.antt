-- What is found with the segments of one direction of a TCP connection, and what is kept of it.
use Rattle.std.specs.Prelude.{ℕ, ◌≡◌, List, [], ◌∷◌, ◌++◌, Option, Some, None, is_some}
use Rattle.krb_packet.specs.declared.contents.Segment.{Segment}
use Rattle.krb_flow.specs.Directions.{Outcome, end_of, had_of, step}
use Rattle.krb_flow.specs.Unread.{untaken_of}
use Rattle.krb_flow.specs.Window.{Keeps, stream_at, stream_with}
use Rattle.krb_flow.specs.declared.direction.Beginning.{Beginning}
use Rattle.krb_flow.specs.declared.direction.Beginning.TheVariants as beginnings
use Rattle.krb_flow.specs.declared.direction.State.{State}
use Rattle.krb_flow.specs.declared.direction.State.TheVariants as states
use Rattle.krb_flow.specs.declared.stream.End.{End}
use Rattle.krb_flow.specs.declared.unread.Unread.{Unread as Octets}
use Rattle.krb_flow.specs.declared.unread.Untaken.{Untaken}
use Rattle.krb_capture.specs.Found.{Found, Begun, Joined, Unread}
use Rattle.krb_capture.specs.Streams.{end_found, found_with}
use Rattle.krb_capture.specs.Taken.{Took, service_of}
use Rattle.krb_capture.specs.declared.flow.Flow.{Flow}
use Rattle.krb_capture.specs.declared.flow.Service.{Service}
use Rattle.krb_capture.specs.declared.sending.Sending.{Sending}
use Rattle.krb_capture.specs.declared.sending.Step.{Step}

-- A direction: its flow, what that carries, what its segments came to, and the octets that were taken since it began.
pub record Sent : Type 0 where
  pub flow : Flow
  pub service : Service
  pub state : State
  pub stream : List ℕ

-- one that came to a state, of which nothing was taken since
abbrev pub sent_from : Flow → Service → State → Sent
sent_from flow service state = record { flow = flow; service = service; state = state; stream = [] }

abbrev pub nothing_sent : Flow → Service → Sent
nothing_sent flow service = sent_from flow service states.Fresh

-- at an end, if it is one
abbrev pub end_if : Service → ℕ → List ℕ → Option End → List Found
end_if service limit stream None = []
end_if service limit stream (Some end) = end_found service limit stream end

-- with its SYN, or with data that no SYN comes before, or that come after the end
abbrev pub beginning_found : Option Beginning → List Found
beginning_found None = []
beginning_found (Some beginnings.Syn) = Begun ∷ []
beginning_found (Some beginnings.Joined) = Begun ∷ Joined ∷ []

-- octets that are not taken, and are no copies
abbrev pub unread_found : Option Octets → List Found
unread_found None = []
unread_found (Some octets) = Unread octets.place octets.octets octets.why ∷ []

-- in order: those that are compared with no others, copies of octets that are no longer kept, and copies that differ
abbrev pub untaken_found : Untaken → List Found
untaken_found untaken = unread_found untaken.apart ++ (unread_found untaken.old ++ unread_found untaken.differs)

-- in order: how what was there ends, how the direction begins, the octets that are not taken, the frames that are whole or refused with those that are, and how it ends
abbrev pub outcome_found : Service → ℕ → List ℕ → Untaken → Outcome → List Found
outcome_found service limit stream untaken outcome =
    end_if service limit stream outcome.before
    ++ (beginning_found outcome.begins
    ++ (untaken_found untaken
    ++ (found_with service limit (stream_at outcome.begins stream) outcome.octets
    ++ end_if service limit (stream_at outcome.begins stream ++ outcome.octets) outcome.end)))

abbrev pub segment_found : ℕ → Sent → Segment → List Found
segment_found limit sent segment = outcome_found sent.service limit sent.stream (untaken_of sent.state sent.stream segment) (step sent.state segment).0

abbrev pub after_segment : Sent → Segment → Sent
after_segment sent segment = record sent { state = (step sent.state segment).1; stream = stream_with sent.state sent.stream segment }

-- what became of it: whether it began, and what it had if it ended
abbrev pub step_of : State → Segment → Step
step_of state segment =
    let stepped = step state segment in
    record { began = is_some stepped.0.begins; ended = had_of stepped.1 }

-- at the end of the file, or of its place in the table
abbrev pub last_found : ℕ → Sent → List Found
last_found limit sent = end_if sent.service limit sent.stream (end_of sent.state)

-- what is kept of a direction, with frames of at most n octets
pub record Represents (kept : Sending) (limit : ℕ) (sent : Sent) : Type 0 where
  pub limit_is : kept.limit ≡ limit
  pub flow : kept.flow ≡ sent.flow
  pub service : kept.service ≡ sent.service
  pub frames : service_of kept.frames ≡ sent.service
  pub state : kept.direction.state ≡ sent.state
  pub keeps : Keeps kept.direction sent.stream
  pub took : Took kept.frames limit sent.stream
