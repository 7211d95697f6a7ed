-- What happened in a capture: a fold over its events. Its state is the window: the last 65536 sendings, in order.
use Rattle.std.specs.Prelude.{ℕ, suc, ◌==◌, ◌&&◌, not, nat_lt, Bool, true, false, if◌then◌else◌, List, [], ◌∷◌, ◌++◌, length, Option, Some, None, slice_get, slice_set}
use Rattle.std.specs.List.{filter}
use Rattle.std.specs.Option.{option_map, option_or}
use Rattle.std.specs.BTreeMap.{is_at}
use Rattle.std.specs.declared.cmp.Ordering.{Ordering}
use Rattle.krb_record.specs.contracts.flow.FlowOrd.TheImpl as flow_order
use Rattle.krb_record.specs.declared.flow.Flow.{Flow}
use Rattle.krb_record.specs.declared.flow.Transport.{Transport}
use Rattle.krb_record.specs.declared.flow.Transport.TheVariants as transports
use Rattle.krb_record.specs.declared.told.Request.{Request}
use Rattle.krb_record.specs.declared.told.Request.TheVariants as requests
use Rattle.krb_exchange.specs.declared.fingerprint.Fingerprint.{Fingerprint}
use Rattle.krb_exchange.specs.declared.parties.Header.{Header}
use Rattle.krb_exchange.specs.declared.parties.Reply.{Reply}
use Rattle.krb_exchange.specs.declared.parties.Reply.TheVariants as replies
use Rattle.krb_exchange.specs.declared.sending.Moment.{Moment}
use Rattle.krb_exchange.specs.declared.sending.Sending.{Sending}
use Rattle.krb_exchange.specs.declared.sending.State.{State}
use Rattle.krb_exchange.specs.declared.sending.State.TheVariants as states
use Rattle.krb_exchange.specs.declared.sending.What.{What}
use Rattle.krb_exchange.specs.declared.sending.What.TheVariants as whats
use Rattle.krb_exchange.specs.declared.sendings.RequestTold.{RequestTold}
use Rattle.krb_exchange.specs.declared.sendings.SegmentTold.{SegmentTold}

-- ---- flows and kinds
-- flows are ordered by their transport, then by their source and then by their target
abbrev pub flow_cmp : Flow → Flow → Ordering
flow_cmp = flow_order.ghosts.cmp

abbrev pub same_flow : Flow → Flow → Bool
same_flow flow other = is_at (flow_cmp flow) other

-- the flow the other way round
abbrev pub reversed : Flow → Flow
reversed flow = record { transport = flow.transport; source = flow.target; target = flow.source }

abbrev pub same_octets : Fingerprint → Fingerprint → Bool
same_octets octets other = (octets.hash == other.hash) && (octets.length == other.length)

abbrev pub same_kind : Request → Request → Bool
same_kind requests.AsReq requests.AsReq = true
same_kind requests.TgsReq requests.TgsReq = true
same_kind requests.Kpasswd requests.Kpasswd = true
same_kind requests.AsReq requests.TgsReq = false
same_kind requests.AsReq requests.Kpasswd = false
same_kind requests.TgsReq requests.AsReq = false
same_kind requests.TgsReq requests.Kpasswd = false
same_kind requests.Kpasswd requests.AsReq = false
same_kind requests.Kpasswd requests.TgsReq = false

-- which requests a reply may answer (RFC 4120, 3.1 and 3.3; RFC 3244, 2)
abbrev pub fits : Reply → Request → Bool
fits replies.AsRep request = same_kind request requests.AsReq
fits replies.TgsRep request = same_kind request requests.TgsReq
fits replies.Error request = not (same_kind request requests.Kpasswd)
fits replies.Kpasswd request = same_kind request requests.Kpasswd
fits replies.Unread request = true

-- ---- what a sending is
abbrev pub is_open : State → Bool
is_open states.Open = true
is_open states.Ended = false
is_open states.Erred = false

abbrev pub is_ended : State → Bool
is_ended states.Open = false
is_ended states.Ended = true
is_ended states.Erred = false

abbrev pub is_request : (Request → Bool) → What → Bool
is_request passes (whats.Request kind octets) = passes kind
is_request passes (whats.Syn number) = false

abbrev pub has_octets : Fingerprint → What → Bool
has_octets octets (whats.Request kind others) = same_octets octets others
has_octets octets (whats.Syn number) = false

abbrev pub is_syn : What → Bool
is_syn (whats.Request kind octets) = false
is_syn (whats.Syn number) = true

abbrev pub has_number : ℕ → What → Bool
has_number number (whats.Request kind octets) = false
has_number number (whats.Syn other) = number == other

-- an open request of a flow, of a kind that passes
abbrev pub is_open_request : Flow → (Request → Bool) → Sending → Bool
is_open_request flow passes one = is_open one.state && (is_request passes one.what && same_flow flow one.flow)

abbrev pub is_syn_of : Flow → Sending → Bool
is_syn_of flow one = is_syn one.what && same_flow flow one.flow

-- ---- which of the sendings: their places count from the first one
-- the first that passes
abbrev pub first_place : (Sending → Bool) → List Sending → Option ℕ
first_place test [] = None
first_place test (one ∷ others) = if test one then Some 0 else option_map (λ place. suc place) (first_place test others)

-- the latest that passes
abbrev pub latest_place : (Sending → Bool) → List Sending → Option ℕ
latest_place test [] = None
latest_place test (one ∷ others) = option_or (option_map (λ place. suc place) (latest_place test others)) (if test one then Some 0 else None)

-- the sending at a place
abbrev pub at_place : Option ℕ → List Sending → Option Sending
at_place None window = None
at_place (Some place) window = slice_get window place

abbrev pub passes : (Sending → Bool) → Option Sending → Bool
passes test None = false
passes test (Some one) = test one

-- a place, if the sending there passes
abbrev pub place_if : (Sending → Bool) → Option ℕ → List Sending → Option ℕ
place_if test place window = if passes test (at_place place window) then place else None

-- the window, with the sending at a place in a state
abbrev pub in_state : State → Sending → Sending
in_state state one = record one { state = state }

abbrev pub changed : State → List Sending → ℕ → Option Sending → List Sending
changed state window place None = window
changed state window place (Some one) = slice_set window place (in_state state one)

abbrev pub with_state : State → Option ℕ → List Sending → List Sending
with_state state None window = window
with_state state (Some place) window = changed state window place (slice_get window place)

-- ---- what an event tells, and the window after it
pub record After (T : Type 0) : Type 0 where
  pub told : T
  pub window : List Sending

-- ---- a sending is added: if there are 65537 then, the first is taken away, and missed if it is open
abbrev pub if_open : Sending → Option Sending
if_open one = if is_open one.state then Some one else None

abbrev pub without_first : List Sending → After (Option Sending)
without_first [] = record { told = None; window = [] }
without_first (first ∷ others) = record { told = if_open first; window = others }

abbrev pub with_room : List Sending → After (Option Sending)
with_room window = if nat_lt (length window) 65536 then record { told = None; window = window } else without_first window

abbrev pub added : Sending → List Sending → After (Option Sending)
added sending window = record { told = (with_room window).told; window = (with_room window).window ++ sending ∷ [] }

-- ---- a request
abbrev pub first_of : Option Sending → Moment → Moment
first_of None sent = sent
first_of (Some before) sent = before.first

abbrev pub request_of : Request → Flow → Fingerprint → Moment → Option Sending → Sending
request_of kind flow octets sent before = record { flow = flow; what = whats.Request kind octets; sent = sent; first = first_of before sent; state = states.Open }

-- the latest request with the same octets, by any client to any KDC
abbrev pub before_of : Fingerprint → List Sending → Option Sending
before_of octets window = at_place (latest_place (λ one. has_octets octets one.what) window) window

-- over UDP it takes the place of the latest open one of its flow and kind, if that has the same octets
abbrev pub replaced_over : Transport → Request → Flow → Fingerprint → List Sending → Option ℕ
replaced_over transports.Tcp kind flow octets window = None
replaced_over transports.Udp kind flow octets window = place_if (λ one. has_octets octets one.what) (latest_place (is_open_request flow (same_kind kind)) window) window

abbrev pub replaced : Request → Flow → Fingerprint → List Sending → Option ℕ
replaced kind flow octets window = replaced_over flow.transport kind flow octets window

abbrev pub requested : Request → Flow → Fingerprint → Moment → List Sending → After RequestTold
requested kind flow octets sent window =
    let before = before_of octets window in
    let after = added (request_of kind flow octets sent before) (with_state states.Ended (replaced kind flow octets window) window) in
    record { told = record { again = option_map (λ one. one.first.packet) before; missed = after.told }; window = after.window }

-- ---- a reply: it answers an open request of the flow the other way round, over UDP the latest that it fits, over TCP the first, if it fits that
abbrev pub answered_over : Transport → Reply → Flow → List Sending → Option ℕ
answered_over transports.Udp reply flow window = latest_place (is_open_request flow (fits reply)) window
answered_over transports.Tcp reply flow window = place_if (λ one. is_request (fits reply) one.what) (first_place (is_open_request flow (λ _. true)) window) window

abbrev pub answered : Reply → Flow → List Sending → Option ℕ
answered reply flow window = answered_over flow.transport reply (reversed flow) window

abbrev pub replied : Reply → Flow → List Sending → After (Option Sending)
replied reply flow window = record { told = at_place (answered reply flow window) window; window = with_state states.Ended (answered reply flow window) window }

-- ---- a direction of TCP begins: its open requests are missed, in order
abbrev pub ended_if : (Sending → Bool) → List Sending → List Sending
ended_if test [] = []
ended_if test (one ∷ others) = (if test one then in_state states.Ended one else one) ∷ ended_if test others

abbrev pub begun : Flow → List Sending → After (List Sending)
begun flow window = record { told = filter (is_open_request flow (λ _. true)) window; window = ended_if (is_open_request flow (λ _. true)) window }

-- ---- a segment
-- the latest SYN of a flow
abbrev pub latest_syn : Flow → List Sending → Option ℕ
latest_syn flow window = latest_place (is_syn_of flow) window

-- the same, if it is open
abbrev pub open_syn : Flow → List Sending → Option ℕ
open_syn flow window = place_if (λ one. is_open one.state) (latest_syn flow window) window

-- it answers an open SYN of a flow
abbrev pub syn_answered : Flow → List Sending → After (Option Sending)
syn_answered flow window = record { told = at_place (open_syn flow window) window; window = with_state states.Ended (open_syn flow window) window }

abbrev pub syn_of : ℕ → Flow → Moment → Moment → Sending
syn_of number flow sent first = record { flow = flow; what = whats.Syn number; sent = sent; first = first; state = states.Open }

abbrev pub told_of_syn : Option Sending → Option Sending → SegmentTold
told_of_syn silent missed = record { reset = None; silent = silent; missed = missed }

abbrev pub with_syn : Option Sending → Sending → List Sending → After SegmentTold
with_syn silent syn window = record { told = told_of_syn silent (added syn window).told; window = (added syn window).window }

-- one with the number of the latest SYN of its flow is a copy, if that was answered, and else is sent again
abbrev pub syn_again : ℕ → Flow → Moment → Sending → List Sending → After SegmentTold
syn_again number flow sent before window =
    if is_ended before.state
    then record { told = told_of_syn None None; window = window }
    else with_syn None (syn_of number flow sent before.first) (with_state states.Ended (latest_syn flow window) window)

-- one with another number is new, and the latest SYN before it is missed, if it is open
abbrev pub syn_anew : ℕ → Flow → Moment → List Sending → After SegmentTold
syn_anew number flow sent window = with_syn (syn_answered flow window).told (syn_of number flow sent sent) (syn_answered flow window).window

abbrev pub syn_after : ℕ → Flow → Moment → Option Sending → List Sending → After SegmentTold
syn_after number flow sent None window = syn_anew number flow sent window
syn_after number flow sent (Some before) window =
    if has_number number before.what then syn_again number flow sent before window else syn_anew number flow sent window

abbrev pub syn_taken : ℕ → Flow → Moment → List Sending → After SegmentTold
syn_taken number flow sent window = syn_after number flow sent (at_place (latest_syn flow window) window) window

-- a segment asks for a connection
abbrev pub is_asking : Header → Bool
is_asking header = header.syn && not header.ack && not header.rst

-- It answers the latest SYN of the flow the other way round, or resets it. If it asks for no connection it ends that of its own flow, too.
abbrev pub told_of_reset : Header → Option Sending → SegmentTold
told_of_reset header answered = record { reset = (if header.rst then answered else None); silent = None; missed = None }

abbrev pub segment_taken : Header → Flow → Moment → List Sending → After SegmentTold
segment_taken header flow sent window =
    let back = syn_answered (reversed flow) window in
    if is_asking header
    then syn_taken header.sequence flow sent back.window
    else record { told = told_of_reset header back.told; window = (syn_answered flow back.window).window }

-- ---- an ICMP error is about the latest open sending of a flow: its latest open request or its latest SYN, if that is open, whichever is later
abbrev pub later_place : Option ℕ → Option ℕ → Option ℕ
later_place None other = other
later_place (Some place) None = Some place
later_place (Some place) (Some other) = Some (if nat_lt place other then other else place)

abbrev pub erred : Flow → List Sending → Option ℕ
erred flow window = later_place (latest_place (is_open_request flow (λ _. true)) window) (open_syn flow window)

-- it is erred if it is a SYN, and a request stays open, since another sending of it may come through
abbrev pub error_taken : Flow → List Sending → After (Option Sending)
error_taken flow window = record {
  told = at_place (erred flow window) window;
  window = with_state states.Erred (place_if (λ one. is_syn one.what) (erred flow window) window) window;
}

-- one that is told, if any
abbrev pub listed : Option Sending → List Sending
listed None = []
listed (Some one) = one ∷ []

-- ---- the end of the capture: each open sending is missed, in order
abbrev pub open_in : List Sending → List Sending
open_in window = filter (λ one. is_open one.state) window
