-- Laws of what is told of the events of a capture, whatever they are.
use Rattle.std.specs.Prelude.{ℕ, ◌≡◌, ◌≤◌, ◌==◌, Bool, true, false, ◌&&◌, ◌||◌, List, [], ◌∷◌, ◌++◌, length, map, filter, flat_map, All, slice_get, Option, Some, None, option_map, option_to_list}
use Rattle.krb_record.specs.declared.flow.Flow.{Flow}
use Rattle.krb_exchange.specs.Happened.{fits, is_asking, is_open_request, is_request, listed, reversed, same_flow, same_octets}
use Rattle.krb_exchange.specs.declared.fingerprint.Fingerprint.{Fingerprint}
use Rattle.krb_exchange.specs.declared.sending.Moment.{Moment}
use Rattle.krb_exchange.specs.declared.sending.Sending.{Sending}
use Rattle.krb_exchange.specs.declared.sending.What.{What}
use Rattle.krb_exchange.specs.declared.sending.What.TheVariants as whats
use Rattle.krb_exchange_laws.specs.Events.{Begun, Ended, Event, Failed, Heard, Replied, Requested, Sent, Told, heard, moment, window_after}

-- ---- the window
abbrev pub WindowIsBounded : Type 0
WindowIsBounded = (events : List Event) → length (window_after events) ≤ 65536

-- ---- which packets are named
-- packets never go back
abbrev pub NeverGoBack : ℕ → List Event → Type 0
NeverGoBack packet [] = Unit {0}
NeverGoBack packet (event ∷ events) = (packet ≤ (moment event).packet) × NeverGoBack (moment event).packet events

-- the packets that are named: those of requests and SYNs, and in which the same octets were sent first
abbrev pub sendings_told : Told → List Sending
sendings_told told = listed told.answers ++ (listed told.resets ++ (listed told.is_about ++ told.missed))

abbrev pub packets_told : Told → List ℕ
packets_told told = option_to_list told.again ++ map (λ one. one.sent.packet) (sendings_told told)

abbrev pub NamesNoLaterPacket : Heard → Type 0
NamesNoLaterPacket one = All (λ packet. packet ≤ (moment one.event).packet) (packets_told one.told)

abbrev pub NoLaterPacketIsNamed : Type 0
NoLaterPacketIsNamed = (events : List Event) → NeverGoBack 0 events → All NamesNoLaterPacket (heard events)

-- ---- what is answered, and what is unanswered
-- A reply answers an open request of the flow the other way round, which it fits; a direction that begins has requests of its own that are unanswered; and nothing else answers.
abbrev pub IsOfItsFlow : Event → Told → Type 0
IsOfItsFlow (Replied reply flow now) told = All (λ one. is_open_request (reversed flow) (fits reply) one ≡ true) (listed told.answers)
IsOfItsFlow (Begun flow now) told = (told.answers ≡ None) × All (λ one. is_open_request flow (λ _. true) one ≡ true) told.missed
IsOfItsFlow _ told = told.answers ≡ None

abbrev pub RepliesAnswerTheOtherWay : Type 0
RepliesAnswerTheOtherWay = (events : List Event) → All (λ one. IsOfItsFlow one.event one.told) (heard events)

-- a request of a flow in a packet: as an event, and as it is told
abbrev pub is_requested : Flow → ℕ → Event → Bool
is_requested flow packet (Requested kind other octets now) = same_flow flow other && packet == now.packet
is_requested flow packet _ = false

abbrev pub is_of : Flow → ℕ → Sending → Bool
is_of flow packet one = is_request (λ _. true) one.what && (same_flow flow one.flow && packet == one.sent.packet)

-- what is told as answered or as missed, in order
abbrev pub all_closed : List Heard → List Sending
all_closed told = flat_map (λ one. listed one.told.answers ++ one.told.missed) told

-- In each flow, a packet is named by at most as many replies and requests that are unanswered as it has requests.
abbrev pub RequestsAreToldOnce : Type 0
RequestsAreToldOnce = (events : List Event) (flow : Flow) (packet : ℕ) → length (filter (is_of flow packet) (all_closed (heard events))) ≤ length (filter (is_requested flow packet) events)

-- ---- what it depends on of octets
abbrev pub octets_of : Event → List Fingerprint
octets_of (Requested kind flow octets now) = octets ∷ []
octets_of _ = []

-- those of the requests, in order
abbrev pub octets_in : List Event → List Fingerprint
octets_in events = flat_map octets_of events

abbrev pub same_if : Option Fingerprint → Option Fingerprint → Bool
same_if (Some octets) (Some others) = same_octets octets others
same_if _ _ = false

abbrev pub same_at : ℕ → ℕ → List Fingerprint → Bool
same_at place other octets = same_if (slice_get octets place) (slice_get octets other)

-- everything but the octets
abbrev pub no_octets : Fingerprint
no_octets = record { hash = 0; length = 0 }

abbrev pub event_without : Event → Event
event_without (Requested kind flow octets now) = Requested kind flow no_octets now
event_without event = event

abbrev pub what_without : What → What
what_without (whats.Request kind octets) = whats.Request kind no_octets
what_without (whats.Syn number) = whats.Syn number

abbrev pub sending_without : Sending → Sending
sending_without one = record one { what = what_without one.what }

abbrev pub told_without : Told → Told
told_without told = record {
  again = told.again;
  answers = option_map sending_without told.answers;
  resets = option_map sending_without told.resets;
  is_about = option_map sending_without told.is_about;
  missed = map sending_without told.missed;
}

-- Two captures have the same events but for the octets of their requests, and two requests are the same in one of them if they are in the other: the same is told.
abbrev pub SameOctetsDecide : Type 0
SameOctetsDecide = (events others : List Event) → map event_without events ≡ map event_without others → ((place other : ℕ) → same_at place other (octets_in events) ≡ same_at place other (octets_in others)) → map (λ one. told_without one.told) (heard events) ≡ map (λ one. told_without one.told) (heard others)

-- ---- what it depends on of other flows
abbrev pub is_either : Flow → Flow → Bool
is_either flow other = same_flow flow other || same_flow (reversed flow) other

-- the events of a flow and of the flow the other way round, and the end
abbrev pub is_between : Flow → Event → Bool
is_between flow (Requested kind other octets now) = is_either flow other
is_between flow (Replied reply other now) = is_either flow other
is_between flow (Begun other now) = is_either flow other
is_between flow (Sent header other now) = is_either flow other
is_between flow (Failed other now) = is_either flow other
is_between flow (Ended now) = true

-- those that may add a sending
abbrev pub adds : Event → Bool
adds (Requested kind flow octets now) = true
adds (Sent header flow now) = is_asking header
adds _ = false

-- which request is answered by an event: when it was sent
abbrev pub answer_to : Heard → Option Moment
answer_to one = option_map (λ sending. sending.sent) one.told.answers

-- If a capture has at most 65536 requests and SYNs, the replies of a flow answer the requests that they answer where its events are alone.
abbrev pub FlowsAreApart : Type 0
FlowsAreApart = (events : List Event) (flow : Flow) → length (filter adds events) ≤ 65536 → map answer_to (filter (λ one. is_between flow one.event) (heard events)) ≡ map answer_to (heard (filter (is_between flow) events))
