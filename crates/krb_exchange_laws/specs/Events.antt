-- The events of a capture, and what is told of them: a fold, from a window with no sendings.
use Rattle.std.specs.Prelude.{List, [], ◌∷◌, ◌++◌, Option, None}
use Rattle.krb_record.specs.declared.flow.Flow.{Flow}
use Rattle.krb_record.specs.declared.told.Request.{Request}
use Rattle.krb_exchange.specs.Happened.{After, begun, error_taken, listed, open_in, replied, requested, segment_taken}
use Rattle.krb_exchange.specs.declared.fingerprint.Fingerprint.{Fingerprint}
use Rattle.krb_exchange.specs.declared.parties.Header.{Header}
use Rattle.krb_exchange.specs.declared.parties.Reply.{Reply}
use Rattle.krb_exchange.specs.declared.sending.Moment.{Moment}
use Rattle.krb_exchange.specs.declared.sending.Sending.{Sending}
use Rattle.std.specs.Prelude.{ℕ}

-- An event, with the packet that it comes with: a request, a reply, a direction of TCP that begins, a segment of TCP, an ICMP error about a flow, and the end of the capture.
pub data Event : Type 0 where
  Requested : (kind : Request) → (flow : Flow) → (octets : Fingerprint) → (now : Moment) → Event
  Replied : (reply : Reply) → (flow : Flow) → (now : Moment) → Event
  Begun : (flow : Flow) → (now : Moment) → Event
  Sent : (header : Header) → (flow : Flow) → (now : Moment) → Event
  Failed : (flow : Flow) → (now : Moment) → Event
  Ended : (now : Moment) → Event

abbrev pub moment : Event → Moment
moment (Requested kind flow octets now) = now
moment (Replied reply flow now) = now
moment (Begun flow now) = now
moment (Sent header flow now) = now
moment (Failed flow now) = now
moment (Ended now) = now

-- What is told of an event: of a request, the packet in which the same octets were sent first; of a reply, the request that it answers; of a segment, the SYN that it resets; of an error, the sending that it is about; and of any event, the sendings that nothing answered.
pub record Told : Type 0 where
  pub again : Option ℕ
  pub answers : Option Sending
  pub resets : Option Sending
  pub is_about : Option Sending
  pub missed : List Sending

abbrev pub nothing : Told
nothing = record { again = None; answers = None; resets = None; is_about = None; missed = [] }

-- what is told of an event, and the window after it
abbrev pub taken : Event → List Sending → After Told
taken (Requested kind flow octets now) window =
    let after = requested kind flow octets now window in
    record { told = record nothing { again = after.told.again; missed = listed after.told.missed }; window = after.window }
taken (Replied reply flow now) window = let after = replied reply flow window in record { told = record nothing { answers = after.told }; window = after.window }
taken (Begun flow now) window = let after = begun flow window in record { told = record nothing { missed = after.told }; window = after.window }
taken (Sent header flow now) window =
    let after = segment_taken header flow now window in
    record { told = record nothing { resets = after.told.reset; missed = listed after.told.silent ++ listed after.told.missed }; window = after.window }
taken (Failed flow now) window = let after = error_taken flow window in record { told = record nothing { is_about = after.told }; window = after.window }
taken (Ended now) window = record { told = record nothing { missed = open_in window }; window = [] }

-- an event, with what is told of it
pub record Heard : Type 0 where
  pub event : Event
  pub told : Told

abbrev pub heard_from : List Sending → List Event → List Heard
heard_from window [] = []
heard_from window (event ∷ events) = record { event = event; told = (taken event window).told } ∷ heard_from (taken event window).window events

abbrev pub window_from : List Sending → List Event → List Sending
window_from window [] = window
window_from window (event ∷ events) = window_from (taken event window).window events

-- the events of a capture
abbrev pub heard : List Event → List Heard
heard events = heard_from [] events

abbrev pub window_after : List Event → List Sending
window_after events = window_from [] events
