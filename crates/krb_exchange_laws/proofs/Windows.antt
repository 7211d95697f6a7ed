-- How many sendings a window has.
use Rattle.std.proofs.Common.{◌≡◌, ℕ, suc, ◌<◌, ◌≤◌, arith, Bool, true, false, nat_lt, if◌then◌else◌, List, [], ◌∷◌, length, slice_get, Option, Some, None, refl, ap, length-append, length-set}
use Rattle.std.proofs.lemmas.Bool.{ltb-true}
use Rattle.krb_record.specs.declared.flow.Flow.{Flow}
use Rattle.krb_exchange.specs.Happened.{After, added, answered, at_place, before_of, changed, ended_if, erred, has_number, in_state, is_asking, is_ended, is_open_request, is_syn, latest_syn, open_syn, place_if, replaced, request_of, reversed, segment_taken, syn_after, syn_again, syn_anew, syn_answered, syn_of, syn_taken, told_of_reset, told_of_syn, with_room, with_state, with_syn, without_first}
use Rattle.krb_exchange.specs.declared.parties.Header.{Header}
use Rattle.krb_exchange.specs.declared.sending.Moment.{Moment}
use Rattle.krb_exchange.specs.declared.sending.Sending.{Sending}
use Rattle.krb_exchange.specs.declared.sending.State.{State}
use Rattle.krb_exchange.specs.declared.sending.State.TheVariants as states
use Rattle.krb_exchange.specs.declared.sendings.SegmentTold.{SegmentTold}
use Rattle.krb_exchange_laws.specs.Events.{Begun, Ended, Event, Failed, Replied, Requested, Sent, taken, window_from}
use Rattle.krb_exchange_laws.specs.Laws.{WindowIsBounded}

pub length-with_state : (state : State) (place : Option ℕ) (window : List Sending) → length (with_state state place window) ≡ length window
length-with_state state None window = refl
length-with_state state (Some place) window = by (slice_get window place)
  where
    by : (one : Option Sending) → length (changed state window place one) ≡ length window
    by None = refl
    by (Some one) = length-set window place (in_state state one)

pub length-ended_if : (test : Sending → Bool) (window : List Sending) → length (ended_if test window) ≡ length window
length-ended_if test [] = refl
length-ended_if test (one ∷ window) = ap (λ n. suc n) (length-ended_if test window)

few-without_first : (window : List Sending) → length window ≤ 65536 → length (without_first window).window < 65536
few-without_first [] few = omega arith
few-without_first (first ∷ others) few = omega arith

-- with room for one more, if there is none
abbrev pub roomed : Bool → List Sending → After (Option Sending)
roomed b window = if b then record { told = None; window = window } else without_first window

few-with_room : (window : List Sending) → length window ≤ 65536 → length (with_room window).window < 65536
few-with_room window few = by (nat_lt (length window) 65536) refl
  where
    by : (b : Bool) → nat_lt (length window) 65536 ≡ b → length (roomed b window).window < 65536
    by true e = ltb-true (length window) 65536 e
    by false e = few-without_first window few

few-added : (sending : Sending) (window : List Sending) → length window ≤ 65536 → length (added sending window).window ≤ 65536
few-added sending window few =
    let room : length (with_room window).window < 65536 = few-with_room window few in
    omega (arith, length-append (with_room window).window (sending ∷ []))

few-with_state : (state : State) (place : Option ℕ) (window : List Sending) → length window ≤ 65536 → length (with_state state place window) ≤ 65536
few-with_state state place window few = omega (arith, length-with_state state place window)

-- ---- after a segment
-- what its tests choose from
abbrev pub after_again : Flow → Moment → ℕ → List Sending → Sending → Bool → After SegmentTold
after_again flow now number window before b = if b then record { told = told_of_syn None None; window = window } else with_syn None (syn_of number flow now before.first) (with_state states.Ended (latest_syn flow window) window)

abbrev pub after_syn : Flow → Moment → ℕ → List Sending → Sending → Bool → After SegmentTold
after_syn flow now number window before b = if b then syn_again number flow now before window else syn_anew number flow now window

abbrev pub after_segment : Header → Flow → Moment → List Sending → Bool → After SegmentTold
after_segment header flow now window b =
    let back = syn_answered (reversed flow) window in
    if b then syn_taken header.sequence flow now back.window else record { told = told_of_reset header back.told; window = (syn_answered flow back.window).window }

module _ (flow : Flow) (now : Moment) (number : ℕ) (window : List Sending) (few : length window ≤ 65536) where
  few-anew : length (syn_anew number flow now window).window ≤ 65536
  few-anew = few-added (syn_of number flow now now) (syn_answered flow window).window (few-with_state states.Ended (open_syn flow window) window few)

  few-again : (before : Sending) (b : Bool) → length (after_again flow now number window before b).window ≤ 65536
  few-again before true = few
  few-again before false = few-added (syn_of number flow now before.first) (with_state states.Ended (latest_syn flow window) window) (few-with_state states.Ended (latest_syn flow window) window few)

  few-syn : length (syn_taken number flow now window).window ≤ 65536
  few-syn = by (at_place (latest_syn flow window) window)
    where
      one : (before : Sending) (b : Bool) → length (after_syn flow now number window before b).window ≤ 65536
      one before true = few-again before (is_ended before.state)
      one before false = few-anew

      by : (before : Option Sending) → length (syn_after number flow now before window).window ≤ 65536
      by None = few-anew
      by (Some before) = one before (has_number number before.what)

few-segment : (header : Header) (flow : Flow) (now : Moment) (window : List Sending) → length window ≤ 65536 → length (segment_taken header flow now window).window ≤ 65536
few-segment header flow now window few = by (is_asking header)
  where
    left : length (syn_answered (reversed flow) window).window ≤ 65536
    left = few-with_state states.Ended (open_syn (reversed flow) window) window few

    by : (b : Bool) → length (after_segment header flow now window b).window ≤ 65536
    by true = few-syn flow now header.sequence (syn_answered (reversed flow) window).window left
    by false = few-with_state states.Ended (open_syn flow (syn_answered (reversed flow) window).window) (syn_answered (reversed flow) window).window left

-- ---- after any event
few-taken : (event : Event) (window : List Sending) → length window ≤ 65536 → length (taken event window).window ≤ 65536
few-taken (Requested kind flow octets now) window few = few-added (request_of kind flow octets now (before_of octets window)) (with_state states.Ended (replaced kind flow octets window) window) (few-with_state states.Ended (replaced kind flow octets window) window few)
few-taken (Replied reply flow now) window few = few-with_state states.Ended (answered reply flow window) window few
few-taken (Begun flow now) window few = omega (arith, length-ended_if (is_open_request flow (λ _. true)) window)
few-taken (Sent header flow now) window few = few-segment header flow now window few
few-taken (Failed flow now) window few = few-with_state states.Erred (place_if (λ one. is_syn one.what) (erred flow window) window) window few
few-taken (Ended now) window few = omega arith

few-from : (events : List Event) (window : List Sending) → length window ≤ 65536 → length (window_from window events) ≤ 65536
few-from [] window few = few
few-from (event ∷ events) window few = few-from events (taken event window).window (few-taken event window few)

pub window_is_bounded : WindowIsBounded
window_is_bounded events = few-from events [] (omega arith)
