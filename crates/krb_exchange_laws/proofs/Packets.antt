-- No packet is named that comes after that of the event.
use Rattle.std.proofs.Common.{ℕ, ◌≤◌, Bool, true, false, if◌then◌else◌, List, [], ◌∷◌, ◌++◌, map, Option, Some, None, option_map, option_to_list, le_refl, le_trans}
use Rattle.std.specs.List.{AllByRecursion}
use Rattle.std.proofs.lemmas.List.Elements.{All-from_recursion}
use Rattle.krb_record.specs.declared.flow.Flow.{Flow}
use Rattle.krb_exchange.specs.Happened.{After, answered, at_place, before_of, erred, first_of, has_number, has_octets, in_state, is_asking, is_ended, is_open, is_open_request, is_syn, latest_place, latest_syn, listed, open_syn, place_if, replaced, request_of, requested, reversed, segment_taken, syn_after, syn_anew, syn_answered, syn_of, syn_taken, with_state, with_syn}
use Rattle.krb_exchange.specs.declared.parties.Header.{Header}
use Rattle.krb_exchange.specs.declared.sending.Moment.{Moment}
use Rattle.krb_exchange.specs.declared.sending.Sending.{Sending}
use Rattle.krb_exchange.specs.declared.sending.State.{State}
use Rattle.krb_exchange.specs.declared.sending.State.TheVariants as states
use Rattle.krb_exchange.specs.declared.sendings.SegmentTold.{SegmentTold}
use Rattle.krb_exchange_laws.specs.Events.{Begun, Ended, Event, Failed, Replied, Requested, Sent, Told, heard, heard_from, moment, taken}
use Rattle.krb_exchange_laws.specs.Laws.{NamesNoLaterPacket, NeverGoBack, NoLaterPacketIsNamed, packets_told, sendings_told}
use Rattle.krb_exchange_laws.proofs.Each.{OfOne, each-added, each-append, each-ended_if, each-filter, each-listed, each-place, each-with_state}
use Rattle.krb_exchange_laws.proofs.Windows.{after_again, after_segment, after_syn}

-- a sending that a packet up to this one had, and its first one, too
abbrev IsBy : ℕ → Sending → Type 0
IsBy last one = (one.sent.packet ≤ last) × (one.first.packet ≤ last)

by-kept : (last : ℕ) (state : State) (one : Sending) → IsBy last one → IsBy last (in_state state one)
by-kept last state one h = h

by-later : (last later : ℕ) → last ≤ later → (xs : List Sending) → AllByRecursion (IsBy last) xs → AllByRecursion (IsBy later) xs
by-later last later l [] h = tt
by-later last later l (x ∷ xs) h = ((le_trans h.0.0 l, le_trans h.0.1 l), by-later last later l xs h.1)

record SegmentEach (last : ℕ) (after : After SegmentTold) : Type 0 where
  reset : OfOne (IsBy last) after.told.reset
  silent : OfOne (IsBy last) after.told.silent
  missed : OfOne (IsBy last) after.told.missed
  window : AllByRecursion (IsBy last) after.window

record TakenEach (last : ℕ) (after : After Told) : Type 0 where
  again : AllByRecursion (λ packet. packet ≤ last) (option_to_list after.told.again)
  told : AllByRecursion (IsBy last) (sendings_told after.told)
  window : AllByRecursion (IsBy last) after.window

module _ (last : ℕ) (now : Moment) (upto : now.packet ≤ last) where
  with-state : (state : State) (place : Option ℕ) (xs : List Sending) → AllByRecursion (IsBy last) xs → AllByRecursion (IsBy last) (with_state state place xs)
  with-state state place xs h = each-with_state (IsBy last) (by-kept last) state place xs h

  -- ---- a segment
  syn-by : (number : ℕ) (flow : Flow) (first : Moment) (silent : Option Sending) (xs : List Sending) → first.packet ≤ last → OfOne (IsBy last) silent → AllByRecursion (IsBy last) xs → SegmentEach last (with_syn silent (syn_of number flow now first) xs)
  syn-by number flow first silent xs l s h =
      let after = each-added (IsBy last) (syn_of number flow now first) xs h (upto, l) in
      record { reset = tt; silent = s; missed = after.told; window = after.window }

  anew-by : (number : ℕ) (flow : Flow) (xs : List Sending) → AllByRecursion (IsBy last) xs → SegmentEach last (syn_anew number flow now xs)
  anew-by number flow xs h = syn-by number flow now (syn_answered flow xs).told (syn_answered flow xs).window upto (each-place (IsBy last) (open_syn flow xs) xs h) (with-state states.Ended (open_syn flow xs) xs h)

  again-by : (number : ℕ) (flow : Flow) (before : Sending) (xs : List Sending) (b : Bool) → IsBy last before → AllByRecursion (IsBy last) xs → SegmentEach last (after_again flow now number xs before b)
  again-by number flow before xs true p h = record { reset = tt; silent = tt; missed = tt; window = h }
  again-by number flow before xs false p h = syn-by number flow before.first None (with_state states.Ended (latest_syn flow xs) xs) p.1 tt (with-state states.Ended (latest_syn flow xs) xs h)

  taken-by : (number : ℕ) (flow : Flow) (xs : List Sending) → AllByRecursion (IsBy last) xs → SegmentEach last (syn_taken number flow now xs)
  taken-by number flow xs h = by (at_place (latest_syn flow xs) xs) (each-place (IsBy last) (latest_syn flow xs) xs h)
    where
      one : (before : Sending) (b : Bool) → IsBy last before → SegmentEach last (after_syn flow now number xs before b)
      one before true p = again-by number flow before xs (is_ended before.state) p h
      one before false p = anew-by number flow xs h

      by : (before : Option Sending) → OfOne (IsBy last) before → SegmentEach last (syn_after number flow now before xs)
      by None p = anew-by number flow xs h
      by (Some before) p = one before (has_number number before.what) p

  segment-by : (header : Header) (flow : Flow) (xs : List Sending) → AllByRecursion (IsBy last) xs → SegmentEach last (segment_taken header flow now xs)
  segment-by header flow xs h = by (is_asking header)
    where
      back : AllByRecursion (IsBy last) (syn_answered (reversed flow) xs).window
      back = with-state states.Ended (open_syn (reversed flow) xs) xs h

      reset : (b : Bool) → OfOne (IsBy last) (if b then (syn_answered (reversed flow) xs).told else None)
      reset true = each-place (IsBy last) (open_syn (reversed flow) xs) xs h
      reset false = tt

      by : (b : Bool) → SegmentEach last (after_segment header flow now xs b)
      by true = taken-by header.sequence flow (syn_answered (reversed flow) xs).window back
      by false = record {
        reset = reset header.rst;
        silent = tt;
        missed = tt;
        window = with-state states.Ended (open_syn flow (syn_answered (reversed flow) xs).window) (syn_answered (reversed flow) xs).window back;
      }

-- ---- any event
again-packet : (last : ℕ) (before : Option Sending) → OfOne (IsBy last) before → AllByRecursion (λ packet. packet ≤ last) (option_to_list (option_map (λ one. one.first.packet) before))
again-packet last None h = tt
again-packet last (Some before) h = (h.1, tt)

first-packet : (last : ℕ) (now : Moment) (before : Option Sending) → now.packet ≤ last → OfOne (IsBy last) before → (first_of before now).packet ≤ last
first-packet last now None l h = l
first-packet last now (Some before) l h = h.1

event-by : (last : ℕ) (event : Event) (xs : List Sending) → (moment event).packet ≤ last → AllByRecursion (IsBy last) xs → TakenEach last (taken event xs)
event-by last (Requested kind flow octets now) xs l h =
    let before = each-place (IsBy last) (latest_place (λ one. has_octets octets one.what) xs) xs h in
    let after = each-added (IsBy last) (request_of kind flow octets now (before_of octets xs)) (with_state states.Ended (replaced kind flow octets xs) xs) (with-state last now l states.Ended (replaced kind flow octets xs) xs h) (l, first-packet last now (before_of octets xs) l before) in
    record { again = again-packet last (before_of octets xs) before; told = each-listed (IsBy last) (requested kind flow octets now xs).told.missed after.told; window = after.window }
event-by last (Replied reply flow now) xs l h = record {
  again = tt;
  told = each-append (IsBy last) (listed (at_place (answered reply flow xs) xs)) [] (each-listed (IsBy last) (at_place (answered reply flow xs) xs) (each-place (IsBy last) (answered reply flow xs) xs h)) tt;
  window = with-state last now l states.Ended (answered reply flow xs) xs h;
}
event-by last (Begun flow now) xs l h = record {
  again = tt;
  told = each-filter (IsBy last) (is_open_request flow (λ _. true)) xs h;
  window = each-ended_if (IsBy last) (by-kept last) (is_open_request flow (λ _. true)) xs h;
}
event-by last (Sent header flow now) xs l h =
    let after = segment-by last now l header flow xs h in
    record {
      again = tt;
      told = each-append (IsBy last) (listed (segment_taken header flow now xs).told.reset) (listed (segment_taken header flow now xs).told.silent ++ listed (segment_taken header flow now xs).told.missed) (each-listed (IsBy last) (segment_taken header flow now xs).told.reset after.reset)
          (each-append (IsBy last) (listed (segment_taken header flow now xs).told.silent) (listed (segment_taken header flow now xs).told.missed) (each-listed (IsBy last) (segment_taken header flow now xs).told.silent after.silent) (each-listed (IsBy last) (segment_taken header flow now xs).told.missed after.missed));
      window = after.window;
    }
event-by last (Failed flow now) xs l h = record {
  again = tt;
  told = each-append (IsBy last) (listed (at_place (erred flow xs) xs)) [] (each-listed (IsBy last) (at_place (erred flow xs) xs) (each-place (IsBy last) (erred flow xs) xs h)) tt;
  window = with-state last now l states.Erred (place_if (λ one. is_syn one.what) (erred flow xs) xs) xs h;
}
event-by last (Ended now) xs l h = record { again = tt; told = each-filter (IsBy last) (λ one. is_open one.state) xs h; window = tt }

-- ---- the packets
packets : (last : ℕ) (xs : List Sending) → AllByRecursion (IsBy last) xs → AllByRecursion (λ packet. packet ≤ last) (map (λ (one : Sending). one.sent.packet) xs)
packets last [] h = tt
packets last (x ∷ xs) h = (h.0.0, packets last xs h.1)

and-packets : (last : ℕ) (again : Option ℕ) (others : List ℕ) → AllByRecursion (λ packet. packet ≤ last) (option_to_list again) → AllByRecursion (λ packet. packet ≤ last) others → AllByRecursion (λ packet. packet ≤ last) (option_to_list again ++ others)
and-packets last None others h k = k
and-packets last (Some again) others h k = (h.0, k)

from-by : (events : List Event) (last : ℕ) (xs : List Sending) → NeverGoBack last events → AllByRecursion (IsBy last) xs → AllByRecursion NamesNoLaterPacket (heard_from xs events)
from-by [] last xs g h = tt
from-by (event ∷ events) last xs g h =
    let now = (moment event).packet in
    let after : TakenEach now (taken event xs) = event-by now event xs (le_refl now) (by-later last now g.0 xs h) in
    (All-from_recursion (λ packet. packet ≤ now) (packets_told (taken event xs).told) (and-packets now (taken event xs).told.again _ after.again (packets now (sendings_told (taken event xs).told) after.told)), from-by events now (taken event xs).window g.1 after.window)

pub no_later_packet_is_named : NoLaterPacketIsNamed
no_later_packet_is_named events g = All-from_recursion NamesNoLaterPacket (heard events) (from-by events 0 [] g tt)
