-- In each flow a packet is named by at most as many replies and requests that are unanswered as it has requests: those that are told and those that are open are no more than came.
use Rattle.std.proofs.Common.{◌≡◌, ℕ, ◌+◌, ◌≤◌, arith, Bool, true, false, ◌&&◌, if◌then◌else◌, List, [], ◌∷◌, ◌++◌, length, filter, nat_lt, Option, Some, None, refl, sym, le_of_eq, le_trans}
use Rattle.std.specs.List.{AllByRecursion}
use Rattle.std.proofs.lemmas.Bool.{true≢false}
use Rattle.krb_record.specs.declared.flow.Flow.{Flow}
use Rattle.krb_exchange.specs.Happened.{After, added, answered, at_place, before_of, erred, fits, has_number, is_asking, is_ended, is_open, is_open_request, is_request, is_syn, latest_syn, listed, open_syn, place_if, replaced, request_of, reversed, same_flow, segment_taken, syn_after, syn_anew, syn_answered, syn_of, syn_taken, with_state, with_syn}
use Rattle.krb_exchange.specs.declared.parties.Header.{Header}
use Rattle.krb_exchange.specs.declared.sending.Moment.{Moment}
use Rattle.krb_exchange.specs.declared.sending.Sending.{Sending}
use Rattle.krb_exchange.specs.declared.sending.State.{State}
use Rattle.krb_exchange.specs.declared.sending.State.TheVariants as states
use Rattle.krb_exchange.specs.declared.sendings.SegmentTold.{SegmentTold}
use Rattle.krb_exchange_laws.specs.Events.{Begun, Ended, Event, Failed, Replied, Requested, Sent, Told, heard, heard_from, taken}
use Rattle.krb_exchange_laws.specs.Laws.{RequestsAreToldOnce, all_closed, is_of, is_requested}
use Rattle.krb_exchange_laws.proofs.Answering.{answers-fit}
use Rattle.krb_exchange_laws.proofs.Each.{OfOne, each-append, each-listed}
use Rattle.krb_exchange_laws.proofs.Found.{found-all, found-if}
use Rattle.krb_exchange_laws.proofs.Tally.{live, tally, tally-added, tally-append, tally-ended_if, tally-filter, tally-open, tally-open_in, tally-with_state, weight}
use Rattle.krb_exchange_laws.proofs.Windows.{after_again, after_segment, after_syn, roomed}

-- ---- what is told is open
abbrev IsOpen : Sending → Type 0
IsOpen one = is_open one.state ≡ true

first-part : (a b : Bool) → (a && b) ≡ true → a ≡ true
first-part true b e = refl
first-part false b e = absurd (true≢false (sym e))

open-request : (flow : Flow) (reply-fits : Sending → Bool) (one : Option Sending) → ((one : Sending) → reply-fits one ≡ true → IsOpen one) → OfOne (λ one. reply-fits one ≡ true) one → OfOne IsOpen one
open-request flow test None h k = tt
open-request flow test (Some one) h k = h one k

open-added : (one : Sending) (xs : List Sending) → OfOne IsOpen (added one xs).told
open-added one xs = by (nat_lt (length xs) 65536) xs
  where
    if-open : (x : Sending) (b : Bool) → is_open x.state ≡ b → OfOne IsOpen (if b then Some x else None)
    if-open x true e = e
    if-open x false e = tt

    by : (b : Bool) (xs : List Sending) → OfOne IsOpen (roomed b xs).told
    by true xs = tt
    by false [] = tt
    by false (x ∷ xs) = if-open x (is_open x.state) refl

open-each : (test : Sending → Bool) → ((one : Sending) → test one ≡ true → IsOpen one) → (xs : List Sending) → AllByRecursion (λ one. test one ≡ true) xs → AllByRecursion IsOpen xs
open-each test h [] k = tt
open-each test h (x ∷ xs) k = (h x k.0, open-each test h xs k.1)

open-syn : (flow : Flow) (xs : List Sending) → OfOne IsOpen (at_place (open_syn flow xs) xs)
open-syn flow xs = found-if (λ one. is_open one.state) (latest_syn flow xs) xs

-- ---- what is told as answered or missed, and what is opened after it
abbrev pub closed : Told → List Sending
closed told = listed told.answers ++ told.missed

module _ (flow : Flow) (packet : ℕ) where
  abbrev opened : List Sending → ℕ
  opened xs = tally (live (is_of flow packet)) xs

  syn-not : (number : ℕ) (other : Flow) (now first : Moment) → weight (live (is_of flow packet) (syn_of number other now first)) ≡ 0
  syn-not number other now first = refl

  fewer : (state : State) → is_open state ≡ false → (place : Option ℕ) (xs : List Sending) → opened (with_state state place xs) ≤ opened xs
  fewer state shut place xs = omega (arith, tally-with_state (is_of flow packet) state shut place xs)

  -- a segment: it answers no request, and adds none
  record Few (after : After SegmentTold) (xs : List Sending) : Type 0 where
    missed : AllByRecursion IsOpen (listed after.told.silent ++ listed after.told.missed)
    few : opened (listed after.told.silent) + opened (listed after.told.missed) + opened after.window ≤ opened xs

  few-syn : (number : ℕ) (other : Flow) (now first : Moment) (silent : Option Sending) (ys xs : List Sending) → OfOne IsOpen silent → opened (listed silent) + opened ys ≤ opened xs → Few (with_syn silent (syn_of number other now first) ys) xs
  few-syn number other now first silent ys xs s h =
      let after : opened (listed (added (syn_of number other now first) ys).told) + opened (added (syn_of number other now first) ys).window ≡ opened ys + 0 = tally-added (is_of flow packet) (syn_of number other now first) ys in
      record {
        missed = each-append IsOpen (listed silent) (listed (added (syn_of number other now first) ys).told) (each-listed IsOpen silent s) (each-listed IsOpen (added (syn_of number other now first) ys).told (open-added (syn_of number other now first) ys));
        few = omega arith;
      }

  few-anew : (number : ℕ) (other : Flow) (now : Moment) (xs : List Sending) → Few (syn_anew number other now xs) xs
  few-anew number other now xs = few-syn number other now now (syn_answered other xs).told (syn_answered other xs).window xs (open-syn other xs) (le_of_eq (tally-with_state (is_of flow packet) states.Ended refl (open_syn other xs) xs))

  few-again : (number : ℕ) (other : Flow) (now : Moment) (before : Sending) (xs : List Sending) (b : Bool) → Few (after_again other now number xs before b) xs
  few-again number other now before xs true = record { missed = tt; few = omega arith }
  few-again number other now before xs false = few-syn number other now before.first None (with_state states.Ended (latest_syn other xs) xs) xs tt (omega (arith, fewer states.Ended refl (latest_syn other xs) xs))

  few-taken : (number : ℕ) (other : Flow) (now : Moment) (xs : List Sending) → Few (syn_taken number other now xs) xs
  few-taken number other now xs = by (at_place (latest_syn other xs) xs)
    where
      one : (before : Sending) (b : Bool) → Few (after_syn other now number xs before b) xs
      one before true = few-again number other now before xs (is_ended before.state)
      one before false = few-anew number other now xs

      by : (before : Option Sending) → Few (syn_after number other now before xs) xs
      by None = few-anew number other now xs
      by (Some before) = one before (has_number number before.what)

  fewer-before : (after : After SegmentTold) (ys xs : List Sending) → opened ys ≤ opened xs → Few after ys → Few after xs
  fewer-before after ys xs l h = record { missed = h.missed; few = le_trans h.few l }

  few-segment : (header : Header) (other : Flow) (now : Moment) (xs : List Sending) → Few (segment_taken header other now xs) xs
  few-segment header other now xs = by (is_asking header)
    where
      back : opened (syn_answered (reversed other) xs).window ≤ opened xs
      back = fewer states.Ended refl (open_syn (reversed other) xs) xs

      thence : opened (syn_answered other (syn_answered (reversed other) xs).window).window ≤ opened (syn_answered (reversed other) xs).window
      thence = fewer states.Ended refl (open_syn other (syn_answered (reversed other) xs).window) (syn_answered (reversed other) xs).window

      by : (b : Bool) → Few (after_segment header other now xs b) xs
      by true = fewer-before (syn_taken header.sequence other now (syn_answered (reversed other) xs).window) (syn_answered (reversed other) xs).window xs back (few-taken header.sequence other now (syn_answered (reversed other) xs).window)
      by false = record { missed = tt; few = omega (arith, le_trans thence back) }

  -- ---- any event
  record Fewer (event : Event) (after : After Told) (xs : List Sending) : Type 0 where
    told : AllByRecursion IsOpen (closed after.told)
    few : opened (closed after.told) + opened after.window ≤ opened xs + weight (is_requested flow packet event)

  event-few : (event : Event) (xs : List Sending) → Fewer event (taken event xs) xs
  event-few (Requested kind other octets now) xs =
      let ys = with_state states.Ended (replaced kind other octets xs) xs in
      let one = request_of kind other octets now (before_of octets xs) in
      let less : opened ys ≤ opened xs = fewer states.Ended refl (replaced kind other octets xs) xs in
      let after : opened (listed (added one ys).told) + opened (added one ys).window ≡ opened ys + weight (is_requested flow packet (Requested kind other octets now)) = tally-added (is_of flow packet) one ys in
      record { told = each-listed IsOpen (added one ys).told (open-added one ys); few = omega arith }
  event-few (Replied reply other now) xs =
      let place = answered reply other xs in
      let after : opened (listed (at_place place xs)) + opened (with_state states.Ended place xs) ≡ opened xs = tally-with_state (is_of flow packet) states.Ended refl place xs in
      let whole : opened (listed (at_place place xs) ++ []) ≡ opened (listed (at_place place xs)) + 0 = tally-append (live (is_of flow packet)) (listed (at_place place xs)) [] in
      record {
        told = each-append IsOpen (listed (at_place place xs)) [] (each-listed IsOpen (at_place place xs) (open-request other (is_open_request (reversed other) (fits reply)) (at_place place xs) (λ one. first-part (is_open one.state) (is_request (fits reply) one.what && same_flow (reversed other) one.flow)) (answers-fit other.transport reply (reversed other) xs))) tt;
        few = omega arith;
      }
  event-few (Begun other now) xs =
      let test = is_open_request other (λ _. true) in
      record {
        told = open-each test (λ one. first-part (is_open one.state) (is_request (λ _. true) one.what && same_flow other one.flow)) (filter test xs) (found-all test xs);
        few = omega (arith, tally-ended_if (is_of flow packet) test xs);
      }
  event-few (Sent header other now) xs =
      let after : Few (segment_taken header other now xs) xs = few-segment header other now xs in
      record {
        told = after.missed;
        few = omega (arith, after.few, tally-append (live (is_of flow packet)) (listed (segment_taken header other now xs).told.silent) (listed (segment_taken header other now xs).told.missed));
      }
  event-few (Failed other now) xs = record { told = tt; few = omega (arith, fewer states.Erred refl (place_if (λ one. is_syn one.what) (erred other xs) xs) xs) }
  event-few (Ended now) xs = record { told = found-all (λ one. is_open one.state) xs; few = omega (arith, tally-open_in (is_of flow packet) xs) }

  from-few : (events : List Event) (xs : List Sending) → tally (is_of flow packet) (all_closed (heard_from xs events)) ≤ opened xs + tally (is_requested flow packet) events
  from-few [] xs = omega arith
  from-few (event ∷ events) xs =
      let after : Fewer event (taken event xs) xs = event-few event xs in
      let rest : tally (is_of flow packet) (all_closed (heard_from (taken event xs).window events)) ≤ opened (taken event xs).window + tally (is_requested flow packet) events = from-few events (taken event xs).window in
      let here : tally (is_of flow packet) (closed (taken event xs).told) ≡ opened (closed (taken event xs).told) = tally-open (is_of flow packet) (closed (taken event xs).told) after.told in
      let whole : tally (is_of flow packet) (closed (taken event xs).told ++ all_closed (heard_from (taken event xs).window events)) ≡ tally (is_of flow packet) (closed (taken event xs).told) + tally (is_of flow packet) (all_closed (heard_from (taken event xs).window events)) = tally-append (is_of flow packet) (closed (taken event xs).told) (all_closed (heard_from (taken event xs).window events)) in
      omega (arith, after.few)

pub requests_are_told_once : RequestsAreToldOnce
requests_are_told_once events flow packet =
    let all : tally (is_of flow packet) (all_closed (heard events)) ≤ 0 + tally (is_requested flow packet) events = from-few flow packet events [] in
    omega (arith, tally-filter (is_of flow packet) (all_closed (heard events)), tally-filter (is_requested flow packet) events)
