-- A window grows by one with a request or a SYN, and by none with anything else.
use Rattle.std.proofs.Common.{◌≡◌, ℕ, ◌+◌, ◌<◌, ◌≤◌, arith, Bool, true, false, nat_lt, List, [], ◌∷◌, ◌++◌, length, Option, Some, None, ap, length-append}
use Rattle.std.proofs.lemmas.Bool.{lt-ltb}
use Rattle.krb_record.specs.declared.flow.Flow.{Flow}
use Rattle.krb_exchange.specs.Happened.{added, answered, at_place, before_of, erred, has_number, is_asking, is_ended, is_open_request, is_syn, latest_syn, open_syn, place_if, replaced, request_of, reversed, segment_taken, syn_after, syn_anew, syn_answered, syn_of, syn_taken, with_room, with_state}
use Rattle.krb_exchange.specs.declared.parties.Header.{Header}
use Rattle.krb_exchange.specs.declared.sending.Moment.{Moment}
use Rattle.krb_exchange.specs.declared.sending.Sending.{Sending}
use Rattle.krb_exchange.specs.declared.sending.State.TheVariants as states
use Rattle.krb_exchange_laws.specs.Events.{Begun, Ended, Event, Failed, Replied, Requested, Sent, taken}
use Rattle.krb_exchange_laws.specs.Laws.{adds}
use Rattle.krb_exchange_laws.proofs.Tally.{weight}
use Rattle.krb_exchange_laws.proofs.Windows.{after_again, after_segment, after_syn, length-ended_if, length-with_state, roomed}

-- while there is room, none leaves
pub added-none : (one : Sending) (xs : List Sending) → length xs < 65536 → (added one xs).window ≡ xs ++ one ∷ []
added-none one xs few = ap (λ b. (roomed b xs).window ++ one ∷ []) (lt-ltb (length xs) 65536 few)

room-grows : (b : Bool) (xs : List Sending) → length (roomed b xs).window ≤ length xs
room-grows true xs = omega arith
room-grows false [] = omega arith
room-grows false (x ∷ xs) = omega arith

added-grows : (one : Sending) (xs : List Sending) → length (added one xs).window ≤ length xs + 1
added-grows one xs =
    let room : length (with_room xs).window ≤ length xs = room-grows (nat_lt (length xs) 65536) xs in
    omega (arith, length-append (with_room xs).window (one ∷ []))

module _ (flow : Flow) (now : Moment) (number : ℕ) (xs : List Sending) where
  anew-grows : length (syn_anew number flow now xs).window ≤ length xs + 1
  anew-grows =
      let same : length (syn_answered flow xs).window ≡ length xs = length-with_state states.Ended (open_syn flow xs) xs in
      omega (arith, added-grows (syn_of number flow now now) (syn_answered flow xs).window)

  again-grows : (before : Sending) (b : Bool) → length (after_again flow now number xs before b).window ≤ length xs + 1
  again-grows before true = omega arith
  again-grows before false =
      let same : length (with_state states.Ended (latest_syn flow xs) xs) ≡ length xs = length-with_state states.Ended (latest_syn flow xs) xs in
      omega (arith, added-grows (syn_of number flow now before.first) (with_state states.Ended (latest_syn flow xs) xs))

  syn-grows : length (syn_taken number flow now xs).window ≤ length xs + 1
  syn-grows = by (at_place (latest_syn flow xs) xs)
    where
      one : (before : Sending) (b : Bool) → length (after_syn flow now number xs before b).window ≤ length xs + 1
      one before true = again-grows before (is_ended before.state)
      one before false = anew-grows

      by : (before : Option Sending) → length (syn_after number flow now before xs).window ≤ length xs + 1
      by None = anew-grows
      by (Some before) = one before (has_number number before.what)

segment-grows : (header : Header) (flow : Flow) (now : Moment) (xs : List Sending) → length (segment_taken header flow now xs).window ≤ length xs + weight (is_asking header)
segment-grows header flow now xs = by (is_asking header)
  where
    same : length (syn_answered (reversed flow) xs).window ≡ length xs
    same = length-with_state states.Ended (open_syn (reversed flow) xs) xs

    by : (b : Bool) → length (after_segment header flow now xs b).window ≤ length xs + weight b
    by true = omega (arith, same, syn-grows flow now header.sequence (syn_answered (reversed flow) xs).window)
    by false = omega (arith, same, length-with_state states.Ended (open_syn flow (syn_answered (reversed flow) xs).window) (syn_answered (reversed flow) xs).window)

pub grows : (event : Event) (xs : List Sending) → length (taken event xs).window ≤ length xs + weight (adds event)
grows (Requested kind flow octets now) xs =
    let same : length (with_state states.Ended (replaced kind flow octets xs) xs) ≡ length xs = length-with_state states.Ended (replaced kind flow octets xs) xs in
    omega (arith, added-grows (request_of kind flow octets now (before_of octets xs)) (with_state states.Ended (replaced kind flow octets xs) xs))
grows (Replied reply flow now) xs = omega (arith, length-with_state states.Ended (answered reply flow xs) xs)
grows (Begun flow now) xs = omega (arith, length-ended_if (is_open_request flow (λ _. true)) xs)
grows (Sent header flow now) xs = segment-grows header flow now xs
grows (Failed flow now) xs = omega (arith, length-with_state states.Erred (place_if (λ one. is_syn one.what) (erred flow xs) xs) xs)
grows (Ended now) xs = omega arith
