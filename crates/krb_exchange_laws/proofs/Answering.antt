-- Which sendings replies answer, and which are missed where a direction begins.
use Rattle.std.proofs.Common.{◌≡◌, Bool, true, false, ◌&&◌, List, [], ◌∷◌, filter, Option, Some, None, refl, sym, true≢false}
use Rattle.std.specs.List.{AllByRecursion}
use Rattle.std.proofs.lemmas.Bool.{and_from}
use Rattle.std.proofs.lemmas.List.Elements.{All-from_recursion}
use Rattle.krb_record.specs.declared.flow.Flow.{Flow}
use Rattle.krb_record.specs.declared.flow.Transport.{Transport}
use Rattle.krb_record.specs.declared.flow.Transport.TheVariants as transports
use Rattle.krb_record.specs.declared.told.Request.{Request}
use Rattle.krb_exchange.specs.Happened.{answered, answered_over, at_place, first_place, fits, is_open, is_open_request, is_request, listed, place_if, reversed, same_flow}
use Rattle.krb_exchange.specs.declared.parties.Reply.{Reply}
use Rattle.krb_exchange.specs.declared.sending.Sending.{Sending}
use Rattle.krb_exchange.specs.declared.sending.State.{State}
use Rattle.krb_exchange.specs.declared.sending.State.TheVariants as states
use Rattle.krb_exchange.specs.declared.sending.What.{What}
use Rattle.krb_exchange.specs.declared.sending.What.TheVariants as whats
use Rattle.krb_exchange_laws.specs.Events.{Begun, Ended, Event, Failed, Heard, Replied, Requested, Sent, heard, heard_from, taken}
use Rattle.krb_exchange_laws.specs.Laws.{IsOfItsFlow, RepliesAnswerTheOtherWay}
use Rattle.krb_exchange_laws.proofs.Each.{OfOne, each-listed}
use Rattle.krb_exchange_laws.proofs.Found.{found-all, found-first, found-if, found-latest, kept-if}

-- a request of any kind that is open, and of a kind that passes
narrowed : (flow : Flow) (pass : Request → Bool) (one : Sending) → is_open_request flow (λ _. true) one ≡ true → is_request pass one.what ≡ true → is_open_request flow pass one ≡ true
narrowed flow pass one h k = by one.state one.what (same_flow flow one.flow) h k
  where
    by : (state : State) (what : What) (b : Bool) → (is_open state && (is_request (λ _. true) what && b)) ≡ true → is_request pass what ≡ true → (is_open state && (is_request pass what && b)) ≡ true
    by states.Open what true h k = and_from (is_request pass what) true k refl
    by states.Open (whats.Request kind octets) false h k = absurd (true≢false (sym h))
    by states.Open (whats.Syn number) false h k = absurd (true≢false (sym h))
    by states.Ended what b h k = absurd (true≢false (sym h))
    by states.Erred what b h k = absurd (true≢false (sym h))

both : (flow : Flow) (pass : Request → Bool) (one : Option Sending) → OfOne (λ one. is_open_request flow (λ _. true) one ≡ true) one → OfOne (λ one. is_request pass one.what ≡ true) one → OfOne (λ one. is_open_request flow pass one ≡ true) one
both flow pass None h k = tt
both flow pass (Some one) h k = narrowed flow pass one h k

pub answers-fit : (transport : Transport) (reply : Reply) (flow : Flow) (xs : List Sending) → OfOne (λ one. is_open_request flow (fits reply) one ≡ true) (at_place (answered_over transport reply flow xs) xs)
answers-fit transports.Udp reply flow xs = found-latest (is_open_request flow (fits reply)) xs
answers-fit transports.Tcp reply flow xs =
    let any = is_open_request flow (λ _. true) in
    let fit = λ (one : Sending). is_request (fits reply) one.what in
    both flow (fits reply) (at_place (place_if fit (first_place any xs) xs) xs) (kept-if (λ one. is_open_request flow (λ _. true) one ≡ true) fit (first_place any xs) xs (found-first any xs)) (found-if fit (first_place any xs) xs)

event-answers : (event : Event) (xs : List Sending) → IsOfItsFlow event (taken event xs).told
event-answers (Requested kind flow octets now) xs = refl
event-answers (Replied reply flow now) xs = All-from_recursion (λ one. is_open_request (reversed flow) (fits reply) one ≡ true) (listed (at_place (answered reply flow xs) xs)) (each-listed (λ one. is_open_request (reversed flow) (fits reply) one ≡ true) (at_place (answered reply flow xs) xs) (answers-fit flow.transport reply (reversed flow) xs))
event-answers (Begun flow now) xs = (refl, All-from_recursion (λ one. is_open_request flow (λ _. true) one ≡ true) (filter (is_open_request flow (λ _. true)) xs) (found-all (is_open_request flow (λ _. true)) xs))
event-answers (Sent header flow now) xs = refl
event-answers (Failed flow now) xs = refl
event-answers (Ended now) xs = refl

from-answers : (events : List Event) (xs : List Sending) → AllByRecursion (λ one. IsOfItsFlow one.event one.told) (heard_from xs events)
from-answers [] xs = tt
from-answers (event ∷ events) xs = (event-answers event xs, from-answers events (taken event xs).window)

pub replies_answer_the_other_way : RepliesAnswerTheOtherWay
replies_answer_the_other_way events = All-from_recursion (λ (one : Heard). IsOfItsFlow one.event one.told) (heard events) (from-answers events [])
