-- Which requests the replies of a flow answer does not depend on the events of other flows, while the window is not full.
use Rattle.std.proofs.Common.{◌≡◌, ℕ, ◌+◌, ◌<◌, ◌≤◌, arith, Bool, true, false, ◌&&◌, cond, List, [], ◌∷◌, ◌++◌, length, map, filter, Option, Some, None, option_map, refl, sym, ◌∙◌, ap, append-nil, subst}
use Rattle.std.specs.List.{AllZip}
use Rattle.std.proofs.lemmas.Bool.{true≢false}
use Rattle.std.proofs.lemmas.List.Elements.{filter-append}
use Rattle.krb_record.specs.declared.flow.Flow.{Flow}
use Rattle.krb_record.specs.declared.flow.Transport.{Transport}
use Rattle.krb_record.specs.declared.flow.Transport.TheVariants as transports
use Rattle.krb_record.specs.declared.told.Request.{Request}
use Rattle.krb_exchange.specs.Happened.{After, added, answered, answered_over, at_place, before_of, ended_if, erred, first_place, fits, has_number, has_octets, in_state, is_asking, is_ended, is_open, is_open_request, is_request, is_syn, is_syn_of, latest_place, latest_syn, open_syn, place_if, replaced, replaced_over, request_of, reversed, same_flow, same_kind, same_octets, segment_taken, syn_after, syn_anew, syn_answered, syn_of, syn_taken, with_state}
use Rattle.krb_exchange.specs.declared.fingerprint.Fingerprint.{Fingerprint}
use Rattle.krb_exchange.specs.declared.parties.Header.{Header}
use Rattle.krb_exchange.specs.declared.parties.Reply.{Reply}
use Rattle.krb_exchange.specs.declared.sending.Moment.{Moment}
use Rattle.krb_exchange.specs.declared.sending.Sending.{Sending}
use Rattle.krb_exchange.specs.declared.sending.State.{State}
use Rattle.krb_exchange.specs.declared.sending.State.TheVariants as states
use Rattle.krb_exchange.specs.declared.sending.What.{What}
use Rattle.krb_exchange.specs.declared.sending.What.TheVariants as whats
use Rattle.krb_exchange_laws.specs.Events.{Begun, Ended, Event, Failed, Replied, Requested, Sent, Told, heard_from, taken}
use Rattle.krb_exchange_laws.specs.Laws.{FlowsAreApart, adds, answer_to, is_between, is_either}
use Rattle.krb_exchange_laws.proofs.Alike.{Alikeness, AlikeIf, AreAlike, IsOneToOne, alike-append, at-alike, ended_if-alike, with_state-alike}
use Rattle.krb_exchange_laws.proofs.Each.{OfOne}
use Rattle.krb_exchange_laws.proofs.Flows.{either-reversed, either-same}
use Rattle.krb_exchange_laws.proofs.Found.{found-first, found-if, found-latest, kept-if}
use Rattle.krb_exchange_laws.proofs.Growing.{added-none, grows}
use Rattle.krb_exchange_laws.proofs.Picked.{IsSame, others-changed, others-ended, same-first, same-if, same-latest, those-ended}
use Rattle.krb_exchange_laws.proofs.Tally.{tally, tally-filter, weight}
use Rattle.krb_exchange_laws.proofs.Places.{open-request, same-answered, same-replaced}
use Rattle.krb_exchange_laws.proofs.Windows.{after_again, after_segment, after_syn, length-with_state}

-- the same octets, whenever they were sent first
abbrev apart : Alikeness
apart = record { octets = λ a b. a ≡ b; first = λ m n. Unit {0} }

one_to_one : IsOneToOne apart
one_to_one a b c d e f = ap (λ x. same_octets x c) e ∙ ap (λ x. same_octets b x) f

parts : (a b : Bool) → (a && b) ≡ true → (a ≡ true) × (b ≡ true)
parts true b e = (refl, e)
parts false b e = absurd (true≢false (sym e))

any-kind : (pass : Request → Bool) (what : What) → is_request pass what ≡ true → is_request (λ _. true) what ≡ true
any-kind pass (whats.Request kind octets) e = refl
any-kind pass (whats.Syn number) e = e

module _ (flow : Flow) where
  -- a request from one end to the other
  abbrev own : Sending → Bool
  own one = is_request (λ _. true) one.what && is_either flow one.flow

  kept : (state : State) (one : Sending) → own (in_state state one) ≡ own one
  kept state one = refl

  -- ---- open requests of a flow
  its-flow : (other : Flow) (pass : Request → Bool) (one : Sending) → is_open_request other pass one ≡ true → is_either flow one.flow ≡ is_either flow other
  its-flow other pass one e = sym (either-same flow other one.flow (parts (is_request pass one.what) (same_flow other one.flow) (parts (is_open one.state) (is_request pass one.what && same_flow other one.flow) e).1).1)

  within : (other : Flow) (pass : Request → Bool) → is_either flow other ≡ true → (one : Sending) → is_open_request other pass one ≡ true → own one ≡ true
  within other pass either one e =
      let request : is_request pass one.what ≡ true = (parts (is_request pass one.what) (same_flow other one.flow) (parts (is_open one.state) (is_request pass one.what && same_flow other one.flow) e).1).0 in
      ap (λ b. b && is_either flow one.flow) (any-kind pass one.what request) ∙ its-flow other pass one e ∙ either

  and-false : (a b : Bool) → b ≡ false → (a && b) ≡ false
  and-false true b e = e
  and-false false b e = refl

  without : (other : Flow) (pass : Request → Bool) → is_either flow other ≡ false → (one : Sending) → is_open_request other pass one ≡ true → own one ≡ false
  without other pass neither one e = and-false (is_request (λ _. true) one.what) (is_either flow one.flow) (its-flow other pass one e ∙ neither)

  not-own : (P : Sending → Type 0) → ((one : Sending) → P one → own one ≡ false) → (one : Option Sending) → OfOne P one → OfOne (λ one. own one ≡ false) one
  not-own P h None k = tt
  not-own P h (Some one) k = h one k

  syn-not : (one : Sending) → is_syn one.what ≡ true → own one ≡ false
  syn-not one e = by one.what e
    where
      by : (what : What) → is_syn what ≡ true → (is_request (λ _. true) what && is_either flow one.flow) ≡ false
      by (whats.Request kind octets) e = absurd (true≢false (sym e))
      by (whats.Syn number) e = refl

  -- ---- what leaves these requests as they are
  abbrev those : List Sending → List Sending
  those xs = filter own xs

  one-added : (one : Sending) (xs : List Sending) → length xs < 65536 → own one ≡ false → those (added one xs).window ≡ those xs
  one-added one xs few e = ap (λ ys. those ys) (added-none one xs few) ∙ filter-append own xs (one ∷ []) ∙ ap (λ b. those xs ++ cond b (one ∷ []) []) e ∙ append-nil (those xs)

  one-own : (one : Sending) (xs : List Sending) → length xs < 65536 → own one ≡ true → those (added one xs).window ≡ those xs ++ one ∷ []
  one-own one xs few e = ap (λ ys. those ys) (added-none one xs few) ∙ filter-append own xs (one ∷ []) ∙ ap (λ b. those xs ++ cond b (one ∷ []) []) e

  syn-changed : (other : Flow) (state : State) (xs : List Sending) → those (with_state state (latest_syn other xs) xs) ≡ those xs
  syn-changed other state xs = others-changed own kept state (latest_syn other xs) xs (not-own (λ one. is_syn_of other one ≡ true) (λ one e. syn-not one (parts (is_syn one.what) (same_flow other one.flow) e).0) (at_place (latest_syn other xs) xs) (found-latest (is_syn_of other) xs))

  syn-answered : (other : Flow) (xs : List Sending) → those (syn_answered other xs).window ≡ those xs
  syn-answered other xs =
      others-changed own kept states.Ended (open_syn other xs) xs (kept-if (λ one. own one ≡ false) (λ one. is_open one.state) (latest_syn other xs) xs (not-own (λ one. is_syn_of other one ≡ true) (λ one e. syn-not one (parts (is_syn one.what) (same_flow other one.flow) e).0) (at_place (latest_syn other xs) xs) (found-latest (is_syn_of other) xs)))

  module _ (other : Flow) (now : Moment) (number : ℕ) (xs : List Sending) (few : length xs < 65536) where
    anew-not : those (syn_anew number other now xs).window ≡ those xs
    anew-not =
        let same : length (syn_answered other xs).window ≡ length xs = length-with_state states.Ended (open_syn other xs) xs in
        one-added (syn_of number other now now) (syn_answered other xs).window (omega arith) refl ∙ syn-answered other xs

    again-not : (before : Sending) (b : Bool) → those (after_again other now number xs before b).window ≡ those xs
    again-not before true = refl
    again-not before false =
        let same : length (with_state states.Ended (latest_syn other xs) xs) ≡ length xs = length-with_state states.Ended (latest_syn other xs) xs in
        one-added (syn_of number other now before.first) (with_state states.Ended (latest_syn other xs) xs) (omega arith) refl ∙ syn-changed other states.Ended xs

    syn_taken-not : those (syn_taken number other now xs).window ≡ those xs
    syn_taken-not = by (at_place (latest_syn other xs) xs)
      where
        one : (before : Sending) (b : Bool) → those (after_syn other now number xs before b).window ≡ those xs
        one before true = again-not before (is_ended before.state)
        one before false = anew-not

        by : (before : Option Sending) → those (syn_after number other now before xs).window ≡ those xs
        by None = anew-not
        by (Some before) = one before (has_number number before.what)

  segment-not : (header : Header) (other : Flow) (now : Moment) (xs : List Sending) → length xs + weight (is_asking header) ≤ 65536 → those (segment_taken header other now xs).window ≡ those xs
  segment-not header other now xs few = by (is_asking header) few
    where
      same : length (syn_answered (reversed other) xs).window ≡ length xs
      same = length-with_state states.Ended (open_syn (reversed other) xs) xs

      by : (b : Bool) → length xs + weight b ≤ 65536 → those (after_segment header other now xs b).window ≡ those xs
      by true few = syn_taken-not other now header.sequence (syn_answered (reversed other) xs).window (omega (arith, same)) ∙ syn-answered (reversed other) xs
      by false few = syn-answered other (syn_answered (reversed other) xs).window ∙ syn-answered (reversed other) xs

  error-not : (other : Flow) (xs : List Sending) → those (with_state states.Erred (place_if (λ one. is_syn one.what) (erred other xs) xs) xs) ≡ those xs
  error-not other xs = others-changed own kept states.Erred (place_if (λ one. is_syn one.what) (erred other xs) xs) xs (not-own (λ one. is_syn one.what ≡ true) syn-not (at_place (place_if (λ one. is_syn one.what) (erred other xs) xs) xs) (found-if (λ one. is_syn one.what) (erred other xs) xs))

  -- ---- events of other flows
  replaced-not : (transport : Transport) (kind : Request) (other : Flow) (octets : Fingerprint) (xs : List Sending) → is_either flow other ≡ false → OfOne (λ one. own one ≡ false) (at_place (replaced_over transport kind other octets xs) xs)
  replaced-not transports.Tcp kind other octets xs e = tt
  replaced-not transports.Udp kind other octets xs e =
      let test = is_open_request other (same_kind kind) in
      kept-if (λ one. own one ≡ false) (λ one. has_octets octets one.what) (latest_place test xs) xs (not-own (λ one. is_open_request other (same_kind kind) one ≡ true) (without other (same_kind kind) e) (at_place (latest_place test xs) xs) (found-latest test xs))

  answered-not : (transport : Transport) (reply : Reply) (other : Flow) (xs : List Sending) → is_either flow other ≡ false → OfOne (λ one. own one ≡ false) (at_place (answered_over transport reply other xs) xs)
  answered-not transports.Udp reply other xs e = not-own (λ one. is_open_request other (fits reply) one ≡ true) (without other (fits reply) e) (at_place (latest_place (is_open_request other (fits reply)) xs) xs) (found-latest (is_open_request other (fits reply)) xs)
  answered-not transports.Tcp reply other xs e =
      let any = is_open_request other (λ _. true) in
      kept-if (λ one. own one ≡ false) (λ one. is_request (fits reply) one.what) (first_place any xs) xs (not-own (λ one. is_open_request other (λ _. true) one ≡ true) (without other (λ _. true) e) (at_place (first_place any xs) xs) (found-first any xs))

  others-not : (event : Event) (xs : List Sending) → length xs + weight (adds event) ≤ 65536 → is_between flow event ≡ false → those (taken event xs).window ≡ those xs
  others-not (Requested kind other octets now) xs few e =
      let ended = with_state states.Ended (replaced kind other octets xs) xs in
      let same : length (with_state states.Ended (replaced kind other octets xs) xs) ≡ length xs = length-with_state states.Ended (replaced kind other octets xs) xs in
      one-added (request_of kind other octets now (before_of octets xs)) (with_state states.Ended (replaced kind other octets xs) xs) (omega arith) e ∙ others-changed own kept states.Ended (replaced kind other octets xs) xs (replaced-not other.transport kind other octets xs e)
  others-not (Replied reply other now) xs few e = others-changed own kept states.Ended (answered reply other xs) xs (answered-not other.transport reply (reversed other) xs (either-reversed flow other ∙ e))
  others-not (Begun other now) xs few e = others-ended own kept (is_open_request other (λ _. true)) (without other (λ _. true) e) xs
  others-not (Sent header other now) xs few e = segment-not header other now xs few
  others-not (Failed other now) xs few e = error-not other xs
  others-not (Ended now) xs few e = absurd (true≢false e)

  -- ---- its own events
  replaced-same : (transport : Transport) (kind : Request) (other : Flow) (octets : Fingerprint) (xs : List Sending) → is_either flow other ≡ true → IsSame own kept (replaced_over transport kind other octets xs) (replaced_over transport kind other octets (those xs)) xs
  replaced-same transports.Tcp kind other octets xs e = record { has = refl; at = refl; with = λ state. refl }
  replaced-same transports.Udp kind other octets xs e =
      let test = is_open_request other (same_kind kind) in
      same-if own kept (λ one. has_octets octets one.what) (latest_place test xs) (latest_place test (those xs)) xs (same-latest own kept test (within other (same_kind kind) e) xs)

  answered-same : (transport : Transport) (reply : Reply) (other : Flow) (xs : List Sending) → is_either flow other ≡ true → IsSame own kept (answered_over transport reply other xs) (answered_over transport reply other (those xs)) xs
  answered-same transports.Udp reply other xs e = same-latest own kept (is_open_request other (fits reply)) (within other (fits reply) e) xs
  answered-same transports.Tcp reply other xs e =
      let any = is_open_request other (λ _. true) in
      same-if own kept (λ one. is_request (fits reply) one.what) (first_place any xs) (first_place any (those xs)) xs (same-first own kept any (within other (λ _. true) e) xs)

  sent-same : (a b : Option Sending) → AlikeIf (AreAlike apart) a b → option_map (λ (one : Sending). one.sent) a ≡ option_map (λ (one : Sending). one.sent) b
  sent-same None None h = refl
  sent-same None (Some y) h = absurd h
  sent-same (Some x) None h = absurd h
  sent-same (Some x) (Some y) h = ap (λ m. Some m) h.sent

  -- what is answered, and what is left
  record TakenApart (x y : After Told) : Type 0 where
    answer : option_map (λ (one : Sending). one.sent) x.told.answers ≡ option_map (λ (one : Sending). one.sent) y.told.answers
    window : AllZip (AreAlike apart) (those x.window) (those y.window)

  module _ (xs ys : List Sending) (alike : AllZip (AreAlike apart) (those xs) (those ys)) where
    alike-by : (us vs : List Sending) → those xs ≡ us → those ys ≡ vs → AllZip (AreAlike apart) us vs
    alike-by us vs e d = subst (λ zs. AllZip (AreAlike apart) us zs) d (subst (λ zs. AllZip (AreAlike apart) zs (those ys)) e alike)

    changed-apart : (p q r s : Option ℕ) → IsSame own kept p q xs → IsSame own kept r s ys → q ≡ s → AllZip (AreAlike apart) (those (with_state states.Ended p xs)) (those (with_state states.Ended r ys))
    changed-apart p q r s h k e = subst (λ zs. AllZip (AreAlike apart) zs (those (with_state states.Ended r ys))) (sym (h.with states.Ended)) (subst (λ zs. AllZip (AreAlike apart) (with_state states.Ended q (those xs)) zs) (sym (k.with states.Ended)) (with_state-alike apart (those xs) (those ys) alike states.Ended q s e))

    answer-apart : (p q r s : Option ℕ) → IsSame own kept p q xs → IsSame own kept r s ys → q ≡ s → option_map (λ (one : Sending). one.sent) (at_place p xs) ≡ option_map (λ (one : Sending). one.sent) (at_place r ys)
    answer-apart p q r s h k e = ap (λ o. option_map (λ (one : Sending). one.sent) o) h.at ∙ sent-same (at_place q (those xs)) (at_place s (those ys)) (at-alike apart (those xs) (those ys) alike q s e) ∙ sym (ap (λ o. option_map (λ (one : Sending). one.sent) o) k.at)

    request-apart : (kind : Request) (other : Flow) (octets : Fingerprint) (now : Moment) → length xs < 65536 → length ys < 65536 → is_either flow other ≡ true → TakenApart (taken (Requested kind other octets now) xs) (taken (Requested kind other octets now) ys)
    request-apart kind other octets now few less e =
        let x = request_of kind other octets now (before_of octets xs) in
        let y = request_of kind other octets now (before_of octets ys) in
        let us = with_state states.Ended (replaced kind other octets xs) xs in
        let vs = with_state states.Ended (replaced kind other octets ys) ys in
        let ended : AllZip (AreAlike apart) (those us) (those vs) = changed-apart (replaced kind other octets xs) (replaced kind other octets (those xs)) (replaced kind other octets ys) (replaced kind other octets (those ys)) (replaced-same other.transport kind other octets xs e) (replaced-same other.transport kind other octets ys e)
        (same-replaced apart (those xs) (those ys) alike one_to_one other.transport kind other octets octets refl) in
        let long : length us ≡ length xs = length-with_state states.Ended (replaced kind other octets xs) xs in
        let wide : length vs ≡ length ys = length-with_state states.Ended (replaced kind other octets ys) ys in
        let one : those (added x us).window ≡ those us ++ x ∷ [] = one-own x us (omega arith) e in
        let two : those (added y vs).window ≡ those vs ++ y ∷ [] = one-own y vs (omega arith) e in
        let both : AllZip (AreAlike apart) (those us ++ x ∷ []) (those vs ++ y ∷ []) = alike-append apart (those us) (those vs) (x ∷ []) (y ∷ []) ended (record { flow = refl; what = (refl, refl); sent = refl; first = tt; state = refl }, tt) in
        record { answer = refl; window = subst (λ zs. AllZip (AreAlike apart) zs (those (added y vs).window)) (sym one) (subst (λ zs. AllZip (AreAlike apart) (those us ++ x ∷ []) zs) (sym two) both) }

    event-apart : (event : Event) → length xs + weight (adds event) ≤ 65536 → length ys + weight (adds event) ≤ 65536 → is_between flow event ≡ true → TakenApart (taken event xs) (taken event ys)
    event-apart (Requested kind other octets now) few less e = request-apart kind other octets now (omega arith) (omega arith) e
    event-apart (Replied reply other now) few less e =
        let back : is_either flow (reversed other) ≡ true = either-reversed flow other ∙ e in
        let one = answered-same other.transport reply (reversed other) xs back in
        let two = answered-same other.transport reply (reversed other) ys back in
        let same : answered reply other (those xs) ≡ answered reply other (those ys) = same-answered apart (those xs) (those ys) alike other.transport reply (reversed other) in
        record {
          answer = answer-apart (answered reply other xs) (answered reply other (those xs)) (answered reply other ys) (answered reply other (those ys)) one two same;
          window = changed-apart (answered reply other xs) (answered reply other (those xs)) (answered reply other ys) (answered reply other (those ys)) one two same;
        }
    event-apart (Begun other now) few less e =
        let test = is_open_request other (λ _. true) in
        record {
          answer = refl;
          window = subst (λ zs. AllZip (AreAlike apart) zs (those (ended_if test ys))) (sym (those-ended own kept test xs)) (subst (λ zs. AllZip (AreAlike apart) (ended_if test (those xs)) zs) (sym (those-ended own kept test ys)) (ended_if-alike apart test test (open-request apart other (λ _. true)) (those xs) (those ys) alike));
        }
    event-apart (Sent header other now) few less e = record { answer = refl; window = alike-by (those (segment_taken header other now xs).window) (those (segment_taken header other now ys).window) (sym (segment-not header other now xs few)) (sym (segment-not header other now ys less)) }
    event-apart (Failed other now) few less e =
        let us = with_state states.Erred (place_if (λ one. is_syn one.what) (erred other xs) xs) xs in
        let vs = with_state states.Erred (place_if (λ one. is_syn one.what) (erred other ys) ys) ys in
        record { answer = refl; window = alike-by (those us) (those vs) (sym (error-not other xs)) (sym (error-not other ys)) }
    event-apart (Ended now) few less e = record { answer = refl; window = tt }

  -- ---- all of them
  from-apart : (events : List Event) (xs ys : List Sending) → length xs + tally adds events ≤ 65536 → length ys + tally adds events ≤ 65536 → AllZip (AreAlike apart) (those xs) (those ys) → map answer_to (filter (λ one. is_between flow one.event) (heard_from xs events)) ≡ map answer_to (heard_from ys (filter (is_between flow) events))
  from-apart [] xs ys few less alike = refl
  from-apart (event ∷ events) xs ys few less alike = by (is_between flow event) refl (λ vs fewer h. from-apart events (taken event xs).window vs (omega (arith, grows event xs)) fewer h)
    where
      by : (b : Bool) → is_between flow event ≡ b → ((vs : List Sending) → length vs + tally adds events ≤ 65536 → AllZip (AreAlike apart) (those (taken event xs).window) (those vs) → map answer_to (filter (λ one. is_between flow one.event) (heard_from (taken event xs).window events)) ≡ map answer_to (heard_from vs (filter (is_between flow) events)))
          → map answer_to (cond b (record { event = event; told = (taken event xs).told } ∷ filter (λ one. is_between flow one.event) (heard_from (taken event xs).window events)) (filter (λ one. is_between flow one.event) (heard_from (taken event xs).window events))) ≡ map answer_to (heard_from ys (cond b (event ∷ filter (is_between flow) events) (filter (is_between flow) events)))
      by true e rest =
          let after : TakenApart (taken event xs) (taken event ys) = event-apart xs ys alike event (omega arith) (omega arith) e in
          let others = rest (taken event ys).window (omega (arith, grows event ys)) after.window in
          λ i. after.answer i ∷ others i
      by false e rest = rest ys (omega arith) (subst (λ zs. AllZip (AreAlike apart) zs (those ys)) (sym (others-not event xs (omega arith) e)) alike)

pub flows_are_apart : FlowsAreApart
flows_are_apart events flow few =
    let all : tally adds events ≤ 65536 = omega (arith, tally-filter adds events) in
    from-apart flow events [] [] (omega arith) (omega arith) tt
