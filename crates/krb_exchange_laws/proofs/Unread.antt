-- What is told depends on octets only through whether they are those of another request.
use Rattle.std.proofs.Common.{◌≡◌, ℕ, Bool, true, false, if◌then◌else◌, List, [], ◌∷◌, Option, Some, None, option_map, refl, sym, ap, subst}
use Rattle.std.specs.List.{AllZip}
use Rattle.krb_record.specs.declared.flow.Flow.{Flow}
use Rattle.krb_record.specs.declared.told.Request.{Request}
use Rattle.krb_exchange.specs.Happened.{After, added, answered, at_place, before_of, erred, first_of, has_number, is_asking, is_ended, is_open, is_open_request, is_syn, latest_syn, listed, open_syn, place_if, replaced, request_of, requested, reversed, segment_taken, syn_after, syn_anew, syn_answered, syn_of, syn_taken, with_state, with_syn}
use Rattle.krb_exchange.specs.declared.fingerprint.Fingerprint.{Fingerprint}
use Rattle.krb_exchange.specs.declared.parties.Header.{Header}
use Rattle.krb_exchange.specs.declared.sending.Moment.{Moment}
use Rattle.krb_exchange.specs.declared.sending.Sending.{Sending}
use Rattle.krb_exchange.specs.declared.sending.State.TheVariants as states
use Rattle.krb_exchange.specs.declared.sending.What.{What}
use Rattle.krb_exchange.specs.declared.sending.What.TheVariants as whats
use Rattle.krb_exchange.specs.declared.sendings.SegmentTold.{SegmentTold}
use Rattle.krb_exchange_laws.specs.Events.{Begun, Ended, Event, Failed, Replied, Requested, Sent, Told, heard_from, taken}
use Rattle.krb_exchange_laws.proofs.Alike.{AddedAlike, Alikeness, AlikeIf, AreAlike, AreAlikeWhats, IsOneToOne, added-alike, agree-open, agree-syn, alike-append, alike-listed, at-alike, ended_if-alike, filter-alike, if-alike, with_state-alike}
use Rattle.krb_exchange_laws.proofs.Places.{before-alike, open-request, same-answered, same-erred, same-open_syn, same-replaced, same-syn}
use Rattle.krb_exchange_laws.proofs.Windows.{after_again, after_segment, after_syn}

-- events that are the same but for octets that are alike
abbrev pub AreAlikeEvents : Alikeness → Event → Event → Type 0
AreAlikeEvents R (Requested kind flow octets now) other = (others : Fingerprint) × (other ≡ Requested kind flow others now) × R.octets octets others
AreAlikeEvents R event other = other ≡ event

record SegmentAlike (R : Alikeness) (x y : After SegmentTold) : Type 0 where
  reset : AlikeIf (AreAlike R) x.told.reset y.told.reset
  silent : AlikeIf (AreAlike R) x.told.silent y.told.silent
  missed : AlikeIf (AreAlike R) x.told.missed y.told.missed
  window : AllZip (AreAlike R) x.window y.window

pub record ToldAlike (R : Alikeness) (x y : Told) : Type 0 where
  pub again : x.again ≡ y.again
  pub answers : AlikeIf (AreAlike R) x.answers y.answers
  pub resets : AlikeIf (AreAlike R) x.resets y.resets
  pub is_about : AlikeIf (AreAlike R) x.is_about y.is_about
  pub missed : AllZip (AreAlike R) x.missed y.missed

record TakenAlike (R : Alikeness) (x y : After Told) : Type 0 where
  told : ToldAlike R x.told y.told
  window : AllZip (AreAlike R) x.window y.window

module _ (R : Alikeness) (one_to_one : IsOneToOne R) (itself : (m : Moment) → R.first m m) (packets : (m n : Moment) → R.first m n → m.packet ≡ n.packet) where
  module _ (xs ys : List Sending) (alike : AllZip (AreAlike R) xs ys) where
    -- ---- a segment
    answered-alike : (flow : Flow) → AllZip (AreAlike R) (syn_answered flow xs).window (syn_answered flow ys).window
    answered-alike flow = with_state-alike R xs ys alike states.Ended (open_syn flow xs) (open_syn flow ys) (same-open_syn R xs ys alike flow)

    told-alike : (flow : Flow) → AlikeIf (AreAlike R) (syn_answered flow xs).told (syn_answered flow ys).told
    told-alike flow = at-alike R xs ys alike (open_syn flow xs) (open_syn flow ys) (same-open_syn R xs ys alike flow)

  syn-alike : (number : ℕ) (flow : Flow) (now first other : Moment) (a b : Option Sending) (xs ys : List Sending) → R.first first other → AlikeIf (AreAlike R) a b → AllZip (AreAlike R) xs ys → SegmentAlike R (with_syn a (syn_of number flow now first) xs) (with_syn b (syn_of number flow now other) ys)
  syn-alike number flow now first other a b xs ys e s alike =
      let after : AddedAlike R (added (syn_of number flow now first) xs) (added (syn_of number flow now other) ys) = added-alike R (syn_of number flow now first) (syn_of number flow now other) xs ys (record { flow = refl; what = refl; sent = refl; first = e; state = refl }) alike in
      record { reset = tt; silent = s; missed = after.told; window = after.window }

  module _ (number : ℕ) (flow : Flow) (now : Moment) (xs ys : List Sending) (alike : AllZip (AreAlike R) xs ys) where
    anew-alike : SegmentAlike R (syn_anew number flow now xs) (syn_anew number flow now ys)
    anew-alike = syn-alike number flow now now now (syn_answered flow xs).told (syn_answered flow ys).told (syn_answered flow xs).window (syn_answered flow ys).window (itself now) (told-alike xs ys alike flow) (answered-alike xs ys alike flow)

    again-alike : (x y : Sending) (b : Bool) → AreAlike R x y → SegmentAlike R (after_again flow now number xs x b) (after_again flow now number ys y b)
    again-alike x y true h = record { reset = tt; silent = tt; missed = tt; window = alike }
    again-alike x y false h = syn-alike number flow now x.first y.first None None (with_state states.Ended (latest_syn flow xs) xs) (with_state states.Ended (latest_syn flow ys) ys) h.first tt (with_state-alike R xs ys alike states.Ended (latest_syn flow xs) (latest_syn flow ys) (same-syn R xs ys alike flow))

    one-alike : (x y : Sending) (b : Bool) → AreAlike R x y → SegmentAlike R (after_syn flow now number xs x b) (after_syn flow now number ys y b)
    one-alike x y true h = subst (λ s. SegmentAlike R (after_again flow now number xs x (is_ended x.state)) (after_again flow now number ys y (is_ended s))) h.state (again-alike x y (is_ended x.state) h)
    one-alike x y false h = anew-alike

    numbers : (x y : What) → AreAlikeWhats R x y → has_number number x ≡ has_number number y
    numbers (whats.Request kind octets) (whats.Request other others) h = refl
    numbers (whats.Request kind octets) (whats.Syn other) h = absurd h
    numbers (whats.Syn one) (whats.Request kind octets) h = absurd h
    numbers (whats.Syn one) (whats.Syn other) h = ap (λ n. has_number number (whats.Syn n)) h

    after-alike : (x y : Option Sending) → AlikeIf (AreAlike R) x y → SegmentAlike R (syn_after number flow now x xs) (syn_after number flow now y ys)
    after-alike None None h = anew-alike
    after-alike None (Some y) h = absurd h
    after-alike (Some x) None h = absurd h
    after-alike (Some x) (Some y) h = subst (λ b. SegmentAlike R (after_syn flow now number xs x (has_number number x.what)) (after_syn flow now number ys y b)) (numbers x.what y.what h.what) (one-alike x y (has_number number x.what) h)

    syn_taken-alike : SegmentAlike R (syn_taken number flow now xs) (syn_taken number flow now ys)
    syn_taken-alike = after-alike (at_place (latest_syn flow xs) xs) (at_place (latest_syn flow ys) ys) (at-alike R xs ys alike (latest_syn flow xs) (latest_syn flow ys) (same-syn R xs ys alike flow))

  segment-alike : (header : Header) (flow : Flow) (now : Moment) (xs ys : List Sending) → AllZip (AreAlike R) xs ys → SegmentAlike R (segment_taken header flow now xs) (segment_taken header flow now ys)
  segment-alike header flow now xs ys alike = by (is_asking header)
    where
      back : AllZip (AreAlike R) (syn_answered (reversed flow) xs).window (syn_answered (reversed flow) ys).window
      back = answered-alike xs ys alike (reversed flow)

      reset : (b : Bool) → AlikeIf (AreAlike R) (if b then (syn_answered (reversed flow) xs).told else None) (if b then (syn_answered (reversed flow) ys).told else None)
      reset true = told-alike xs ys alike (reversed flow)
      reset false = tt

      by : (b : Bool) → SegmentAlike R (after_segment header flow now xs b) (after_segment header flow now ys b)
      by true = syn_taken-alike header.sequence flow now (syn_answered (reversed flow) xs).window (syn_answered (reversed flow) ys).window back
      by false = record {
        reset = reset header.rst;
        silent = tt;
        missed = tt;
        window = answered-alike (syn_answered (reversed flow) xs).window (syn_answered (reversed flow) ys).window back flow;
      }

  -- ---- any event
  first-same : (x y : Option Sending) (now : Moment) → AlikeIf (AreAlike R) x y → R.first (first_of x now) (first_of y now)
  first-same None None now h = itself now
  first-same None (Some y) now h = absurd h
  first-same (Some x) None now h = absurd h
  first-same (Some x) (Some y) now h = h.first

  again-same : (x y : Option Sending) → AlikeIf (AreAlike R) x y → option_map (λ one. one.first.packet) x ≡ option_map (λ one. one.first.packet) y
  again-same None None h = refl
  again-same None (Some y) h = absurd h
  again-same (Some x) None h = absurd h
  again-same (Some x) (Some y) h = ap (λ p. Some p) (packets x.first y.first h.first)

  module _ (xs ys : List Sending) (alike : AllZip (AreAlike R) xs ys) where
    request-alike : (kind : Request) (flow : Flow) (a b : Fingerprint) (now : Moment) → R.octets a b → TakenAlike R (taken (Requested kind flow a now) xs) (taken (Requested kind flow b now) ys)
    request-alike kind flow a b now r =
        let before : AlikeIf (AreAlike R) (before_of a xs) (before_of b ys) = before-alike R xs ys alike one_to_one a b r in
        let x = request_of kind flow a now (before_of a xs) in
        let y = request_of kind flow b now (before_of b ys) in
        let ended = with_state-alike R xs ys alike states.Ended (replaced kind flow a xs) (replaced kind flow b ys) (same-replaced R xs ys alike one_to_one flow.transport kind flow a b r) in
        let after : AddedAlike R (added x (with_state states.Ended (replaced kind flow a xs) xs)) (added y (with_state states.Ended (replaced kind flow b ys) ys)) = added-alike R x y (with_state states.Ended (replaced kind flow a xs) xs) (with_state states.Ended (replaced kind flow b ys) ys)
        (record { flow = refl; what = (refl, r); sent = refl; first = first-same (before_of a xs) (before_of b ys) now before; state = refl }) ended in
        record {
          told = record { again = again-same (before_of a xs) (before_of b ys) before; answers = tt; resets = tt; is_about = tt; missed = alike-listed R (requested kind flow a now xs).told.missed (requested kind flow b now ys).told.missed after.told };
          window = after.window;
        }

    event-alike : (event other : Event) → AreAlikeEvents R event other → TakenAlike R (taken event xs) (taken other ys)
    event-alike (Requested kind flow octets now) other h = subst (λ e. TakenAlike R (taken (Requested kind flow octets now) xs) (taken e ys)) (sym h.1) (request-alike kind flow octets h.0 now h.2)
    event-alike (Replied reply flow now) other h = subst (λ e. TakenAlike R (taken (Replied reply flow now) xs) (taken e ys)) (sym h) (record {
      told = record { again = refl; answers = at-alike R xs ys alike (answered reply flow xs) (answered reply flow ys) (same-answered R xs ys alike flow.transport reply (reversed flow)); resets = tt; is_about = tt; missed = tt };
      window = with_state-alike R xs ys alike states.Ended (answered reply flow xs) (answered reply flow ys) (same-answered R xs ys alike flow.transport reply (reversed flow));
    })
    event-alike (Begun flow now) other h =
        let test = is_open_request flow (λ _. true) in
        subst (λ e. TakenAlike R (taken (Begun flow now) xs) (taken e ys)) (sym h) (record {
          told = record { again = refl; answers = tt; resets = tt; is_about = tt; missed = filter-alike R test test (open-request R flow (λ _. true)) xs ys alike };
          window = ended_if-alike R test test (open-request R flow (λ _. true)) xs ys alike;
        })
    event-alike (Sent header flow now) other h =
        let after = segment-alike header flow now xs ys alike in
        let one = (segment_taken header flow now xs).told in
        let two = (segment_taken header flow now ys).told in
        subst (λ e. TakenAlike R (taken (Sent header flow now) xs) (taken e ys)) (sym h) (record {
          told = record { again = refl; answers = tt; resets = after.reset; is_about = tt; missed = alike-append R (listed one.silent) (listed two.silent) (listed one.missed) (listed two.missed) (alike-listed R one.silent two.silent after.silent) (alike-listed R one.missed two.missed after.missed) };
          window = after.window;
        })
    event-alike (Failed flow now) other h = subst (λ e. TakenAlike R (taken (Failed flow now) xs) (taken e ys)) (sym h) (record {
      told = record { again = refl; answers = tt; resets = tt; is_about = at-alike R xs ys alike (erred flow xs) (erred flow ys) (same-erred R xs ys alike flow); missed = tt };
      window = with_state-alike R xs ys alike states.Erred (place_if (λ one. is_syn one.what) (erred flow xs) xs) (place_if (λ one. is_syn one.what) (erred flow ys) ys) (if-alike R (λ one. is_syn one.what) (λ one. is_syn one.what) (agree-syn R) xs ys alike (erred flow xs) (erred flow ys) (same-erred R xs ys alike flow));
    })
    event-alike (Ended now) other h = subst (λ e. TakenAlike R (taken (Ended now) xs) (taken e ys)) (sym h) (record {
      told = record { again = refl; answers = tt; resets = tt; is_about = tt; missed = filter-alike R (λ one. is_open one.state) (λ one. is_open one.state) (agree-open R) xs ys alike };
      window = tt;
    })

  pub told-alike_from : (events others : List Event) (xs ys : List Sending) → AllZip (AreAlikeEvents R) events others → AllZip (AreAlike R) xs ys → AllZip (λ one other. ToldAlike R one.told other.told) (heard_from xs events) (heard_from ys others)
  told-alike_from [] [] xs ys h k = tt
  told-alike_from [] (other ∷ others) xs ys h k = absurd h
  told-alike_from (event ∷ events) [] xs ys h k = absurd h
  told-alike_from (event ∷ events) (other ∷ others) xs ys h k =
      let after : TakenAlike R (taken event xs) (taken other ys) = event-alike xs ys k event other h.0 in
      (after.told, told-alike_from events others (taken event xs).window (taken other ys).window h.1 after.window)
