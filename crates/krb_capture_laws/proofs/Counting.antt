-- What is counted of a capture is how often it is told.
use Rattle.std.proofs.Common.{◌≡◌, ℕ, zero, suc, ◌+◌, ◌-◌, arith, Bool, true, false, List, [], ◌∷◌, ◌++◌, length, filter, map, take, drop, is_some, Option, None, Some, refl, sym, ◌∙◌, ap, ap₂}
use Rattle.krb_exchange.specs.Fingerprints.{fingerprint_of}
use Rattle.krb_exchange.specs.Happened.{begun, is_request, is_syn, listed, open_in, replied, requested, segment_taken}
use Rattle.krb_exchange.specs.declared.fingerprint.Fingerprint.{Fingerprint}
use Rattle.krb_exchange.specs.declared.parties.Header.{Header}
use Rattle.krb_exchange.specs.declared.parties.Reply.{Reply}
use Rattle.krb_exchange.specs.declared.parties.Reply.TheVariants as replies
use Rattle.krb_exchange.specs.declared.sending.Moment.{Moment}
use Rattle.krb_exchange.specs.declared.sending.Sending.{Sending}
use Rattle.krb_exchange.specs.declared.sending.What.{What}
use Rattle.krb_exchange.specs.declared.sending.What.TheVariants as whats
use Rattle.krb_exchange.specs.declared.sendings.SegmentTold.{SegmentTold}
use Rattle.krb_exchange_laws.specs.Events
use Rattle.krb_exchange_laws.proofs.Tally.{tally, tally-append, tally-filter, weight}
use Rattle.krb_msg.specs.declared.message.Kind.{Kind}
use Rattle.krb_msg.specs.declared.message.Kind.TheVariants as kinds
use Rattle.krb_record.specs.declared.capture_origin.CaptureOrigin.{CaptureOrigin}
use Rattle.krb_record.specs.declared.told.Request.{Request}
use Rattle.krb_record.specs.declared.told.Request.TheVariants as requests
use Rattle.krb_record.specs.declared.told.ToldCounts.{ToldCounts}
use Rattle.krb_record.specs.declared.unreachable.IcmpError.{IcmpError}
use Rattle.krb_capture.specs.Captures.{Finding}
use Rattle.krb_capture.specs.Counts.{and_more}
use Rattle.krb_capture.specs.Found.{Begun, Failed, Faulty, Found, Joined, Missing, Password, Sent, Unread, Whole, found_heard}
use Rattle.krb_capture.specs.Happened.{Heard, again_counted, answer_counted, begins_ap_req, begun_heard, by_part, each_counted, end_counts, end_news, error_heard, kind_in, kind_role, kind_tells, missed, missed_counted, moment_of, nothing_happened, password_role, reply_heard, request_heard, reset, role_heard, segment_heard, unread_event}
use Rattle.krb_capture.specs.declared.happened.Happened.{Happened}
use Rattle.krb_capture_laws.specs.Exchanges.{CountsAreOfEvents, again_in, answered_in, counts_in, events_from, events_in, events_of, first_told, is_failed, message_events, missed_in, parts_after, password_events, unanswered_in, unless_parts, unreachable_in}
use Rattle.krb_capture_laws.proofs.Telling.{each-from, found-told, happened_from, heard-append, not-none, sendings-from, then_told}

-- ---- counts that stop
abbrev counts_of : ℕ → ℕ → ℕ → ℕ → ToldCounts
counts_of a u g r = record { answered = and_more 0 a; unanswered = and_more 0 u; again = and_more 0 g; unreachable = and_more 0 r }

recount : (a b u v g h r s : ℕ) → a ≡ b → u ≡ v → g ≡ h → r ≡ s → counts_of a u g r ≡ counts_of b v h s
recount a b u v g h r s e f d c = λ i. counts_of (e i) (f i) (d i) (c i)

one-more : (n : ℕ) → and_more (and_more 0 n) 1 ≡ and_more 0 (n + 1)
one-more n = omega arith

abbrev req : Sending → Bool
req one = is_request (λ _. true) one.what

abbrev syn : Sending → Bool
syn one = is_syn one.what

missed-counted : (what : What) (a u g r : ℕ) → missed_counted what (counts_of a u g r) ≡ counts_of a (u + weight (is_request (λ _. true) what)) g (r + weight (is_syn what))
missed-counted (whats.Request kind octets) a u g r =
    let same : r ≡ r + 0 = omega arith in
    λ i. record { answered = and_more 0 a; unanswered = one-more u i; again = and_more 0 g; unreachable = and_more 0 (same i) }
missed-counted (whats.Syn number) a u g r =
    let same : u ≡ u + 0 = omega arith in
    λ i. record { answered = and_more 0 a; unanswered = and_more 0 (same i); again = and_more 0 g; unreachable = one-more r i }

unreachable-more : (a u g r : ℕ) → record { answered = and_more 0 a; unanswered = and_more 0 u; again = and_more 0 g; unreachable = and_more (and_more 0 r) 1 } ≡ counts_of a u g (r + 1)
unreachable-more a u g r = λ i. record { answered = and_more 0 a; unanswered = and_more 0 u; again = and_more 0 g; unreachable = one-more r i }

-- by whatever records they are told
each-missed : {N : Type 0} (f : Sending → N) (count : List N → ToldCounts → ToldCounts) → ((c : ToldCounts) → count [] c ≡ c) → ((one : Sending) (others : List N) (c : ToldCounts) → count (f one ∷ others) c ≡ count others (missed_counted one.what c)) → (xs : List Sending) (a u g r : ℕ) → count (map f xs) (counts_of a u g r) ≡ counts_of a (u + tally req xs) g (r + tally syn xs)
each-missed f count none more [] a u g r = none (counts_of a u g r) ∙ recount a a u (u + 0) g g r (r + 0) refl (omega arith) refl (omega arith)
each-missed f count none more (x ∷ xs) a u g r =
    more x (map f xs) (counts_of a u g r)
    ∙ ap (λ c. count (map f xs) c) (missed-counted x.what a u g r)
    ∙ each-missed f count none more xs a (u + weight (req x)) g (r + weight (syn x))
    ∙ recount a a (u + weight (req x) + tally req xs) (u + (weight (req x) + tally req xs)) g g (r + weight (syn x) + tally syn xs) (r + (weight (syn x) + tally syn xs)) refl (omega arith) refl (omega arith)

one-missed : (one : Option Sending) (a u g r : ℕ) → each_counted (missed one) (counts_of a u g r) ≡ counts_of a (u + tally req (listed one)) g (r + tally syn (listed one))
one-missed None a u g r = recount a a u (u + 0) g g r (r + 0) refl (omega arith) refl (omega arith)
one-missed (Some one) a u g r = missed-counted one.what a u g r ∙ recount a a (u + weight (req one)) (u + (weight (req one) + 0)) g g (r + weight (syn one)) (r + (weight (syn one) + 0)) refl (omega arith) refl (omega arith)

two-missed : (b c : Option Sending) (a u g r : ℕ) → each_counted (missed b ++ missed c) (counts_of a u g r) ≡ counts_of a (u + tally req (listed b ++ listed c)) g (r + tally syn (listed b ++ listed c))
two-missed None c a u g r = one-missed c a u g r
two-missed (Some b) c a u g r =
    ap (λ k. each_counted (missed c) k) (missed-counted b.what a u g r)
    ∙ one-missed c a (u + weight (req b)) g (r + weight (syn b))
    ∙ recount a a (u + weight (req b) + tally req (listed c)) (u + (weight (req b) + tally req (listed c))) g g (r + weight (syn b) + tally syn (listed c)) (r + (weight (syn b) + tally syn (listed c))) refl (omega arith) refl (omega arith)

segment-counted : (one b c : Option Sending) (a u g r : ℕ) → each_counted (reset one ++ missed b ++ missed c) (counts_of a u g r) ≡ counts_of a (u + tally req (listed b ++ listed c)) g (r + (tally syn (listed b ++ listed c) + weight (is_some one)))
segment-counted None b c a u g r = two-missed b c a u g r ∙ recount a a (u + tally req (listed b ++ listed c)) (u + tally req (listed b ++ listed c)) g g (r + tally syn (listed b ++ listed c)) (r + (tally syn (listed b ++ listed c) + 0)) refl refl refl (omega arith)
segment-counted (Some one) b c a u g r =
    ap (λ k. each_counted (missed b ++ missed c) k) (unreachable-more a u g r)
    ∙ two-missed b c a u g (r + 1)
    ∙ recount a a (u + tally req (listed b ++ listed c)) (u + tally req (listed b ++ listed c)) g g (r + 1 + tally syn (listed b ++ listed c)) (r + (tally syn (listed b ++ listed c) + 1)) refl refl refl (omega arith)

again-some : (one : Option ℕ) (a u g r : ℕ) → again_counted one (counts_of a u g r) ≡ counts_of a u (g + weight (is_some one)) r
again-some None a u g r = recount a a u u g (g + 0) r r refl refl (omega arith) refl
again-some (Some packet) a u g r = λ i. record { answered = and_more 0 a; unanswered = and_more 0 u; again = one-more g i; unreachable = and_more 0 r }

answer-some : (one : Option Sending) (a u g r : ℕ) → answer_counted one (counts_of a u g r) ≡ counts_of (a + weight (is_some one)) u g r
answer-some None a u g r = recount a (a + 0) u u g g r r (omega arith) refl refl refl
answer-some (Some one) a u g r = λ i. record { answered = one-more a i; unanswered = and_more 0 u; again = and_more 0 g; unreachable = and_more 0 r }

-- ---- what is counted with something that is found
-- so many are errors
record IsCounted (events : List Events.Event) (failed : ℕ) (happened : Happened) (after : Heard) : Type 0 where
  counts : (a u g r : ℕ) → happened.counts ≡ counts_of a u g r → each_counted after.news after.happened.counts ≡ counts_of (a + weight (is_some (first_told (Events.heard_from happened.sendings events)).answers)) (u + tally req (first_told (Events.heard_from happened.sendings events)).missed) (g + weight (is_some (first_told (Events.heard_from happened.sendings events)).again)) (r + (tally syn (first_told (Events.heard_from happened.sendings events)).missed + weight (is_some (first_told (Events.heard_from happened.sendings events)).resets) + failed))

none-counted : (a u g r : ℕ) → counts_of a u g r ≡ counts_of (a + 0) (u + 0) (g + 0) (r + (0 + 0 + 0))
none-counted a u g r = recount a (a + 0) u (u + 0) g (g + 0) r (r + (0 + 0 + 0)) (omega arith) (omega arith) (omega arith) (omega arith)

neither-counted : (happened : Happened) → IsCounted [] 0 happened (record { news = []; happened = happened })
neither-counted happened = record { counts = λ a u g r e. e ∙ none-counted a u g r }

request-counted : (kind : Request) (octets : Fingerprint) (origin : CaptureOrigin) (happened : Happened) → IsCounted (Events.Requested kind origin.flow octets (moment_of origin) ∷ []) 0 happened (request_heard kind octets origin happened)
request-counted kind octets origin happened = record { counts = λ a u g r e. by (requested kind origin.flow octets (moment_of origin) happened.sendings).told.again (requested kind origin.flow octets (moment_of origin) happened.sendings).told.missed a u g r happened.counts e }
  where
    by : (before : Option ℕ) (gone : Option Sending) (a u g r : ℕ) (c : ToldCounts) → c ≡ counts_of a u g r → each_counted (missed gone) (again_counted before c) ≡ counts_of (a + 0) (u + tally req (listed gone)) (g + weight (is_some before)) (r + (tally syn (listed gone) + 0 + 0))
    by before gone a u g r c e =
        ap (λ k. each_counted (missed gone) (again_counted before k)) e
        ∙ ap (λ k. each_counted (missed gone) k) (again-some before a u g r)
        ∙ one-missed gone a u (g + weight (is_some before)) r
        ∙ recount a (a + 0) (u + tally req (listed gone)) (u + tally req (listed gone)) (g + weight (is_some before)) (g + weight (is_some before)) (r + tally syn (listed gone)) (r + (tally syn (listed gone) + 0 + 0)) (omega arith) refl refl (omega arith)

reply-counted : (reply : Reply) (origin : CaptureOrigin) (happened : Happened) → IsCounted (Events.Replied reply origin.flow (moment_of origin) ∷ []) 0 happened (reply_heard reply origin happened)
reply-counted reply origin happened = record { counts = λ a u g r e. by (replied reply origin.flow happened.sendings).told a u g r happened.counts e }
  where
    by : (one : Option Sending) (a u g r : ℕ) (c : ToldCounts) → c ≡ counts_of a u g r → answer_counted one c ≡ counts_of (a + weight (is_some one)) (u + 0) (g + 0) (r + (0 + 0 + 0))
    by one a u g r c e =
        ap (λ k. answer_counted one k) e
        ∙ answer-some one a u g r
        ∙ recount (a + weight (is_some one)) (a + weight (is_some one)) u (u + 0) g (g + 0) r (r + (0 + 0 + 0)) refl (omega arith) (omega arith) (omega arith)

kind-counted : (kind : Option Kind) (octets : List ℕ) (origin : CaptureOrigin) (happened : Happened) → IsCounted (message_events kind octets origin) 0 happened (role_heard (kind_role kind octets) origin happened)
kind-counted (Some kinds.AsReq) octets origin happened = request-counted requests.AsReq (fingerprint_of octets) origin happened
kind-counted (Some kinds.TgsReq) octets origin happened = request-counted requests.TgsReq (fingerprint_of octets) origin happened
kind-counted (Some kinds.AsRep) octets origin happened = reply-counted replies.AsRep origin happened
kind-counted (Some kinds.TgsRep) octets origin happened = reply-counted replies.TgsRep origin happened
kind-counted (Some kinds.KrbError) octets origin happened = reply-counted replies.Error origin happened
kind-counted kind octets origin happened = neither-counted happened

whole-counted : (parts : ℕ) (kind : Option Kind) (octets : List ℕ) (origin : CaptureOrigin) (happened : Happened) → IsCounted (unless_parts parts (message_events kind octets origin)) 0 happened (role_heard (by_part parts (record { tells = kind_tells kind; role = kind_role kind octets })).role origin happened)
whole-counted zero kind octets origin happened = kind-counted kind octets origin happened
whole-counted (suc n) kind octets origin happened = rw (not-none n) (neither-counted happened)

unread-counted : (parts : ℕ) (origin : CaptureOrigin) (happened : Happened) → IsCounted (unless_parts parts (Events.Replied replies.Unread origin.flow (moment_of origin) ∷ [])) 0 happened (role_heard (by_part parts unread_event).role origin happened)
unread-counted zero origin happened = reply-counted replies.Unread origin happened
unread-counted (suc n) origin happened = rw (not-none n) (neither-counted happened)

password-counted : (b : Bool) (octets : List ℕ) (origin : CaptureOrigin) (happened : Happened) → IsCounted (password_events b octets origin) 0 happened (role_heard (password_role b octets) origin happened)
password-counted true octets origin happened = request-counted requests.Kpasswd (fingerprint_of octets) origin happened
password-counted false octets origin happened = reply-counted replies.Kpasswd origin happened

begun-counted : (origin : CaptureOrigin) (happened : Happened) → IsCounted (Events.Begun origin.flow (moment_of origin) ∷ []) 0 happened (begun_heard origin happened)
begun-counted origin happened = record {
  counts = λ a u g r e.
      ap (λ k. each_counted (begun_heard origin happened).news k) e
      ∙ each-missed _ each_counted (λ c. refl) (λ one others c. refl) (begun origin.flow happened.sendings).told a u g r
      ∙ more (begun origin.flow happened.sendings).told a u g r;
}
  where
    more : (xs : List Sending) (a u g r : ℕ) → counts_of a (u + tally req xs) g (r + tally syn xs) ≡ counts_of (a + 0) (u + tally req xs) (g + 0) (r + (tally syn xs + 0 + 0))
    more xs a u g r = recount a (a + 0) (u + tally req xs) (u + tally req xs) g (g + 0) (r + tally syn xs) (r + (tally syn xs + 0 + 0)) (omega arith) refl (omega arith) (omega arith)

sent-counted : (header : Header) (origin : CaptureOrigin) (happened : Happened) → IsCounted (Events.Sent header origin.flow (moment_of origin) ∷ []) 0 happened (segment_heard header origin happened)
sent-counted header origin happened = record { counts = λ a u g r e. by (segment_taken header origin.flow (moment_of origin) happened.sendings).told a u g r happened.counts e }
  where
    by : (what : SegmentTold) (a u g r : ℕ) (c : ToldCounts) → c ≡ counts_of a u g r → each_counted (reset what.reset ++ missed what.silent ++ missed what.missed) c ≡ counts_of (a + 0) (u + tally req (listed what.silent ++ listed what.missed)) (g + 0) (r + (tally syn (listed what.silent ++ listed what.missed) + weight (is_some what.reset) + 0))
    by what a u g r c e =
        ap (λ k. each_counted (reset what.reset ++ missed what.silent ++ missed what.missed) k) e
        ∙ segment-counted what.reset what.silent what.missed a u g r
        ∙ recount a (a + 0) (u + tally req (listed what.silent ++ listed what.missed)) (u + tally req (listed what.silent ++ listed what.missed)) g (g + 0) (r + (tally syn (listed what.silent ++ listed what.missed) + weight (is_some what.reset))) (r + (tally syn (listed what.silent ++ listed what.missed) + weight (is_some what.reset) + 0)) (omega arith) refl (omega arith) (omega arith)

failed-counted : (error : IcmpError) (origin : CaptureOrigin) (happened : Happened) → IsCounted (Events.Failed origin.flow (moment_of origin) ∷ []) 1 happened (error_heard error origin happened)
failed-counted error origin happened = record { counts = λ a u g r e. ap (λ k. each_counted (error_heard error origin happened).news k) e ∙ unreachable-more a u g r ∙ recount a (a + 0) u (u + 0) g (g + 0) (r + 1) (r + (0 + 0 + 1)) (omega arith) (omega arith) (omega arith) (omega arith) }

abbrev is_failure : Found → Bool
is_failure (Failed error) = true
is_failure _ = false

abbrev fewer : Happened → Happened
fewer happened = record happened { parts = happened.parts - 1 }

found-counted : (origin : CaptureOrigin) (found : Found) (happened : Happened) → IsCounted (events_of happened.parts origin found) (weight (is_failure found)) happened (found_heard origin found happened)
found-counted origin (Whole octets) happened =
    let all = whole-counted happened.parts (kind_in octets) octets origin (fewer happened) in
    record { counts = λ a u g r e. all.counts a u g r e }
found-counted origin (Faulty refusal path extent) happened =
    let all = unread-counted happened.parts origin (fewer happened) in
    record { counts = λ a u g r e. all.counts a u g r e }
found-counted origin Begun happened = begun-counted origin happened
found-counted origin Joined happened = neither-counted happened
found-counted origin (Missing place octets path) happened =
    let all = unread-counted happened.parts origin (fewer happened) in
    record { counts = λ a u g r e. all.counts a u g r e }
found-counted origin (Password octets version size rest) happened =
    let all = password-counted (begins_ap_req (take size (drop 6 octets))) octets origin (fewer happened) in
    record { counts = λ a u g r e. all.counts a u g r e }
found-counted origin (Unread place octets why) happened = neither-counted happened
found-counted origin (Sent header) happened = sent-counted header origin happened
found-counted origin (Failed error) happened = failed-counted error origin happened

-- ---- how often each is told
module _ (test : Sending → Bool) where
  missed-append : (xs ys : List Events.Heard) → tally test (missed_in (xs ++ ys)) ≡ tally test (missed_in xs) + tally test (missed_in ys)
  missed-append [] ys = omega arith
  missed-append (x ∷ xs) ys =
      let e : tally test (missed_in (xs ++ ys)) ≡ tally test (missed_in xs) + tally test (missed_in ys) = missed-append xs ys in
      omega (arith, tally-append test x.told.missed (missed_in (xs ++ ys)), tally-append test x.told.missed (missed_in xs))

abbrev answers : List Events.Heard → ℕ
answers told = tally (λ (one : Events.Heard). is_some one.told.answers) told

abbrev again : List Events.Heard → ℕ
again told = tally (λ (one : Events.Heard). is_some one.told.again) told

abbrev resets : List Events.Heard → ℕ
resets told = tally (λ (one : Events.Heard). is_some one.told.resets) told

abbrev failures : List Events.Heard → ℕ
failures told = tally (λ (one : Events.Heard). is_failed one.event) told

abbrev unreachable : List Events.Heard → ℕ
unreachable told = tally syn (missed_in told) + (resets told + failures told)

-- one event, or none
record IsOfOne (told : List Events.Heard) (failed : ℕ) : Type 0 where
  answers_are : answers told ≡ weight (is_some (first_told told).answers)
  again_are : again told ≡ weight (is_some (first_told told).again)
  resets_are : resets told ≡ weight (is_some (first_told told).resets)
  failures_are : failures told ≡ failed
  missed_are : (test : Sending → Bool) → tally test (missed_in told) ≡ tally test (first_told told).missed

of-none : IsOfOne [] 0
of-none = record { answers_are = refl; again_are = refl; resets_are = refl; failures_are = refl; missed_are = λ test. refl }

of-one : (one : Events.Heard) → IsOfOne (one ∷ []) (weight (is_failed one.event))
of-one one = record { answers_are = omega arith; again_are = omega arith; resets_are = omega arith; failures_are = omega arith; missed_are = λ test. tally-append test one.told.missed [] ∙ (omega arith) }

of-kind : (kind : Option Kind) (octets : List ℕ) (origin : CaptureOrigin) (window : List Sending) → IsOfOne (Events.heard_from window (message_events kind octets origin)) 0
of-kind (Some kinds.AsReq) octets origin window = of-one _
of-kind (Some kinds.TgsReq) octets origin window = of-one _
of-kind (Some kinds.AsRep) octets origin window = of-one _
of-kind (Some kinds.TgsRep) octets origin window = of-one _
of-kind (Some kinds.KrbError) octets origin window = of-one _
of-kind kind octets origin window = of-none

of-whole : (parts : ℕ) (kind : Option Kind) (octets : List ℕ) (origin : CaptureOrigin) (window : List Sending) → IsOfOne (Events.heard_from window (unless_parts parts (message_events kind octets origin))) 0
of-whole zero kind octets origin window = of-kind kind octets origin window
of-whole (suc n) kind octets origin window = rw (not-none n) of-none

of-unread : (parts : ℕ) (origin : CaptureOrigin) (window : List Sending) → IsOfOne (Events.heard_from window (unless_parts parts (Events.Replied replies.Unread origin.flow (moment_of origin) ∷ []))) 0
of-unread zero origin window = of-one _
of-unread (suc n) origin window = rw (not-none n) of-none

of-password : (b : Bool) (octets : List ℕ) (origin : CaptureOrigin) (window : List Sending) → IsOfOne (Events.heard_from window (password_events b octets origin)) 0
of-password true octets origin window = of-one _
of-password false octets origin window = of-one _

of-found : (origin : CaptureOrigin) (found : Found) (parts : ℕ) (window : List Sending) → IsOfOne (Events.heard_from window (events_of parts origin found)) (weight (is_failure found))
of-found origin (Whole octets) parts window = of-whole parts (kind_in octets) octets origin window
of-found origin (Faulty refusal path extent) parts window = of-unread parts origin window
of-found origin Begun parts window = of-one _
of-found origin Joined parts window = of-none
of-found origin (Missing place octets path) parts window = of-unread parts origin window
of-found origin (Password octets version size rest) parts window = of-password (begins_ap_req (take size (drop 6 octets))) octets origin window
of-found origin (Unread place octets why) parts window = of-none
of-found origin (Sent header) parts window = of-one _
of-found origin (Failed error) parts window = of-one _

-- ---- all that is found
step-counted : (origin : CaptureOrigin) (found : Found) (happened : Happened) (a u g r : ℕ) → happened.counts ≡ counts_of a u g r → (then_told origin found happened).counts ≡ counts_of (a + answers (Events.heard_from happened.sendings (events_of happened.parts origin found))) (u + tally req (missed_in (Events.heard_from happened.sendings (events_of happened.parts origin found)))) (g + again (Events.heard_from happened.sendings (events_of happened.parts origin found))) (r + unreachable (Events.heard_from happened.sendings (events_of happened.parts origin found)))
step-counted origin found happened a u g r e =
    let told = Events.heard_from happened.sendings (events_of happened.parts origin found) in
    let what = first_told told in
    let one : IsOfOne told (weight (is_failure found)) = of-found origin found happened.parts happened.sendings in
    let requests : tally req (missed_in told) ≡ tally req what.missed = one.missed_are req in
    let syns : tally syn (missed_in told) ≡ tally syn what.missed = one.missed_are syn in
    (found-counted origin found happened).counts a u g r e
    ∙ recount (a + weight (is_some what.answers)) (a + answers told) (u + tally req what.missed) (u + tally req (missed_in told)) (g + weight (is_some what.again)) (g + again told) (r + (tally syn what.missed + weight (is_some what.resets) + weight (is_failure found))) (r + unreachable told) (omega (arith, one.answers_are)) (omega arith) (omega (arith, one.again_are)) (omega (arith, one.resets_are, one.failures_are))

joined : (a u g r : ℕ) (xs ys : List Events.Heard) → counts_of (a + answers xs + answers ys) (u + tally req (missed_in xs) + tally req (missed_in ys)) (g + again xs + again ys) (r + unreachable xs + unreachable ys) ≡ counts_of (a + answers (xs ++ ys)) (u + tally req (missed_in (xs ++ ys))) (g + again (xs ++ ys)) (r + unreachable (xs ++ ys))
joined a u g r xs ys =
    let answered : answers (xs ++ ys) ≡ answers xs + answers ys = tally-append (λ (one : Events.Heard). is_some one.told.answers) xs ys in
    let before : again (xs ++ ys) ≡ again xs + again ys = tally-append (λ (one : Events.Heard). is_some one.told.again) xs ys in
    let reset : resets (xs ++ ys) ≡ resets xs + resets ys = tally-append (λ (one : Events.Heard). is_some one.told.resets) xs ys in
    let failed : failures (xs ++ ys) ≡ failures xs + failures ys = tally-append (λ (one : Events.Heard). is_failed one.event) xs ys in
    let requests : tally req (missed_in (xs ++ ys)) ≡ tally req (missed_in xs) + tally req (missed_in ys) = missed-append req xs ys in
    let syns : tally syn (missed_in (xs ++ ys)) ≡ tally syn (missed_in xs) + tally syn (missed_in ys) = missed-append syn xs ys in
    recount (a + answers xs + answers ys) (a + answers (xs ++ ys)) (u + tally req (missed_in xs) + tally req (missed_in ys)) (u + tally req (missed_in (xs ++ ys))) (g + again xs + again ys) (g + again (xs ++ ys)) (r + unreachable xs + unreachable ys) (r + unreachable (xs ++ ys)) (omega arith) (omega arith) (omega arith) (omega arith)

all-found : (found : List Finding) (happened : Happened) (a u g r : ℕ) → happened.counts ≡ counts_of a u g r → (happened_from found happened).counts ≡ counts_of (a + answers (Events.heard_from happened.sendings (events_from happened.parts found))) (u + tally req (missed_in (Events.heard_from happened.sendings (events_from happened.parts found)))) (g + again (Events.heard_from happened.sendings (events_from happened.parts found))) (r + unreachable (Events.heard_from happened.sendings (events_from happened.parts found)))
all-found [] happened a u g r e = e ∙ recount a (a + 0) u (u + 0) g (g + 0) r (r + (0 + (0 + 0))) (omega arith) (omega arith) (omega arith) (omega arith)
all-found (one ∷ others) happened a u g r e =
    let events = events_of happened.parts one.0 one.1 in
    let this = found-told one.0 one.1 happened in
    let first = Events.heard_from happened.sendings events in
    let rest = Events.heard_from (Events.window_from happened.sendings events) (events_from (parts_after happened.parts one.1) others) in
    let after : Happened = then_told one.0 one.1 happened in
    let later = Events.heard_from after.sendings (events_from after.parts others) in
    let same : Events.heard_from after.sendings (events_from after.parts others) ≡ rest = ap₂ (λ parts sendings. Events.heard_from sendings (events_from parts others)) this.parts this.sendings in
    let split : Events.heard_from happened.sendings (events ++ events_from (parts_after happened.parts one.1) others) ≡ first ++ rest = heard-append events (events_from (parts_after happened.parts one.1) others) happened.sendings in
    all-found others after (a + answers first) (u + tally req (missed_in first)) (g + again first) (r + unreachable first) (step-counted one.0 one.1 happened a u g r e)
    ∙ ap (λ xs. counts_of (a + answers first + answers xs) (u + tally req (missed_in first) + tally req (missed_in xs)) (g + again first + again xs) (r + unreachable first + unreachable xs)) same
    ∙ joined a u g r first rest
    ∙ sym (ap (λ xs. counts_of (a + answers xs) (u + tally req (missed_in xs)) (g + again xs) (r + unreachable xs)) split)

-- the end of the capture, too
abbrev at_end : Moment → List Sending → Events.Heard
at_end now window = record { event = Events.Ended now; told = (Events.taken (Events.Ended now) window).told }

all-counts : (told : List Events.Heard) → counts_of (0 + answers told) (0 + tally req (missed_in told)) (0 + again told) (0 + unreachable told) ≡ counts_in told
all-counts told =
    let answered : length (filter (λ (one : Events.Heard). is_some one.told.answers) told) ≡ answers told = tally-filter (λ (one : Events.Heard). is_some one.told.answers) told in
    let before : length (filter (λ (one : Events.Heard). is_some one.told.again) told) ≡ again told = tally-filter (λ (one : Events.Heard). is_some one.told.again) told in
    let reset : length (filter (λ (one : Events.Heard). is_some one.told.resets) told) ≡ resets told = tally-filter (λ (one : Events.Heard). is_some one.told.resets) told in
    let failed : length (filter (λ (one : Events.Heard). is_failed one.event) told) ≡ failures told = tally-filter (λ (one : Events.Heard). is_failed one.event) told in
    let requests : length (filter req (missed_in told)) ≡ tally req (missed_in told) = tally-filter req (missed_in told) in
    let syns : length (filter syn (missed_in told)) ≡ tally syn (missed_in told) = tally-filter syn (missed_in told) in
    recount (0 + answers told) (answered_in told) (0 + tally req (missed_in told)) (unanswered_in told) (0 + again told) (again_in told) (0 + unreachable told) (unreachable_in told) (omega arith) (omega arith) (omega arith) (omega arith)

ended : (now : Moment) (window : List Sending) (told : List Events.Heard) → counts_of (0 + answers told) (0 + tally req (missed_in told) + tally req (open_in window)) (0 + again told) (0 + unreachable told + tally syn (open_in window)) ≡ counts_in (told ++ at_end now window ∷ [])
ended now window told =
    let last = at_end now window ∷ [] in
    let requests : tally req (missed_in last) ≡ tally req (open_in window) + 0 = tally-append req (open_in window) [] in
    let syns : tally syn (missed_in last) ≡ tally syn (open_in window) + 0 = tally-append syn (open_in window) [] in
    recount (0 + answers told) (0 + answers told + answers last) (0 + tally req (missed_in told) + tally req (open_in window)) (0 + tally req (missed_in told) + tally req (missed_in last)) (0 + again told) (0 + again told + again last) (0 + unreachable told + tally syn (open_in window)) (0 + unreachable told + unreachable last) (omega arith) (omega arith) (omega arith) (omega arith)
    ∙ joined 0 0 0 0 told last
    ∙ all-counts (told ++ at_end now window ∷ [])

pub counts_are_of_events : CountsAreOfEvents
counts_are_of_events now found =
    let last = happened_from found nothing_happened in
    let told = Events.heard (events_in found) in
    ap (λ happened. end_counts happened) (each-from found nothing_happened)
    ∙ ap (λ c. each_counted (end_news (happened_from found nothing_happened)) c) (all-found found nothing_happened 0 0 0 0 refl)
    ∙ each-missed _ each_counted (λ c. refl) (λ one others c. refl) (open_in (happened_from found nothing_happened).sendings) (0 + answers told) (0 + tally req (missed_in told)) (0 + again told) (0 + unreachable told)
    ∙ ap (λ window. counts_of (0 + answers told) (0 + tally req (missed_in told) + tally req (open_in window)) (0 + again told) (0 + unreachable told + tally syn (open_in window))) (sendings-from found nothing_happened)
    ∙ ended now (Events.window_after (events_in found)) told
    ∙ sym (ap (λ xs. counts_in xs) (heard-append (events_in found) (Events.Ended now ∷ []) []))
