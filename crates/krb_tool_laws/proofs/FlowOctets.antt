-- What a direction delivers is of the octets of its segments, and its places are below 2^64.
use Rattle.std.proofs.Common.{◌≡◌, ℕ, ◌+◌, ◌-◌, ◌%◌, ◌^◌, ◌<◌, ◌≤◌, ◌==◌, ◌&&◌, ◌||◌, nat_lt, not, Bool, true, false, List, [], ◌∷◌, ◌++◌, length, drop, Option, Some, None, IfSome, refl, arith, length-append, length-drop}
use Rattle.std.proofs.lemmas.Bool.{eqb-true}
use Rattle.std.proofs.lemmas.Bool.Decides.{nat_tests}
use Rattle.std.specs.Prelude.{is_some}
use Rattle.std.specs.List.{AllByRecursion}
use Rattle.std.specs.Ordering.{nat_cmp}
use Rattle.std.specs.BTreeMap.{insert_entry, is_at}
use Rattle.std.specs.Map.{lookup}
use Rattle.krb_der.specs.Octets.{AreOctets, when}
use Rattle.krb_der.specs.inner.Numbers.{AreOctets-append, AreOctets-drop}
use Rattle.krb_packet.specs.declared.contents.Segment.{Segment}
use Rattle.krb_flow.specs.Directions.{Begun, Delivery, Outcome, advanced, at_data, begins, deliver, delivered, distance_to, earlier, end_of, end_place, ended, ending, far_with, first_number, first_place, glimpsed, goes_on, had, if_later, is_far, is_first, is_over, joined, kept, later, may_join, missing, next_place, or_seen, passes_all, seen_with, start, step, unless_over}
use Rattle.krb_flow.specs.Progress.{Progress, begun}
use Rattle.krb_flow.specs.Serial.{ahead, behind, distance, from_to}
use Rattle.krb_flow.specs.Waiting.{Waiting, early, keep, keep_one, ready}
use Rattle.krb_flow.specs.Window.{stream_at, stream_with}
use Rattle.krb_flow.specs.declared.direction.Beginning.{Beginning}
use Rattle.krb_flow.specs.declared.direction.Beginning.TheVariants as beginnings
use Rattle.krb_flow.specs.declared.direction.State.{State}
use Rattle.krb_flow.specs.declared.direction.State.TheVariants.{Fresh, Open, Ended}
use Rattle.krb_flow.specs.declared.had.Had.{Had}
use Rattle.krb_flow.specs.declared.serial.Distance.TheVariants.{Ahead, Behind}
use Rattle.krb_flow.specs.declared.stream.End.{End}
use Rattle.krb_flow.specs.declared.stream.End.TheVariants as ends
use Rattle.krb_tool_laws.proofs.CaptureParts.{HasOctets, either_has, either_if}
use Rattle.krb_tool_laws.proofs.KeptEntries.{AreKept, kept_inserted, keys_inserted}

-- ---- octets that wait
abbrev pub IsOctet : ℕ → Type 0
IsOctet octet = octet < 256

-- each is before this place
abbrev pub IsBefore : ℕ → Type 0
IsBefore place = place < 2 ^ 63

pub record AreWaiting (waiting : Waiting) : Type 0 where
  pub octets : AreKept {K = ℕ} IsOctet waiting
  pub places : AllByRecursion (λ (entry : ℕ × ℕ). IsBefore entry.0) waiting

others_wait : (entry : ℕ × ℕ) (entries : Waiting) → AreWaiting (entry ∷ entries) → AreWaiting entries
others_wait entry entries are = record { octets = are.octets.1; places = are.places.1 }

one_kept : (place octet : ℕ) (waiting : Waiting) → IsOctet octet → IsBefore place → AreWaiting waiting → AreWaiting (keep_one place octet waiting)
one_kept place octet waiting is before are =
    either_has AreWaiting (is_some (lookup (is_at (nat_cmp place)) waiting)) (λ _. waiting) (λ _. insert_entry nat_cmp waiting place octet) are
    (record { octets = kept_inserted IsOctet nat_cmp waiting place octet are.octets is; places = keys_inserted IsBefore nat_cmp waiting place octet are.places before })

all_kept : (place : ℕ) (octets : List ℕ) (waiting : Waiting) → AreOctets octets → place + length octets ≤ 2 ^ 63 → AreWaiting waiting → AreWaiting (keep place octets waiting)
all_kept place [] waiting is few are = are
all_kept place (octet ∷ octets) waiting is few are = all_kept (place + 1) octets (keep_one place octet waiting) is.1 (omega (arith, few)) (one_kept place octet waiting is.0 (omega (arith, few)) are)

ready_are : (expected : ℕ) (waiting : Waiting) → AreWaiting waiting → AreOctets (ready expected waiting)
ready_are expected [] are = tt
ready_are expected (entry ∷ entries) are =
    either_has AreOctets (entry.0 == expected) (λ _. entry.1 ∷ ready (expected + 1) entries) (λ _. []) (are.octets.0, ready_are (expected + 1) entries (others_wait entry entries are)) tt

ready_few : (expected : ℕ) (waiting : Waiting) → expected ≤ 2 ^ 63 → AreWaiting waiting → expected + length (ready expected waiting) ≤ 2 ^ 63
ready_few expected [] small are = omega (arith, small)
ready_few expected (entry ∷ entries) small are = by (λ more. ready_few (expected + 1) entries more (others_wait entry entries are)) (entry.0 == expected) refl
  where
    by : (expected + 1 ≤ 2 ^ 63 → expected + 1 + length (ready (expected + 1) entries) ≤ 2 ^ 63) → (is : Bool) → (entry.0 == expected) ≡ is → expected + length (when is (λ _. entry.1 ∷ ready (expected + 1) entries) (λ _. [])) ≤ 2 ^ 63
    by others true e = omega (arith, others (omega (arith, are.places.0, eqb-true entry.0 expected e)))
    by others false e = omega (arith, small)

early_are : (expected : ℕ) (waiting : Waiting) → AreWaiting waiting → AreWaiting (early expected waiting)
early_are expected [] are = are
early_are expected (entry ∷ entries) are = either_has AreWaiting (entry.0 == expected) (λ _. early (expected + 1) entries) (λ _. entry ∷ entries) (early_are (expected + 1) entries (others_wait entry entries are)) are

-- ---- places
abbrev pub IsPlace : ℕ → Type 0
IsPlace place = place < 2 ^ 64

abbrev pub IsPlaceIf : Option ℕ → Type 0
IsPlaceIf place = IfSome place IsPlace

pub ahead_small : (expected number : ℕ) → ahead (distance expected number) < 2 ^ 32
ahead_small expected number = either_has (λ d. ahead d < 2 ^ 32) (nat_lt (from_to expected number) (2 ^ 31)) (λ _. Ahead (from_to expected number)) (λ _. Behind (from_to number expected)) (omega arith) (omega arith)

pub behind_small : (expected number : ℕ) → behind (distance expected number) < 2 ^ 32
behind_small expected number = either_has (λ d. behind d < 2 ^ 32) (nat_lt (from_to expected number) (2 ^ 31)) (λ _. Ahead (from_to expected number)) (λ _. Behind (from_to number expected)) (omega arith) (omega arith)

later_small : (place : Option ℕ) (other : ℕ) → IsPlaceIf place → IsPlace other → IsPlace (later place other)
later_small None other a b = b
later_small (Some place) other a b = omega (arith, a, b)

earlier_small : (place other : Option ℕ) → IsPlaceIf place → IsPlaceIf other → IsPlaceIf (earlier place other)
earlier_small None other a b = b
earlier_small (Some place) None a b = a
earlier_small (Some place) (Some other) a b = omega (arith, a, b)

-- ---- a direction
pub record IsProgress (progress : Progress) : Type 0 where
  pub waiting : AreWaiting progress.waiting
  pub expected : progress.expected ≤ 2 ^ 63
  pub seen : IsPlace progress.seen
  pub far : IsPlaceIf progress.far

abbrev pub IsHad : Had → Type 0
IsHad gone = gone.expected ≤ 2 ^ 63

abbrev pub IsState : State → Type 0
IsState Fresh = Unit {0}
IsState (Open progress) = IsProgress progress
IsState (Ended gone) = IsHad gone

-- how many octets it took, or had
abbrev pub taken_by : State → ℕ
taken_by Fresh = 0
taken_by (Open progress) = progress.expected
taken_by (Ended gone) = gone.expected

pub taken_few : (state : State) → IsState state → taken_by state ≤ 2 ^ 63
taken_few Fresh are = omega arith
taken_few (Open progress) are = are.expected
taken_few (Ended gone) are = are

begun_is : (first : ℕ) → IsProgress (begun first)
begun_is first = record { waiting = record { octets = tt; places = tt }; expected = omega arith; seen = omega arith; far = tt }

pub start_small : (progress : Progress) (segment : Segment) → IsProgress progress → start progress.expected (distance_to progress segment) < 2 ^ 63 + 2 ^ 32
start_small progress segment are = omega (arith, are.expected, ahead_small ((progress.first + progress.expected % 2 ^ 32) % 2 ^ 32) (first_number segment))

module _ (progress : Progress) (segment : Segment) (are : IsProgress progress) (is : HasOctets segment.payload) where
  end_small : IsPlaceIf (end_place progress.expected (distance_to progress segment) segment.payload.size)
  end_small =
      either_if IsPlace (nat_lt (start progress.expected (distance_to progress segment) + segment.payload.size) (behind (distance_to progress segment))) (λ _. None)
      (λ _. Some (start progress.expected (distance_to progress segment) + segment.payload.size - behind (distance_to progress segment))) tt (omega (arith, start_small progress segment are, is.small))

  seen_small : IsPlace (seen_with progress segment)
  seen_small =
      either_has IsPlace (nat_lt 0 segment.payload.size || segment.fin) (λ _. later (end_place progress.expected (distance_to progress segment) segment.payload.size) progress.seen) (λ _. progress.seen)
      (later_small (end_place progress.expected (distance_to progress segment) segment.payload.size) progress.seen end_small are.seen) are.seen

  far_small : IsPlaceIf (far_with progress segment)
  far_small =
      either_has IsPlaceIf (nat_lt 0 (length segment.payload.octets)) (λ _. earlier (Some (start progress.expected (distance_to progress segment))) progress.far) (λ _. progress.far)
      (earlier_small (Some (start progress.expected (distance_to progress segment))) progress.far (omega (arith, start_small progress segment are)) are.far) are.far

  kept_are : passes_all progress segment ≡ false → is_far progress segment ≡ false → AreWaiting (kept progress segment)
  kept_are within near =
      let low : progress.expected + segment.payload.size < 2 ^ 62 = grind (arith, nat_tests, within) in
      let close : ahead (distance_to progress segment) ≤ 2 ^ 20 = grind (arith, nat_tests, near) in
      all_kept (start progress.expected (distance_to progress segment)) (drop (behind (distance_to progress segment)) segment.payload.octets) progress.waiting (AreOctets-drop (behind (distance_to progress segment)) segment.payload.octets is.octets)
      (omega (arith, low, close, length-drop (behind (distance_to progress segment)) segment.payload.octets, is.fits, is.small)) are.waiting

-- what was delivered, and the progress then
record AreDelivered (progress : Progress) (went : List ℕ × Progress) : Type 0 where
  octets : AreOctets went.0
  progress_is : IsProgress went.1
  counted : went.1.expected ≡ progress.expected + length went.0

deliver_is : (progress : Progress) (segment : Segment) → IsProgress progress → HasOctets segment.payload → AreDelivered progress (deliver progress segment)
deliver_is progress segment are is = by (passes_all progress segment) refl
  where
    in_order : passes_all progress segment ≡ false → is_far progress segment ≡ false → AreDelivered progress (delivered progress segment, advanced progress segment)
    in_order within near =
        let waiting = kept_are progress segment are is within near in
        record {
          octets = ready_are progress.expected (kept progress segment) waiting;
          progress_is = record {
            waiting = early_are progress.expected (kept progress segment) waiting;
            expected = ready_few progress.expected (kept progress segment) are.expected waiting;
            seen = seen_small progress segment are is;
            far = are.far;
          };
          counted = refl;
        }

    unless_far : passes_all progress segment ≡ false → (far : Bool) → is_far progress segment ≡ far → AreDelivered progress (when far (λ _. ([], glimpsed progress segment)) (λ _. (delivered progress segment, advanced progress segment)))
    unless_far within true e = record { octets = tt; progress_is = record { waiting = are.waiting; expected = are.expected; seen = seen_small progress segment are is; far = far_small progress segment are is }; counted = omega arith }
    unless_far within false e = in_order within e

    by : (passes : Bool) → passes_all progress segment ≡ passes → AreDelivered progress (when passes (λ _. ([], progress)) (λ _. when (is_far progress segment) (λ _. ([], glimpsed progress segment)) (λ _. (delivered progress segment, advanced progress segment))))
    by true e = record { octets = tt; progress_is = are; counted = omega arith }
    by false e = unless_far e (is_far progress segment) refl

-- ---- the end of a direction
abbrev pub IsEnding : End → Type 0
IsEnding (ends.Lost lost) = (lost.place < 2 ^ 64) × (lost.octets < 2 ^ 64)
IsEnding ends.Complete = Unit {0}

abbrev pub IsEndingIf : Option End → Type 0
IsEndingIf end = IfSome end IsEnding

missing_is : (expected place : ℕ) → expected ≤ 2 ^ 63 → IsPlace place → IsEnding (missing expected place)
missing_is expected place small other =
    either_has IsEnding (nat_lt expected place) (λ _. ends.Lost (record { place = expected; octets = place - expected })) (λ _. ends.Complete) (omega (arith, small), omega (arith, other)) tt

first_small : (waiting : Waiting) → AreWaiting waiting → IsPlaceIf (first_place waiting)
first_small [] are = tt
first_small (entry ∷ entries) are = omega (arith, are.places.0)

later_if_small : (expected : ℕ) (place : Option ℕ) → IsPlaceIf place → IsPlaceIf (if_later expected place)
later_if_small expected None is = tt
later_if_small expected (Some place) is = either_if IsPlace (nat_lt expected place) (λ _. Some place) (λ _. None) is tt

or_seen_small : (seen : ℕ) (place : Option ℕ) → IsPlace seen → IsPlaceIf place → IsPlace (or_seen seen place)
or_seen_small seen None a b = a
or_seen_small seen (Some place) a b = b

ending_is : (progress : Progress) → IsProgress progress → IsEnding (ending progress)
ending_is progress are =
    missing_is progress.expected (next_place progress) are.expected
    (or_seen_small progress.seen (earlier (first_place progress.waiting) (if_later progress.expected progress.far)) are.seen
    (earlier_small (first_place progress.waiting) (if_later progress.expected progress.far) (first_small progress.waiting are.waiting) (later_if_small progress.expected progress.far are.far)))

pub end_is : (state : State) → IsState state → IsEndingIf (end_of state)
end_is Fresh are = tt
end_is (Open progress) are = ending_is progress are
end_is (Ended gone) are = tt

-- ---- a segment
-- what is delivered, how the direction ended, and what is counted of it then
record IsDelivery (state : State) (gone : Delivery) : Type 0 where
  octets : AreOctets gone.0
  end : IsEndingIf gone.1
  state_is : IsState gone.2
  counted : taken_by gone.2 ≡ taken_by state + length gone.0

unless_is : (progress : Progress) (went : List ℕ × Progress) → AreDelivered progress went → IsDelivery (Open progress) (unless_over went)
unless_is progress went is =
    either_has (IsDelivery (Open progress)) (is_over went.1) (λ _. (went.0, Some (ending went.1), Ended (had went.1))) (λ _. (went.0, None, Open went.1))
    (record { octets = is.octets; end = ending_is went.1 is.progress_is; state_is = is.progress_is.expected; counted = is.counted })
    (record { octets = is.octets; end = tt; state_is = is.progress_is; counted = is.counted })

goes_is : (state : State) (segment : Segment) → IsState state → HasOctets segment.payload → IsDelivery state (goes_on state segment)
goes_is Fresh segment are is = record { octets = tt; end = tt; state_is = tt; counted = refl }
goes_is (Open progress) segment are is = unless_is progress (deliver progress segment) (deliver_is progress segment are is)
goes_is (Ended gone) segment are is = record { octets = tt; end = tt; state_is = are; counted = omega arith }

record IsBegun (state : State) (one : Begun) : Type 0 where
  before : IsEndingIf one.0
  state_is : IsState one.2
  counted : (stream : List ℕ) → length stream ≤ taken_by state → length (stream_at one.1 stream) ≤ taken_by one.2

at_first_octet : (before : Option End) (beginning : Beginning) (state : State) (segment : Segment) → IsEndingIf before → IsBegun state (before, Some beginning, Open (begun (first_number segment)))
at_first_octet before beginning state segment is = record { before = is; state_is = begun_is (first_number segment); counted = λ stream few. omega arith }

data_is : (state : State) (segment : Segment) → IsState state → IsBegun state (at_data state segment)
data_is state segment are =
    either_has (IsBegun state) (may_join state segment && nat_lt 0 segment.payload.size) (λ _. (None, Some beginnings.Joined, Open (begun (first_number segment)))) (λ _. (None, None, state))
    (at_first_octet None beginnings.Joined state segment tt)
    (record { before = tt; state_is = are; counted = λ stream few. few })

begins_is : (state : State) (segment : Segment) → IsState state → IsBegun state (begins state segment)
begins_is state segment are =
    either_has (IsBegun state) (segment.syn && not (is_first state (first_number segment))) (λ _. (end_of state, Some beginnings.Syn, Open (begun (first_number segment)))) (λ _. at_data state segment)
    (at_first_octet (end_of state) beginnings.Syn state segment (end_is state are)) (data_is state segment are)

pub begun_state : (state : State) (segment : Segment) → IsState state → IsState (begins state segment).2
begun_state state segment are = (begins_is state segment are).state_is

ended_is : (state : State) → IsState state → IsState (ended state)
ended_is Fresh are = tt
ended_is (Open progress) are = are.expected
ended_is (Ended gone) are = are

ended_counted : (state : State) → taken_by (ended state) ≡ taken_by state
ended_counted Fresh = refl
ended_counted (Open progress) = refl
ended_counted (Ended gone) = refl

pub record IsStep (state : State) (stepped : Outcome × State) : Type 0 where
  pub before : IsEndingIf stepped.0.before
  pub octets : AreOctets stepped.0.octets
  pub end : IsEndingIf stepped.0.end
  pub state_is : IsState stepped.1
  pub counted : (stream : List ℕ) → length stream ≤ taken_by state → length (stream_at stepped.0.begins stream ++ stepped.0.octets) ≤ taken_by stepped.1

reset_is : (state : State) → IsState state → IsStep state (record { before = None; begins = None; octets = []; end = end_of state }, ended state)
reset_is state are = record { before = tt; octets = tt; end = end_is state are; state_is = ended_is state are; counted = λ stream few. omega (arith, few, length-append stream [], ended_counted state) }

joined_is : (state : State) (one : Begun) (gone : Delivery) → IsBegun state one → IsDelivery one.2 gone → IsStep state (joined one gone)
joined_is state one gone a b = record {
  before = a.before;
  octets = b.octets;
  end = b.end;
  state_is = b.state_is;
  counted = λ stream few. omega (arith, a.counted stream few, b.counted, length-append (stream_at one.1 stream) gone.0);
}

pub step_is : (state : State) (segment : Segment) → IsState state → HasOctets segment.payload → IsStep state (step state segment)
step_is state segment are is =
    let one = begins_is state segment are in
    either_has (IsStep state) segment.rst (λ _. (record { before = None; begins = None; octets = []; end = end_of state }, ended state)) (λ _. joined (begins state segment) (goes_on (begins state segment).2 segment)) (reset_is state are)
    (joined_is state (begins state segment) (goes_on (begins state segment).2 segment) one (goes_is (begins state segment).2 segment one.state_is is))

-- ---- the octets that it took: no more than are counted
pub record IsStream (state : State) (stream : List ℕ) : Type 0 where
  pub octets : AreOctets stream
  pub counted : length stream ≤ taken_by state

pub begun_stream : (begins : Option Beginning) (stream : List ℕ) → AreOctets stream → AreOctets (stream_at begins stream)
begun_stream None stream are = are
begun_stream (Some beginning) stream are = tt

pub stream_is : (state : State) (stream : List ℕ) (segment : Segment) → IsStream state stream → IsState state → HasOctets segment.payload → IsStream (step state segment).1 (stream_with state stream segment)
stream_is state stream segment its are is =
    let stepped : IsStep state (step state segment) = step_is state segment are is in
    record {
      octets = AreOctets-append (stream_at (step state segment).0.begins stream) (step state segment).0.octets (begun_stream (step state segment).0.begins stream its.octets) stepped.octets;
      counted = stepped.counted stream its.counted;
    }
