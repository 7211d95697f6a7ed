-- A direction of whose segments and ends nothing is told: its streams have each octet that was captured.
use Rattle.std.proofs.Common.{◌≡◌, ℕ, suc, ◌+◌, ◌-◌, ◌%◌, ◌^◌, ◌<◌, ◌≤◌, ◌⊎◌, inl, inr, Bool, true, false, not, ◌&&◌, is_some, Option, Some, None, List, [], ◌∷◌, ◌++◌, length, drop, refl, sym, ap, ap₂, subst, ◌∙◌, arith, append-nil, length-append, length-drop}
use Rattle.std.specs.Prelude.{slice_get, max, nat_lt, if◌then◌else◌}
use Rattle.std.specs.List.{AllByRecursion, Contains}
use Rattle.std.proofs.lemmas.Bool.{lt-leb, ltb-true, ltb-false}
use Rattle.std.proofs.lemmas.List.{drop_all}
use Rattle.std.proofs.lemmas.List.Elements.{All-contains_itself, Contains-append_left, Contains-append_right}
use Rattle.std.proofs.lemmas.Option.{slice_get_within, none-some}
use Rattle.krb_der.specs.Octets.{when}
use Rattle.krb_packet.specs.declared.contents.Segment.{Segment}
use Rattle.krb_flow.specs.Directions.{Begun, Delivery, Outcome, advanced, begins, deliver, delivered, distance_to, earlier, end_of, ended, ending, first_number, first_place, glimpsed, goes_on, had, if_later, is_copy_of, is_far, is_first, is_over, joined, kept, may_join, missing, or_seen, passes_all, start, step, unless_over}
use Rattle.krb_flow.specs.Progress.{Progress, begun}
use Rattle.krb_flow.specs.Serial.{behind}
use Rattle.krb_flow.specs.Unread.{if_any, nothing, of_far, of_reset, untaken_at, untaken_copy, untaken_in, untaken_near, untaken_of}
use Rattle.krb_flow.specs.Waiting.{Waiting}
use Rattle.krb_flow.specs.Window.{recent, stream_at, stream_with}
use Rattle.krb_flow.specs.declared.direction.Beginning.{Beginning}
use Rattle.krb_flow.specs.declared.direction.Beginning.TheVariants.{Syn, Joined}
use Rattle.krb_flow.specs.declared.direction.State.{State}
use Rattle.krb_flow.specs.declared.direction.State.TheVariants.{Fresh, Open, Ended}
use Rattle.krb_flow.specs.declared.had.Had.{Had}
use Rattle.krb_flow.specs.declared.stream.End.{End}
use Rattle.krb_flow.specs.declared.stream.End.TheVariants.{Complete, Lost}
use Rattle.krb_flow.specs.declared.unread.Untaken.{Untaken}
use Rattle.krb_source.specs.declared.unread_why.UnreadWhy.TheVariants as why
use Rattle.krb_capture_laws.specs.Shown.{AreTaken, HidesNothing, TakenStream, size_of, stream_there, streams_of}
use Rattle.krb_capture_laws.proofs.Captured.{Clear, Sorted, onward_clear}
use Rattle.krb_capture_laws.proofs.Held.{Held, at, few_kept, front_stays, held_on, kept_stays, ready_and_early}
use Rattle.krb_capture_laws.proofs.Pieces.{most_octets}
use Rattle.krb_capture_laws.proofs.Untold.{Known, NoneTold, after_known, near_known, none_of}

-- ---- the streams that go on

-- one of these streams begins with what was taken, and has what waits at its places
pub record Reaches (first : ℕ) (stream : List ℕ) (waiting : Waiting) (streams : List TakenStream) : Type 0 where
  pub whole : TakenStream
  pub among : Contains streams whole
  pub first_is : whole.first ≡ first
  pub held : (place octet : ℕ) → Held stream waiting place octet → slice_get whole.octets place ≡ Some octet
  pub long : length stream ≤ length whole.octets

abbrev pub GoesOn : State → List ℕ → List TakenStream → Type 0
GoesOn Fresh stream streams = Unit {0}
GoesOn (Open progress) stream streams = Reaches progress.first stream progress.waiting streams
GoesOn (Ended had) stream streams = Reaches had.first stream [] streams

reaches_back : (first : ℕ) (stream after : List ℕ) (waiting later : Waiting) (streams : List TakenStream) → ((place octet : ℕ) → Held stream waiting place octet → Held after later place octet) → length stream ≤ length after → Reaches first after later streams → Reaches first stream waiting streams
reaches_back first stream after waiting later streams onward longer r = record { whole = r.whole; among = r.among; first_is = r.first_is; held = λ place octet held. r.held place octet (onward place octet held); long = omega (arith, longer, r.long) }

first_of : (first : TakenStream) (others : List TakenStream) → Contains (first ∷ others) first
first_of first others = Contains-append_left (first ∷ []) others first (All-contains_itself (first ∷ []) 0 first (omega arith))

-- a stream that is all there
reaches_itself : (first : ℕ) (stream : List ℕ) (waiting : Waiting) (others : List TakenStream) → waiting ≡ [] → Reaches first stream waiting (record { first = first; octets = stream } ∷ others)
reaches_itself first stream waiting others none = record {
  whole = record { first = first; octets = stream };
  among = first_of (record { first = first; octets = stream }) others;
  first_is = refl;
  held = λ place octet held. by place octet held;
  long = omega arith;
}
  where
    by : (place octet : ℕ) → Held stream waiting place octet → slice_get stream place ≡ Some octet
    by place octet (inl taken) = taken
    by place octet (inr waits) = absurd (none-some octet (sym (ap (at place) none) ∙ waits))

-- ---- segments

hides_known : (stream : List ℕ) (waiting : Waiting) (first most : ℕ) (segment : Segment) (streams : List TakenStream) → most ≤ length stream → Reaches first stream waiting streams → Known stream waiting first most segment → HidesNothing streams segment
hides_known stream waiting first most segment streams le r (inl all) =
    inl (λ index octet within there. by index octet within there)
  where
    by : AreTaken streams segment
    by index octet within there =
        let a = all index octet within there in
        record {
          stream = r.whole;
          among = r.among;
          there = record { place = a.place; number_is = a.number_is ∙ ap (λ (n : ℕ). (n + a.place) % 2 ^ 32) (sym r.first_is); octet_is = r.held a.place octet a.held };
        }
hides_known stream waiting first most segment streams le r (inr a) =
    inr (record {
      one = a.one;
      zero = a.zero;
      stream = r.whole;
      among = r.among;
      place = a.place;
      within = omega (arith, a.within, r.long);
      number_is = a.number_is ∙ ap (λ (n : ℕ). (n + a.place) % 2 ^ 32) (sym r.first_is);
    })

none_hidden : (streams : List TakenStream) (segment : Segment) → length segment.payload.octets ≡ 0 → HidesNothing streams segment
none_hidden streams segment none = inl (λ index octet within there. absurd (let inside : index < length segment.payload.octets = slice_get_within segment.payload.octets index octet there in omega arith))

empty_hidden : (streams : List TakenStream) (segment : Segment) → segment.payload.size ≤ 0 → HidesNothing streams segment
empty_hidden streams segment none = inl (λ index octet within there. absurd (omega arith))

hides_more : (some more : List TakenStream) (segment : Segment) → ((one : TakenStream) → Contains some one → Contains more one) → HidesNothing some segment → HidesNothing more segment
hides_more some more segment wider (inl all) = inl (λ index octet within there. let a = all index octet within there in record { stream = a.stream; among = wider a.stream a.among; there = a.there })
hides_more some more segment wider (inr a) = inr (record { one = a.one; zero = a.zero; stream = a.stream; among = wider a.stream a.among; place = a.place; within = a.within; number_is = a.number_is })

all_more : (some more : List TakenStream) (segments : List Segment) → ((one : TakenStream) → Contains some one → Contains more one) → AllByRecursion (HidesNothing some) segments → AllByRecursion (HidesNothing more) segments
all_more some more [] wider all = tt
all_more some more (segment ∷ segments) wider all = (hides_more some more segment wider all.0, all_more some more segments wider all.1)

-- ---- an end of which nothing is told

-- what waits is missing before
abbrev IsLater : ℕ → Option ℕ → Type 0
IsLater expected None = Unit {0}
IsLater expected (Some place) = expected < place

later_of : (expected : ℕ) (far : Option ℕ) → IsLater expected (if_later expected far)
later_of expected None = tt
later_of expected (Some place) = by (nat_lt expected place) refl
  where
    by : (b : Bool) → nat_lt expected place ≡ b → IsLater expected (when b (λ _. Some place) (λ _. None))
    by true is = ltb-true expected place is
    by false is = tt

not_missing : (expected place : ℕ) → missing expected place ≡ Complete → place ≤ expected
not_missing expected place is = by (nat_lt expected place) refl is
  where
    by : (b : Bool) → nat_lt expected place ≡ b → when b (λ _. Lost (record { place = expected; octets = place - expected })) (λ _. Complete) ≡ Complete → place ≤ expected
    by true is e = absurd cc
    by false is e = ltb-false expected place is

none_waits_by : (expected seen : ℕ) (waiting : Waiting) (far : Option ℕ) → Sorted (suc expected) waiting → IsLater expected far → missing expected (or_seen seen (earlier (first_place waiting) far)) ≡ Complete → waiting ≡ []
unfolding Sorted
none_waits_by expected seen [] far sorted later is = refl
none_waits_by expected seen (entry ∷ entries) None sorted later is =
    let le : entry.0 ≤ expected = not_missing expected entry.0 is in
    let low : suc expected ≤ entry.0 = sorted.0 in
    absurd (omega arith)
none_waits_by expected seen (entry ∷ entries) (Some place) sorted later is =
    let low : suc expected ≤ entry.0 = sorted.0 in
    absurd (omega (arith, not_missing expected _ is, later))

none_waits : (progress : Progress) → Clear progress → ending progress ≡ Complete → progress.waiting ≡ []
none_waits progress clear is = none_waits_by progress.expected progress.seen progress.waiting (if_later progress.expected progress.far) clear (later_of progress.expected progress.far) is

-- ---- how a direction begins with a segment

data Began (state : State) (segment : Segment) (at : Begun) : Type 0 where
  Anew : (how : Beginning) → at ≡ (end_of state, Some how, Open (begun (first_number segment))) → Began state segment at
  Same : at ≡ (None, None, state) → (may_join state segment && nat_lt 0 segment.payload.size) ≡ false → Began state segment at

begins_by : (state : State) (segment : Segment) → Began state segment (begins state segment)
begins_by state segment = by (segment.syn && not (is_first state (first_number segment))) (may_join state segment && nat_lt 0 segment.payload.size) refl (joins state)
  where
    joins : (s : State) → (may_join s segment && nat_lt 0 segment.payload.size) ≡ true → end_of s ≡ None
    joins Fresh is = refl
    joins (Open progress) is = absurd cc
    joins (Ended had) is = refl

    by : (anew more : Bool) → (may_join state segment && nat_lt 0 segment.payload.size) ≡ more → ((may_join state segment && nat_lt 0 segment.payload.size) ≡ true → end_of state ≡ None) → Began state segment (when anew (λ _. (end_of state, Some Syn, Open (begun (first_number segment)))) (λ _. when more (λ _. (None, Some Joined, Open (begun (first_number segment)))) (λ _. (None, None, state))))
    by true more is none = Anew Syn refl
    by false true is none = Anew Joined (ap (λ (e : Option End). (e, Some Joined, Open (begun (first_number segment)))) (sym (none is)))
    by false false is none = Same refl is

-- ---- a direction of which nothing is told; `Listed` says that all of a stream is

-- what copies are compared with
abbrev pub IsCompared : State → List ℕ → List ℕ → Type 0
IsCompared Fresh stream others = others ≡ stream
IsCompared (Open progress) stream others = others ≡ stream
IsCompared (Ended had) stream others = (others ≡ stream) ⊎ (others ≡ [])

abbrev octets_with : Segment → ℕ
octets_with segment = max segment.payload.size (length segment.payload.octets)

pub record IsOpen (progress : Progress) (stream : List ℕ) (more : ℕ) : Type 0 where
  pub count : length stream ≡ progress.expected
  pub clear : Clear progress
  pub few : progress.expected + length progress.waiting + more < 2 ^ 61

-- what comes of a segment that an open direction takes
record Went (stream : List ℕ) (progress : Progress) (more : ℕ) (segment : Segment) (went : List ℕ × Progress) : Type 0 where
  first_is : went.1.first ≡ progress.first
  is_open : IsOpen went.1 (stream ++ went.0) more
  onward : (place octet : ℕ) → Held stream progress.waiting place octet → Held (stream ++ went.0) went.1.waiting place octet
  known : Known (stream ++ went.0) went.1.waiting progress.first progress.expected segment

module _ (stream : List ℕ) (progress : Progress) (more : ℕ) (segment : Segment) (is : IsOpen progress stream (octets_with segment + more)) where
  same_onward : (place octet : ℕ) → Held stream progress.waiting place octet → Held (stream ++ []) progress.waiting place octet
  same_onward place octet (inl taken) = inl (front_stays stream [] place octet taken)
  same_onward place octet (inr waits) = inr waits

  -- none of its octets was captured
  went_far : length segment.payload.octets ≡ 0 → Went stream progress more segment ([], glimpsed progress segment)
  went_far none = record {
    first_is = refl;
    is_open = record { count = ap length (append-nil stream) ∙ is.count; clear = is.clear; few = omega (arith, is.few) };
    onward = same_onward;
    known = inl (λ index octet within there. absurd (let inside : index < length segment.payload.octets = slice_get_within segment.payload.octets index octet there in omega arith));
  }

  near_onward : (place octet : ℕ) → Held stream progress.waiting place octet → Held (stream ++ delivered progress segment) (advanced progress segment).waiting place octet
  near_onward place octet (inl taken) = inl (front_stays stream (delivered progress segment) place octet taken)
  near_onward place octet (inr waits) =
      held_on stream progress.expected (kept progress segment) is.count place octet
      (inr (kept_stays place octet (start progress.expected (distance_to progress segment)) (drop (behind (distance_to progress segment)) segment.payload.octets) progress.waiting waits))

  near_few : (advanced progress segment).expected + length (advanced progress segment).waiting + more < 2 ^ 61
  near_few =
      omega (arith, is.few, ready_and_early progress.expected (kept progress segment), few_kept (start progress.expected (distance_to progress segment)) (drop (behind (distance_to progress segment)) segment.payload.octets) progress.waiting, length-drop (behind (distance_to progress segment)) segment.payload.octets)

  went_near : NoneTold (untaken_near (recent (Open progress) stream) progress segment) → Went stream progress more segment (delivered progress segment, advanced progress segment)
  went_near told = record {
    first_is = refl;
    is_open = record { count = length-append stream (delivered progress segment) ∙ ap (λ (n : ℕ). n + length (delivered progress segment)) is.count; clear = onward_clear progress segment is.clear; few = near_few };
    onward = near_onward;
    known = near_known stream (recent (Open progress) stream) (length stream - 65536) progress segment refl is.count told;
  }

  not_passed : passes_all progress segment ≡ false
  not_passed = lt-leb most_octets (progress.expected + segment.payload.size) (omega (arith, is.few))

  went_of : NoneTold (untaken_in (recent (Open progress) stream) progress segment) → Went stream progress more segment (deliver progress segment)
  went_of told =
      let Told : Bool → Type 0 = λ b. NoneTold (when b (λ _. nothing) (λ _. when (is_far progress segment) (λ _. record nothing { apart = of_far progress segment }) (λ _. untaken_near (recent (Open progress) stream) progress segment))) in
      let Goes : Bool → Type 0 = λ b. Went stream progress more segment (when b (λ _. ([], progress)) (λ _. when (is_far progress segment) (λ _. ([], glimpsed progress segment)) (λ _. (delivered progress segment, advanced progress segment)))) in
      subst Goes (sym not_passed) (by (is_far progress segment) (subst Told not_passed told))
    where
      by : (far : Bool) → NoneTold (when far (λ _. record nothing { apart = of_far progress segment }) (λ _. untaken_near (recent (Open progress) stream) progress segment)) → Went stream progress more segment (when far (λ _. ([], glimpsed progress segment)) (λ _. (delivered progress segment, advanced progress segment)))
      by true told = went_far (none_of (Some (start progress.expected (distance_to progress segment))) (length segment.payload.octets) why.Ahead told.apart)
      by false told = went_near told

module _ (Listed : List ℕ → Type 0) where
  abbrev pub EndsWell : List ℕ → Option End → Type 0
  EndsWell stream None = Unit {0}
  EndsWell stream (Some end) = (end ≡ Complete) × Listed stream

  -- of a segment, by what comes of it
  pub record IsUntold (stream : List ℕ) (untaken : Untaken) (went : Outcome × State) : Type 0 where
    pub none : NoneTold untaken
    pub before : EndsWell stream went.0.before
    pub end : EndsWell (stream_at went.0.begins stream ++ went.0.octets) went.0.end

  pub record SegmentIsUntold (state : State) (stream : List ℕ) (segment : Segment) : Type 0 where
    pub others : List ℕ
    pub compared : IsCompared state stream others
    pub untold : IsUntold stream (untaken_of state others segment) (step state segment)

  abbrev pub AreUntold : State → List ℕ → List Segment → Type 0
  AreUntold state stream [] = EndsWell stream (end_of state)
  AreUntold state stream (segment ∷ segments) = SegmentIsUntold state stream segment × AreUntold (step state segment).1 (stream_with state stream segment) segments

  pub record HadWell (had : Had) (stream : List ℕ) : Type 0 where
    pub count : length stream ≡ had.expected
    pub listed : Listed stream

  abbrev pub Sound : State → List ℕ → ℕ → Type 0
  Sound Fresh stream more = Unit {0}
  Sound (Open progress) stream more = IsOpen progress stream more
  Sound (Ended had) stream more = HadWell had stream

  -- ---- what a segment leaves

  -- what follows shows what was there; or it began anew, and all that was there is listed
  abbrev Back : Bool → State → List ℕ → State → List ℕ → Type 0
  Back false state stream next after = (streams : List TakenStream) → GoesOn next after streams → GoesOn state stream streams
  Back true state stream next after = AllByRecursion (λ one. Listed one.octets) (stream_there state stream) × ((streams : List TakenStream) → GoesOn state stream (stream_there state stream ++ streams))

  record Takes (state : State) (stream : List ℕ) (more : ℕ) (segment : Segment) (went : Outcome × State) : Type 0 where
    sound : Sound went.1 (stream_at went.0.begins stream ++ went.0.octets) more
    back : Back (is_some went.0.begins) state stream went.1 (stream_at went.0.begins stream ++ went.0.octets)
    hides : (streams : List TakenStream) → GoesOn went.1 (stream_at went.0.begins stream ++ went.0.octets) streams → HidesNothing streams segment

  there_well : (state : State) (stream : List ℕ) (more : ℕ) (next : State) (after : List ℕ) → Sound state stream more → EndsWell stream (end_of state) → Back true state stream next after
  there_well Fresh stream more next after sound well = (tt, λ streams. tt)
  there_well (Open progress) stream more next after sound well = ((well.1, tt), λ streams. reaches_itself progress.first stream progress.waiting streams (none_waits progress sound.clear well.0))
  there_well (Ended had) stream more next after sound well = ((sound.listed, tt), λ streams. reaches_itself had.first stream [] streams refl)

  -- the same stream goes on, after which nothing came
  still_there : (first : ℕ) (stream : List ℕ) (waiting : Waiting) (streams : List TakenStream) → waiting ≡ [] → Reaches first (stream ++ []) [] streams → Reaches first stream waiting streams
  still_there first stream waiting streams none = reaches_back first stream (stream ++ []) waiting [] streams by (omega (arith, length-append stream []))
    where
      by : (place octet : ℕ) → Held stream waiting place octet → Held (stream ++ []) [] place octet
      by place octet (inl taken) = inl (front_stays stream [] place octet taken)
      by place octet (inr waits) = absurd (none-some octet (sym (ap (at place) none) ∙ waits))

  had_still : (had : Had) (stream : List ℕ) → HadWell had stream → HadWell had (stream ++ [])
  had_still had stream h = record { count = ap length (append-nil stream) ∙ h.count; listed = subst Listed (sym (append-nil stream)) h.listed }

  -- ---- a RST
  abbrev reset_with : State → Outcome × State
  reset_with state = (record { before = None; begins = None; octets = []; end = end_of state }, ended state)

  takes_reset : (state : State) (stream : List ℕ) (more rest : ℕ) (segment : Segment) → Sound state stream rest → EndsWell (stream ++ []) (end_of state) → length segment.payload.octets ≡ 0 → Takes state stream more segment (reset_with state)
  takes_reset Fresh stream more rest segment sound well none = record { sound = tt; back = λ streams goes. tt; hides = λ streams goes. none_hidden streams segment none }
  takes_reset (Open progress) stream more rest segment sound well none = record {
    sound = record { count = ap length (append-nil stream) ∙ sound.count; listed = well.1 };
    back = λ streams goes. still_there progress.first stream progress.waiting streams (none_waits progress sound.clear well.0) goes;
    hides = λ streams goes. none_hidden streams segment none;
  }
  takes_reset (Ended had) stream more rest segment sound well none = record {
    sound = had_still had stream sound;
    back = λ streams goes. still_there had.first stream [] streams refl goes;
    hides = λ streams goes. none_hidden streams segment none;
  }

  -- ---- an open direction
  record Goes (stream : List ℕ) (progress : Progress) (more : ℕ) (segment : Segment) (gone : Delivery) : Type 0 where
    sound : Sound gone.2 (stream ++ gone.0) more
    back : (streams : List TakenStream) → GoesOn gone.2 (stream ++ gone.0) streams → Reaches progress.first stream progress.waiting streams
    hides : (streams : List TakenStream) → GoesOn gone.2 (stream ++ gone.0) streams → HidesNothing streams segment

  module _ (stream : List ℕ) (progress : Progress) (more : ℕ) (segment : Segment) (count : length stream ≡ progress.expected) (went : List ℕ × Progress) (w : Went stream progress more segment went) where
    longer : length stream ≤ length (stream ++ went.0)
    longer = omega (arith, length-append stream went.0)

    -- where these go on, so did what was there, and nothing of the segment is hidden
    reached : (waiting : Waiting) (streams : List TakenStream) → went.1.waiting ≡ waiting → Reaches went.1.first (stream ++ went.0) waiting streams → Reaches progress.first stream progress.waiting streams × HidesNothing streams segment
    reached waiting streams same r =
        let at_first : Reaches progress.first (stream ++ went.0) went.1.waiting streams = subst (λ (n : ℕ). Reaches n (stream ++ went.0) went.1.waiting streams) w.first_is (subst (λ (l : Waiting). Reaches went.1.first (stream ++ went.0) l streams) (sym same) r) in (
          reaches_back progress.first stream (stream ++ went.0) progress.waiting went.1.waiting streams w.onward longer at_first,
          hides_known (stream ++ went.0) went.1.waiting progress.first progress.expected segment streams (omega (arith, count, longer)) at_first w.known,
        )

    goes_of : EndsWell (stream ++ (unless_over went).0) (unless_over went).1 → Goes stream progress more segment (unless_over went)
    goes_of well = by (is_over went.1) well
      where
        by : (over : Bool) → (let gone : Delivery = when over (λ _. (went.0, Some (ending went.1), Ended (had went.1))) (λ _. (went.0, None, Open went.1)) in EndsWell (stream ++ gone.0) gone.1) → Goes stream progress more segment (when over (λ _. (went.0, Some (ending went.1), Ended (had went.1))) (λ _. (went.0, None, Open went.1)))
        by true well =
            let none : went.1.waiting ≡ [] = none_waits went.1 w.is_open.clear well.0 in
            record {
              sound = record { count = w.is_open.count; listed = well.1 };
              back = λ streams goes. (reached [] streams none goes).0;
              hides = λ streams goes. (reached [] streams none goes).1;
            }
        by false well = record {
          sound = w.is_open;
          back = λ streams goes. (reached went.1.waiting streams refl goes).0;
          hides = λ streams goes. (reached went.1.waiting streams refl goes).1;
        }

  open_goes : (stream : List ℕ) (progress : Progress) (more : ℕ) (segment : Segment) → IsOpen progress stream (octets_with segment + more) → NoneTold (untaken_in (recent (Open progress) stream) progress segment) → EndsWell (stream ++ (unless_over (deliver progress segment)).0) (unless_over (deliver progress segment)).1 → Goes stream progress more segment (unless_over (deliver progress segment))
  open_goes stream progress more segment is told well = goes_of stream progress more segment is.count (deliver progress segment) (went_of stream progress more segment is told) well

  -- ---- a segment

  -- what comes of one that is no RST, by how the direction begins
  abbrev on_with : Begun → Segment → Outcome × State
  on_with at segment = joined at (goes_on at.2 segment)

  abbrev told_with : Begun → List ℕ → Segment → Untaken
  told_with at others segment = untaken_at at.2 (recent at.2 (stream_at at.1 others)) segment

  module _ (state : State) (stream others : List ℕ) (more : ℕ) (segment : Segment) (sound : Sound state stream (octets_with segment + more)) (compared : IsCompared state stream others) (few : octets_with segment + more < 2 ^ 61) where
    begun_is : IsOpen (begun (first_number segment)) [] (octets_with segment + more)
    unfolding Sorted
    begun_is = record { count = refl; clear = tt; few = omega (arith, few) }

    takes_anew : (how : Beginning) → (let at : Begun = (end_of state, Some how, Open (begun (first_number segment))) in IsUntold stream (told_with at others segment) (on_with at segment) → Takes state stream more segment (on_with at segment))
    takes_anew how u =
        let goes = open_goes [] (begun (first_number segment)) more segment begun_is u.none u.end in
        record { sound = goes.sound; back = there_well state stream (octets_with segment + more) Fresh [] sound u.before; hides = goes.hides }

    abbrev TakesSame : State → Type 0
    TakesSame s = Sound s stream (octets_with segment + more) → IsCompared s stream others → (may_join s segment && nat_lt 0 segment.payload.size) ≡ false → (let at : Begun = (None, None, s) in IsUntold stream (told_with at others segment) (on_with at segment) → Takes s stream more segment (on_with at segment))

    takes_open : (progress : Progress) → TakesSame (Open progress)
    takes_open progress is same joins u =
        let told : NoneTold (untaken_in (recent (Open progress) stream) progress segment) = subst (λ (l : List ℕ). NoneTold (untaken_in (recent (Open progress) l) progress segment)) same u.none in
        let goes = open_goes stream progress more segment is told u.end in
        record { sound = goes.sound; back = goes.back; hides = goes.hides }

    -- copies after the end
    skips : (had : Had) → IsCompared (Ended had) stream others → (skipped : ℕ) × (recent (Ended had) others ≡ drop skipped stream)
    skips had (inl same) = (length stream - 4096, ap (recent (Ended had)) same)
    skips had (inr none) = (length stream, ap (recent (Ended had)) none ∙ sym (drop_all (length stream) stream (omega arith)))

    takes_ended : (had : Had) → TakesSame (Ended had)
    takes_ended had h others_are joins u = record {
      sound = had_still had stream h;
      back = λ streams goes. still_there had.first stream [] streams refl goes;
      hides = λ streams goes. by (is_copy_of had segment) (nat_lt 0 segment.payload.size) refl refl u.none streams (still_there had.first stream [] streams refl goes);
    }
      where
        by : (copy some : Bool) → is_copy_of had segment ≡ copy → nat_lt 0 segment.payload.size ≡ some → NoneTold (when (copy && some) (λ _. untaken_copy (recent (Ended had) others) had segment) (λ _. nothing)) → (streams : List TakenStream) → Reaches had.first stream [] streams → HidesNothing streams segment
        by true true is some told streams r =
            let s = skips had others_are in
            hides_known stream [] had.first had.expected segment streams (omega (arith, h.count)) r (after_known stream (recent (Ended had) others) s.0 had segment s.1 h.count is told)
        by copy false is some told streams r = empty_hidden streams segment (ltb-false 0 segment.payload.size some)
        by false true is some told streams r = absurd (no_data (sym (ap₂ (λ (a b : Bool). not a && b) is some) ∙ joins))
          where
            no_data : true ≡ false → ⊥
            no_data e = cc

    takes_fresh : TakesSame Fresh
    takes_fresh s same joins u = record { sound = tt; back = λ streams goes. tt; hides = λ streams goes. empty_hidden streams segment (ltb-false 0 segment.payload.size joins) }

    takes_same : (s : State) → TakesSame s
    takes_same Fresh = takes_fresh
    takes_same (Open progress) = takes_open progress
    takes_same (Ended had) = takes_ended had

    takes_on : (at : Begun) → Began state segment at → IsUntold stream (told_with at others segment) (on_with at segment) → Takes state stream more segment (on_with at segment)
    takes_on at (Anew how is) u =
        let P : Begun → Type 0 = λ b. IsUntold stream (told_with b others segment) (on_with b segment) in
        let Q : Begun → Type 0 = λ b. Takes state stream more segment (on_with b segment) in
        subst Q (sym is) (takes_anew how (subst P is u))
    takes_on at (Same is joins) u =
        let P : Begun → Type 0 = λ b. IsUntold stream (told_with b others segment) (on_with b segment) in
        let Q : Begun → Type 0 = λ b. Takes state stream more segment (on_with b segment) in
        subst Q (sym is) (takes_same state sound compared joins (subst P is u))

    takes : IsUntold stream (untaken_of state others segment) (step state segment) → Takes state stream more segment (step state segment)
    takes u = by segment.rst refl u
      where
        by : (rst : Bool) → segment.rst ≡ rst → IsUntold stream (when rst (λ _. record nothing { apart = of_reset segment }) (λ _. told_with (begins state segment) others segment)) (when rst (λ _. reset_with state) (λ _. on_with (begins state segment) segment)) → Takes state stream more segment (when rst (λ _. reset_with state) (λ _. on_with (begins state segment) segment))
        by true is u =
            let none : of_reset segment ≡ None = u.none.apart in
            takes_reset state stream more (octets_with segment + more) segment sound u.end
            (none_of None (length segment.payload.octets) why.Reset (sym (ap (λ (b : Bool). when b (λ _. if_any None (length segment.payload.octets) why.Reset) (λ _. None)) is) ∙ none))
        by false is u = takes_on (begins state segment) (begins_by state segment) u

  -- ---- all segments

  pub record Shows (state : State) (stream : List ℕ) (segments : List Segment) (streams : List TakenStream) : Type 0 where
    pub listed : AllByRecursion (λ one. Listed one.octets) streams
    pub goes_on : GoesOn state stream streams
    pub hidden : AllByRecursion (HidesNothing streams) segments

  both_listed : (some others : List TakenStream) → AllByRecursion (λ one. Listed one.octets) some → AllByRecursion (λ one. Listed one.octets) others → AllByRecursion (λ one. Listed one.octets) (some ++ others)
  both_listed [] others a b = b
  both_listed (one ∷ some) others a b = (a.0, both_listed some others a.1 b)

  shows_with : (began : Bool) (state : State) (stream : List ℕ) (next : State) (after : List ℕ) (segment : Segment) (segments : List Segment) (streams : List TakenStream) → Back began state stream next after → ((some : List TakenStream) → GoesOn next after some → HidesNothing some segment) → Shows next after segments streams → Shows state stream (segment ∷ segments) (if began then stream_there state stream ++ streams else streams)
  shows_with false state stream next after segment segments streams back hides rest = record { listed = rest.listed; goes_on = back streams rest.goes_on; hidden = (hides streams rest.goes_on, rest.hidden) }
  shows_with true state stream next after segment segments streams back hides rest =
      let wider : (one : TakenStream) → Contains streams one → Contains (stream_there state stream ++ streams) one = λ one among. Contains-append_right (stream_there state stream) streams one among in
      record {
        listed = both_listed (stream_there state stream) streams back.0 rest.listed;
        goes_on = back.1 streams;
        hidden = (hides_more streams (stream_there state stream ++ streams) segment wider (hides streams rest.goes_on), all_more streams (stream_there state stream ++ streams) segments wider rest.hidden);
      }

  shown_last : (state : State) (stream : List ℕ) → Sound state stream 0 → EndsWell stream (end_of state) → Shows state stream [] (stream_there state stream)
  shown_last Fresh stream sound well = record { listed = tt; goes_on = tt; hidden = tt }
  shown_last (Open progress) stream sound well = record { listed = (well.1, tt); goes_on = reaches_itself progress.first stream progress.waiting [] (none_waits progress sound.clear well.0); hidden = tt }
  shown_last (Ended had) stream sound well = record { listed = (sound.listed, tt); goes_on = reaches_itself had.first stream [] [] refl; hidden = tt }

  pub shown : (segments : List Segment) (state : State) (stream : List ℕ) → Sound state stream (size_of segments) → size_of segments < 2 ^ 61 → AreUntold state stream segments → Shows state stream segments (streams_of state stream segments)
  shown [] state stream sound few untold = shown_last state stream sound untold
  shown (segment ∷ segments) state stream sound few untold =
      let one = takes state stream untold.0.others (size_of segments) segment sound untold.0.compared few untold.0.untold in
      shows_with (is_some (step state segment).0.begins) state stream (step state segment).1 (stream_with state stream segment) segment segments (streams_of (step state segment).1 (stream_with state stream segment) segments) one.back one.hides
      (shown segments (step state segment).1 (stream_with state stream segment) one.sound (omega (arith, few)) untold.1)
