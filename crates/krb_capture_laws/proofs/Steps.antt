-- What a segment does to a direction that has not begun, or that ended.
use Rattle.std.proofs.Common.{◌≡◌, ℕ, Bool, true, false, List, [], ◌++◌, Option, Some, None, length, refl, sym, ◌∙◌, ap, append-nil}
use Rattle.std.specs.Prelude.{not, ◌&&◌, ◌||◌, nat_lt, is_some}
use Rattle.std.proofs.lemmas.Bool.{true≢false, false≢true}
use Rattle.krb_der.specs.Octets.{when}
use Rattle.krb_packet.specs.declared.contents.Segment.{Segment}
use Rattle.krb_flow.specs.Directions.{Begun, Outcome, end_of, ended as ended_after, first_number, goes_on, had_of, is_first, joined, may_join, step}
use Rattle.krb_flow.specs.Progress.{begun}
use Rattle.krb_flow.specs.Unread.{if_any, nothing as no_octets, of_reset, untaken_at, untaken_of}
use Rattle.krb_flow.specs.Window.{recent, stream_at}
use Rattle.krb_flow.specs.declared.unread.Untaken.{Untaken}
use Rattle.krb_source.specs.declared.unread_why.UnreadWhy.TheVariants as why
use Rattle.krb_flow.specs.declared.direction.Beginning.{Beginning}
use Rattle.krb_flow.specs.declared.direction.Beginning.TheVariants as beginnings
use Rattle.krb_flow.specs.declared.direction.State.{State}
use Rattle.krb_flow.specs.declared.direction.State.TheVariants as states
use Rattle.krb_flow.specs.declared.had.Had.{Had}
use Rattle.krb_flow.specs.declared.stream.End.{End}
use Rattle.krb_capture.specs.Directions.{begins}
use Rattle.krb_capture.specs.Found.{Found}
use Rattle.krb_capture.specs.Laws.{compared, found_if}
use Rattle.krb_capture.specs.Sending.{Sent, after_segment, beginning_found, end_if, outcome_found, segment_found, sent_from, untaken_found}
use Rattle.krb_capture.specs.Streams.{found_with}
use Rattle.krb_capture.specs.declared.flow.Flow.{Flow}
use Rattle.krb_capture.specs.declared.flow.Service.{Service}
use Rattle.krb_capture.proofs.Prefixes.{found_with-none}

-- ---- the outcome of a segment, by whether it has a RST, a SYN that is no copy, and data that begin the direction
module _ (state : State) (segment : Segment) where
  abbrev begun_by : Bool → Bool → Begun
  begun_by syn joins = when syn (λ _. (end_of state, Some beginnings.Syn, states.Open (begun (first_number segment)))) (λ _. when joins (λ _. (None, Some beginnings.Joined, states.Open (begun (first_number segment)))) (λ _. (None, None, state)))

  abbrev stepped_by : Bool → Bool → Bool → Outcome × State
  stepped_by rst syn joins = when rst (λ _. (record { before = None; begins = None; octets = []; end = end_of state }, ended_after state)) (λ _. joined (begun_by syn joins) (goes_on (begun_by syn joins).2 segment))

  abbrev is_new : Bool
  is_new = segment.syn && not (is_first state (first_number segment))

  abbrev joins : Bool
  joins = may_join state segment && nat_lt 0 segment.payload.size

  stepped : step state segment ≡ stepped_by segment.rst is_new joins
  stepped = refl

  -- one that is not open has no end before the segment
  before-none : end_of state ≡ None → (step state segment).0.before ≡ None
  before-none e = by segment.rst is_new joins
    where
      by : (r s j : Bool) → (stepped_by r s j).0.before ≡ None
      by true s j = refl
      by false true j = e
      by false false true = refl
      by false false false = refl

abbrev nothing : Outcome
nothing = record { before = None; begins = None; octets = []; end = None }

-- a segment that begins nothing is passed over
pub passes_ended : (had : Had) (segment : Segment) → is_some (step (states.Ended had) segment).0.begins ≡ false → step (states.Ended had) segment ≡ (nothing, states.Ended had)
passes_ended had segment e = by segment.rst (is_new (states.Ended had) segment) (joins (states.Ended had) segment) e
  where
    by : (r s j : Bool) → is_some (stepped_by (states.Ended had) segment r s j).0.begins ≡ false → stepped_by (states.Ended had) segment r s j ≡ (nothing, states.Ended had)
    by true s j e = refl
    by false true j e = absurd (true≢false e)
    by false false true e = absurd (true≢false e)
    by false false false e = refl

pub passes_fresh : (segment : Segment) → begins segment ≡ false → step states.Fresh segment ≡ (nothing, states.Fresh)
passes_fresh segment e = by segment.rst segment.syn (nat_lt 0 segment.payload.size) e
  where
    by : (r s n : Bool) → (not r && (s || n)) ≡ false → stepped_by states.Fresh segment r (s && true) (true && n) ≡ (nothing, states.Fresh)
    by true s n e = refl
    by false true n e = absurd (true≢false e)
    by false false true e = absurd (true≢false e)
    by false false false e = refl

-- ---- the octets that are not taken
abbrev reset_by : Segment → Bool → Untaken
reset_by segment rst = record no_octets { apart = when rst (λ _. if_any None (length segment.payload.octets) why.Reset) (λ _. None) }

abbrev untaken_by : State → List ℕ → Segment → Bool → Bool → Bool → Untaken
untaken_by state stream segment rst syn joins = when rst (λ _. reset_by segment rst) (λ _. untaken_at (begun_by state segment syn joins).2 (recent (begun_by state segment syn joins).2 (stream_at (begun_by state segment syn joins).1 stream)) segment)

-- of a segment that begins nothing where nothing came, they are those of a RST
pub untaken_fresh : (stream : List ℕ) (segment : Segment) → begins segment ≡ false → untaken_of states.Fresh stream segment ≡ record no_octets { apart = of_reset segment }
untaken_fresh stream segment e = by segment.rst segment.syn (nat_lt 0 segment.payload.size) e
  where
    by : (r s n : Bool) → (not r && (s || n)) ≡ false → untaken_by states.Fresh stream segment r (s && true) (true && n) ≡ reset_by segment r
    by true s n e = refl
    by false true n e = absurd (true≢false e)
    by false false true e = absurd (true≢false e)
    by false false false e = refl

-- of one that begins the direction, what was taken before does not matter
pub untaken_anew : (state : State) (one other : List ℕ) (segment : Segment) → is_some (step state segment).0.begins ≡ true → untaken_of state one segment ≡ untaken_of state other segment
untaken_anew state one other segment e = by segment.rst (is_new state segment) (joins state segment) e
  where
    by : (r s j : Bool) → is_some (stepped_by state segment r s j).0.begins ≡ true → untaken_by state one segment r s j ≡ untaken_by state other segment r s j
    by true s j e = refl
    by false true j e = refl
    by false false true e = refl
    by false false false e = absurd (false≢true e)

-- all is compared if it is kept
compared_all : (state : State) (stream : List ℕ) → compared true state stream ≡ stream
compared_all states.Fresh stream = refl
compared_all (states.Open progress) stream = refl
compared_all (states.Ended had) stream = refl

pub found_kept : (limit : ℕ) (own : Sent) (segment : Segment) → found_if limit own true segment ≡ segment_found limit own segment
found_kept limit own segment = ap (λ (l : List ℕ). outcome_found own.service limit own.stream (untaken_of own.state l segment) (step own.state segment).0) (compared_all own.state own.stream)

pub Ended-from_had_of : (state : State) (had : Had) → had_of state ≡ Some had → state ≡ states.Ended had
Ended-from_had_of states.Fresh had e = absurd cc
Ended-from_had_of (states.Open progress) had e = absurd cc
Ended-from_had_of (states.Ended h) had e = let same : h ≡ had = cc in ap states.Ended same

-- ---- what is found with a segment of a direction, and what is kept of it then, are those of another
pub record Same (limit : ℕ) (sent own : Sent) (segment : Segment) : Type 0 where
  pub found : segment_found limit sent segment ≡ found_if limit own true segment
  pub after : after_segment sent segment ≡ after_segment own segment

-- if it begins, the octets that were taken before do not matter
module _ (limit : ℕ) (service : Service) (untaken : Untaken) (octets : List ℕ) (end : Option End) (stream : List ℕ) where
  abbrev found_by : List ℕ → Option End → Option Beginning → List Found
  found_by stream before how = end_if service limit stream before ++ (beginning_found how ++ (untaken_found untaken ++ (found_with service limit (stream_at how stream) octets ++ end_if service limit (stream_at how stream ++ octets) end)))

  found_anew : (before : Option End) (how : Option Beginning) → before ≡ None → is_some how ≡ true → found_by [] before how ≡ found_by stream before how
  found_anew None (Some how) b h = refl
  found_anew None None b h = absurd (false≢true h)
  found_anew (Some end) how b h = absurd cc

stream_anew : (how : Option Beginning) (stream : List ℕ) → is_some how ≡ true → stream_at how [] ≡ stream_at how stream
stream_anew (Some how) stream h = refl
stream_anew None stream h = absurd (false≢true h)

pub begins_anew : (limit : ℕ) (flow : Flow) (service : Service) (state : State) (own : Sent) (segment : Segment) → own.flow ≡ flow → own.service ≡ service → own.state ≡ state → end_of state ≡ None → is_some (step state segment).0.begins ≡ true → Same limit (sent_from flow service state) own segment
begins_anew limit flow service state own segment f s t none b =
    let o : Outcome = (step state segment).0 in
    let is : own ≡ record { flow = flow; service = service; state = state; stream = own.stream } = λ i. record { flow = f i; service = s i; state = t i; stream = own.stream } in
    record {
      found =
          ap (λ (u : Untaken). outcome_found service limit [] u o) (untaken_anew state [] own.stream segment b)
          ∙ found_anew limit service (untaken_of state own.stream segment) o.octets o.end own.stream o.before o.begins (before-none state segment none) b
          ∙ sym (ap (λ (x : Sent). segment_found limit x segment) is)
          ∙ sym (found_kept limit own segment);
      after = ap (λ (l : List ℕ). record { flow = flow; service = service; state = (step state segment).1; stream = l ++ o.octets }) (stream_anew o.begins own.stream b) ∙ sym (ap (λ (x : Sent). after_segment x segment) is);
    }

-- one that is passed over
module _ (limit : ℕ) (state : State) (own : Sent) (segment : Segment) (is : own.state ≡ state) (passes : step state segment ≡ (nothing, state)) where
  whole : step own.state segment ≡ (nothing, state)
  whole = ap (λ (x : State). step x segment) is ∙ passes

  pub passed-found : (kept : Bool) (told : Untaken) → untaken_of own.state (compared kept own.state own.stream) segment ≡ told → found_if limit own kept segment ≡ untaken_found told
  passed-found kept told e =
      ap (λ (went : Outcome × State). outcome_found own.service limit own.stream (untaken_of own.state (compared kept own.state own.stream) segment) went.0) whole
      ∙ ap (λ (l : List Found). untaken_found (untaken_of own.state (compared kept own.state own.stream) segment) ++ (l ++ [])) (found_with-none own.service limit own.stream)
      ∙ append-nil (untaken_found (untaken_of own.state (compared kept own.state own.stream) segment))
      ∙ ap untaken_found e

  pub passed-state : (after_segment own segment).state ≡ state
  passed-state = ap (λ (went : Outcome × State). went.1) whole

  pub passed-stream : (after_segment own segment).stream ≡ own.stream
  passed-stream = ap (λ (went : Outcome × State). stream_at went.0.begins own.stream ++ went.0.octets) whole ∙ append-nil own.stream
