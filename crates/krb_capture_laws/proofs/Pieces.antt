-- Pieces of a stream: what is delivered of them is the stream.
use Rattle.std.proofs.Common.{◌≡◌, ℕ, zero, suc, ◌+◌, ◌-◌, ◌%◌, ◌^◌, ◌<◌, ◌≤◌, ◌==◌, inl, inr, Bool, true, false, not, ◌&&◌, ◌||◌, is_some, Option, Some, None, List, [], ◌∷◌, ◌++◌, length, drop, refl, sym, ap, subst, ◌∙◌, arith, add-zero}
use Rattle.std.specs.Prelude.{slice_get, nat_lt}
use Rattle.std.specs.Ordering.{nat_cmp, match_ordering}
use Rattle.std.specs.FinMap.{nat_cmp-IsAntisymmetric}
use Rattle.std.specs.declared.cmp.Ordering.{Ordering}
use Rattle.std.specs.declared.cmp.Ordering.TheVariants.{Less, Equal, Greater}
use Rattle.std.specs.Map.{lookup}
use Rattle.std.specs.BTreeMap.{insert_entry, is_at}
use Rattle.std.proofs.lemmas.Bool.{eqb-true, cases_lt, true≢false}
use Rattle.krb_der.specs.Octets.{when}
use Rattle.krb_packet.specs.declared.contents.Segment.{Segment}
use Rattle.krb_flow.specs.declared.serial.Distance.{Distance}
use Rattle.krb_flow.specs.declared.serial.Distance.TheVariants.{Ahead, Behind}
use Rattle.krb_flow.specs.declared.stream.End.{End}
use Rattle.krb_flow.specs.declared.direction.Beginning.{Beginning}
use Rattle.krb_flow.specs.declared.direction.Beginning.TheVariants.{Syn, Joined}
use Rattle.krb_flow.specs.declared.direction.State.{State}
use Rattle.krb_flow.specs.declared.direction.State.TheVariants.{Fresh, Open, Ended}
use Rattle.krb_flow.specs.Serial.{behind, distance}
use Rattle.krb_flow.specs.Waiting.{Waiting, keep_one, keep, ready, early}
use Rattle.krb_flow.specs.Progress.{Progress, begun}
use Rattle.krb_flow.specs.declared.had.Had.{Had}
use Rattle.krb_flow.specs.Directions.{Outcome, first_number, distance_to, start, kept, delivered, advanced, is_far, passes_all, is_skipped, glimpsed, deliver, had, is_over, ending, may_join, at_data, Begun, begins, Delivery, unless_over, goes_on, joined, step, after}
use Rattle.krb_flow.specs.Laws.{at_first, IsFirst, HasAt, Piece, IsPiece, PieceOf, PiecesOf, delivered_of, DeliversTheStream}
use Rattle.krb_capture_laws.proofs.Distances.{only_one}

-- ---- the limits of krb_flow/src/stream.rt, which krb_flow keeps to itself
abbrev pub most_ahead : ℕ
most_ahead = 2 ^ 20

abbrev pub most_waiting : ℕ
most_waiting = 2 ^ 20

abbrev pub most_octets : ℕ
most_octets = 2 ^ 62

-- ---- octets that wait are those of the stream

unfoldable pub Agree : List ℕ → Waiting → Type 0
Agree stream [] = Unit {0}
Agree stream (entry ∷ entries) = (slice_get stream entry.0 ≡ Some entry.1) × Agree stream entries

insert_agrees : (stream : List ℕ) (place octet : ℕ) (waiting : Waiting) → slice_get stream place ≡ Some octet → Agree stream waiting → Agree stream (insert_entry nat_cmp waiting place octet)
unfolding Agree
insert_agrees stream place octet [] has agree = (has, tt)
insert_agrees stream place octet (entry ∷ entries) has agree =
    elim (nat_cmp place entry.0) as (λ (r : Ordering). nat_cmp place entry.0 ≡ r → Agree stream (match_ordering r ((place, octet) ∷ entry ∷ entries) ((entry.0, octet) ∷ entries) (entry ∷ insert_entry nat_cmp entries place octet))) [
      | Less ↦ λ is. (has, agree)
      | Equal ↦ λ is. (subst (λ (n : ℕ). slice_get stream n ≡ Some octet) (nat_cmp-IsAntisymmetric place entry.0 is) has, agree.1)
      | Greater ↦ λ is. (agree.0, insert_agrees stream place octet entries has agree.1)
    ] refl

one_agrees : (stream : List ℕ) (place octet : ℕ) (waiting : Waiting) → slice_get stream place ≡ Some octet → Agree stream waiting → Agree stream (keep_one place octet waiting)
one_agrees stream place octet waiting has agree =
    elim (is_some (lookup (is_at (nat_cmp place)) waiting)) as (λ (occupied : Bool). Agree stream (when occupied (λ _. waiting) (λ _. insert_entry nat_cmp waiting place octet))) [
      | true ↦ agree
      | false ↦ insert_agrees stream place octet waiting has agree
    ]

kept_agree : (stream : List ℕ) (place : ℕ) (octets : List ℕ) (waiting : Waiting) → HasAt stream place octets → Agree stream waiting → Agree stream (keep place octets waiting)
kept_agree stream place [] waiting has_octets agree = agree
kept_agree stream place (octet ∷ octets) waiting has_octets agree = kept_agree stream (place + 1) octets (keep_one place octet waiting) has_octets.1 (one_agrees stream place octet waiting has_octets.0 agree)

has_ready : (stream : List ℕ) (expected : ℕ) (waiting : Waiting) → Agree stream waiting → HasAt stream expected (ready expected waiting)
unfolding Agree
has_ready stream expected [] agree = tt
has_ready stream expected (entry ∷ entries) agree =
    elim (entry.0 == expected) as (λ (b : Bool). (entry.0 == expected) ≡ b → HasAt stream expected (when b (λ _. entry.1 ∷ ready (expected + 1) entries) (λ _. []))) [
      | true ↦ λ is. (subst (λ (n : ℕ). slice_get stream n ≡ Some entry.1) (eqb-true entry.0 expected is) agree.0, has_ready stream (expected + 1) entries agree.1)
      | false ↦ λ is. tt
    ] refl

early_agree : (stream : List ℕ) (expected : ℕ) (waiting : Waiting) → Agree stream waiting → Agree stream (early expected waiting)
unfolding Agree
early_agree stream expected [] agree = tt
early_agree stream expected (entry ∷ entries) agree =
    elim (entry.0 == expected) as (λ (b : Bool). Agree stream (when b (λ _. early (expected + 1) entries) (λ _. entry ∷ entries))) [
      | true ↦ early_agree stream (expected + 1) entries agree.1
      | false ↦ agree
    ]

-- ---- the places of octets

has_after : (stream : List ℕ) (place count : ℕ) (octets : List ℕ) → HasAt stream place octets → HasAt stream (place + count) (drop count octets)
has_after stream place zero octets has_octets = subst (λ (n : ℕ). HasAt stream n octets) (sym (add-zero place)) has_octets
has_after stream place (suc count) [] has_octets = tt
has_after stream place (suc count) (octet ∷ octets) has_octets =
    let next : place + 1 + count ≡ place + suc count = omega arith in
    subst (λ (n : ℕ). HasAt stream n (drop count octets)) next (has_after stream (place + 1) count octets has_octets.1)

pub has_joined : (stream : List ℕ) (place : ℕ) (first then : List ℕ) → HasAt stream place first → HasAt stream (place + length first) then → HasAt stream place (first ++ then)
has_joined stream place [] then has_octets more = subst (λ (n : ℕ). HasAt stream n then) (add-zero place) more
has_joined stream place (octet ∷ first) then has_octets more =
    let next : place + length (octet ∷ first) ≡ place + 1 + length first = omega arith in
    (has_octets.0, has_joined stream (place + 1) first then has_octets.1 (subst (λ (n : ℕ). HasAt stream n then) next more))

-- at a distance from the place expected
has_ahead : (stream : List ℕ) (expected place : ℕ) (octets : List ℕ) → expected ≤ place → HasAt stream place octets → HasAt stream (start expected (Ahead (place - expected))) (drop 0 octets)
has_ahead stream expected place octets later has_octets =
    let same : place ≡ expected + (place - expected) = omega arith in
    subst (λ (n : ℕ). HasAt stream n octets) same has_octets

has_behind : (stream : List ℕ) (expected place : ℕ) (octets : List ℕ) → place < expected → HasAt stream place octets → HasAt stream (start expected (Behind (expected - place))) (drop (expected - place) octets)
has_behind stream expected place octets sooner has_octets =
    let same : place + (expected - place) ≡ expected + 0 = omega arith in
    subst (λ (n : ℕ). HasAt stream n (drop (expected - place) octets)) same (has_after stream place (expected - place) octets has_octets)

abbrev pub number_of : ℕ → ℕ → ℕ
number_of first place = (first + place % 2 ^ 32) % 2 ^ 32

pub same_number : (first place : ℕ) → (first + place) % 2 ^ 32 ≡ number_of first place
same_number first place = omega arith

small_number : (first place : ℕ) → number_of first place < 2 ^ 32
small_number first place = omega arith

pub ahead_by : (first expected place : ℕ) → expected ≤ place → place < expected + 2 ^ 31 → Ahead (place - expected) ≡ distance (number_of first expected) (number_of first place)
ahead_by first expected place later near = only_one (number_of first expected) (number_of first place) (small_number first expected) (small_number first place) (Ahead (place - expected)) (omega arith, omega arith)

pub behind_by : (first expected place : ℕ) → place < expected → expected ≤ place + 2 ^ 31 → Behind (expected - place) ≡ distance (number_of first expected) (number_of first place)
behind_by first expected place sooner near = only_one (number_of first expected) (number_of first place) (small_number first expected) (small_number first place) (Behind (expected - place)) (omega arith, omega arith, omega arith)

has_by : (stream : List ℕ) (first expected place : ℕ) (octets : List ℕ) → expected ≤ place + 2 ^ 31 → place < expected + 2 ^ 31 → HasAt stream place octets → let by = distance (number_of first expected) (number_of first place) in HasAt stream (start expected by) (drop (behind by) octets)
has_by stream first expected place octets after before has_octets =
    elim (cases_lt place expected) [
      | inl sooner ↦ subst (λ (by : Distance). HasAt stream (start expected by) (drop (behind by) octets)) (behind_by first expected place sooner after) (has_behind stream expected place octets sooner has_octets)
      | inr later ↦ subst (λ (by : Distance). HasAt stream (start expected by) (drop (behind by) octets)) (ahead_by first expected place later before) (has_ahead stream expected place octets later has_octets)
    ]

has_piece : (stream : List ℕ) (progress : Progress) (piece : Piece) → IsPiece stream progress piece → let by = distance_to progress piece.1 in HasAt stream (start progress.expected by) (drop (behind by) piece.1.payload.octets)
has_piece stream progress piece is =
    let number : number_of progress.first piece.0 ≡ first_number piece.1 = sym (same_number progress.first piece.0) ∙ sym is.number in
    subst (λ (n : ℕ). let by = distance (number_of progress.first progress.expected) n in HasAt stream (start progress.expected by) (drop (behind by) piece.1.payload.octets)) number
    (has_by stream progress.first progress.expected piece.0 piece.1.payload.octets is.after is.before is.has_octets)

-- ---- a segment

pub when_both : {A : Type 0} (P : A → Type 0) (b : Bool) (chosen other : Unit {0} → A) → P (chosen tt) → P (other tt) → P (when b chosen other)
when_both P true chosen other p q = p
when_both P false chosen other p q = q

pub record GoesTo (stream : List ℕ) (expected : ℕ) (octets : List ℕ) (progress : Progress) : Type 0 where
  pub has_octets : HasAt stream expected octets
  pub agree : Agree stream progress.waiting
  pub next : expected + length octets ≡ progress.expected

pub taking_goes : (stream : List ℕ) (progress : Progress) (piece : Piece) → Agree stream progress.waiting → IsPiece stream progress piece → GoesTo stream progress.expected (deliver progress piece.1).0 (deliver progress piece.1).1
taking_goes stream progress piece agree is =
    let segment = piece.1 in
    let all = kept_agree stream _ _ progress.waiting (has_piece stream progress piece is) agree in
    let Goes : List ℕ × Progress → Type 0 = λ went. GoesTo stream progress.expected went.0 went.1 in
    when_both Goes (passes_all progress segment) (λ _. ([], progress)) (λ _. when (is_far progress segment) (λ _. ([], glimpsed progress segment)) (λ _. (delivered progress segment, advanced progress segment)))
    (record { has_octets = tt; agree = agree; next = add-zero progress.expected })
    (when_both Goes (is_far progress segment) (λ _. ([], glimpsed progress segment)) (λ _. (delivered progress segment, advanced progress segment))
    (record { has_octets = tt; agree = agree; next = add-zero progress.expected })
    (record { has_octets = has_ready stream progress.expected (kept progress segment) all; agree = early_agree stream progress.expected (kept progress segment) all; next = refl }))

-- one that is not skipped
abbrev near_by : Progress → Segment → List ℕ × Progress
near_by progress segment = (delivered progress segment, advanced progress segment)

abbrev deliver_by : Progress → Segment → Bool → Bool → List ℕ × Progress
deliver_by progress segment far all = when all (λ _. ([], progress)) (λ _. when far (λ _. ([], glimpsed progress segment)) (λ _. near_by progress segment))

pub deliver_near : (progress : Progress) (segment : Segment) → is_skipped progress segment ≡ false → deliver progress segment ≡ near_by progress segment
deliver_near progress segment = by (is_far progress segment) (passes_all progress segment)
  where
    by : (far all : Bool) → (far || all) ≡ false → deliver_by progress segment far all ≡ near_by progress segment
    by false false e = refl
    by other another e = absurd (true≢false e)

-- ---- how a direction begins

pub on_copy : (progress : Progress) (segment : Segment) → (segment.syn && not (progress.first == first_number segment)) ≡ false → begins (Open progress) segment ≡ (None, None, Open progress)
on_copy progress segment e = ap (λ (b : Bool). when b (λ _. (Some (ending progress), Some Syn, Open (begun (first_number segment)))) (λ _. (None, None, Open progress))) e

pub on_plain : (progress : Progress) (segment : Segment) → segment.syn ≡ false → begins (Open progress) segment ≡ (None, None, Open progress)
on_plain progress segment e = on_copy progress segment (ap (λ (b : Bool). b && not (progress.first == first_number segment)) e)

pub at_syn : (segment : Segment) → segment.syn ≡ true → begins Fresh segment ≡ (None, Some Syn, Open (at_first segment))
at_syn segment e = ap (λ (b : Bool). when (b && true) (λ _. (None, Some Syn, Open (begun (first_number segment)))) (λ _. at_data Fresh segment)) e

pub at_joined : (segment : Segment) → segment.syn ≡ false → nat_lt 0 segment.payload.size ≡ true → begins Fresh segment ≡ (None, Some Joined, Open (at_first segment))
at_joined segment plain some =
    ap (λ (b : Bool). when (b && true) (λ _. (None, Some Syn, Open (begun (first_number segment)))) (λ _. at_data Fresh segment)) plain
    ∙ ap (λ (b : Bool). when b (λ _. (None, Some Joined, Open (begun (first_number segment)))) (λ _. (None, None, Fresh))) some

abbrev begun_by : Had → Segment → Bool → Bool → Begun
begun_by had segment anew joins = when anew (λ _. (None, Some Syn, Open (begun (first_number segment)))) (λ _. when joins (λ _. (None, Some Joined, Open (begun (first_number segment)))) (λ _. (None, None, Ended had)))

pub still_ended : (had : Had) (segment : Segment) → (begins (Ended had) segment).1 ≡ None → begins (Ended had) segment ≡ (None, None, Ended had)
still_ended had segment = by (segment.syn && not (had.first == first_number segment)) (may_join (Ended had) segment && nat_lt 0 segment.payload.size)
  where
    by : (a b : Bool) → (begun_by had segment a b).1 ≡ None → begun_by had segment a b ≡ (None, None, Ended had)
    by false false e = refl
    by other another e = cc

-- a state in which the octets before a place were delivered
abbrev Sound : List ℕ → ℕ → State → Type 0
Sound stream expected Fresh = expected ≡ 0
Sound stream expected (Open progress) = Agree stream progress.waiting × (expected ≡ progress.expected)
Sound stream expected (Ended had) = Unit {0}

abbrev Good : List ℕ → ℕ → Outcome × State → Type 0
Good stream expected went = HasAt stream expected went.0.octets × Sound stream (expected + length went.0.octets) went.1

went_goes : (stream : List ℕ) (before : Option End) (how : Option Beginning) (progress : Progress) (went : List ℕ × Progress) → GoesTo stream progress.expected went.0 went.1 → Good stream progress.expected (joined (before, how, Open progress) (unless_over went))
went_goes stream before how progress went goes =
    when_both (λ (gone : Delivery). Good stream progress.expected (joined (before, how, Open progress) gone)) (is_over went.1) (λ _. (went.0, Some (ending went.1), Ended (had went.1))) (λ _. (went.0, None, Open went.1))
    (goes.has_octets, tt)
    (goes.has_octets, (goes.agree, goes.next))

fresh_goes : (stream : List ℕ) (expected : ℕ) (piece : Piece) → expected ≡ 0 → PieceOf stream Fresh piece → Good stream expected (step Fresh piece.1)
unfolding Agree
fresh_goes stream expected piece is of =
    let segment = piece.1 in
    let progress = at_first segment in
    let ByRst : Bool → Type 0 = λ rst. Good stream 0 (when rst (λ _. (record { before = None; begins = None; octets = []; end = None }, Fresh)) (λ _. joined (begins Fresh segment) (goes_on (begins Fresh segment).2 segment))) in
    let ByBegun : Begun → Type 0 = λ begun. Good stream 0 (joined begun (goes_on begun.2 segment)) in
    subst (λ (n : ℕ). Good stream n (step Fresh segment)) (sym is)
    (subst ByRst (sym of.1) (subst ByBegun (sym (at_syn segment of.0)) (went_goes stream None (Some Syn) progress (deliver progress segment) (taking_goes stream progress piece tt of.2))))

open_goes : (stream : List ℕ) (expected : ℕ) (progress : Progress) (piece : Piece) → Agree stream progress.waiting → expected ≡ progress.expected → PieceOf stream (Open progress) piece → Good stream expected (step (Open progress) piece.1)
open_goes stream expected progress piece agree is of =
    let segment = piece.1 in
    let GoesOn : Begun → Type 0 = λ begun. Good stream progress.expected (joined begun (goes_on begun.2 segment)) in
    subst (λ (n : ℕ). Good stream n (step (Open progress) segment)) (sym is)
    (when_both (Good stream progress.expected) segment.rst (λ _. (record { before = None; begins = None; octets = []; end = Some (ending progress) }, Ended (had progress))) (λ _. joined (begins (Open progress) segment) (goes_on (begins (Open progress) segment).2 segment))
    (tt, tt)
    (subst GoesOn (sym (on_plain progress segment of.0)) (went_goes stream None None progress (deliver progress segment) (taking_goes stream progress piece agree of.1))))

ended_goes : (stream : List ℕ) (expected : ℕ) (had : Had) (segment : Segment) → (begins (Ended had) segment).1 ≡ None → Good stream expected (step (Ended had) segment)
ended_goes stream expected had segment none =
    let GoesOn : Begun → Type 0 = λ begun. Good stream expected (joined begun (goes_on begun.2 segment)) in
    when_both (Good stream expected) segment.rst (λ _. (record { before = None; begins = None; octets = []; end = None }, Ended had)) (λ _. joined (begins (Ended had) segment) (goes_on (begins (Ended had) segment).2 segment))
    (tt, tt)
    (subst GoesOn (sym (still_ended had segment none)) (tt, tt))

state_goes : (stream : List ℕ) (expected : ℕ) (state : State) (piece : Piece) → Sound stream expected state → PieceOf stream state piece → Good stream expected (step state piece.1)
state_goes stream expected Fresh piece sound of = fresh_goes stream expected piece sound of
state_goes stream expected (Open progress) piece sound of = open_goes stream expected progress piece sound.0 sound.1 of
state_goes stream expected (Ended had) piece sound of = ended_goes stream expected had piece.1 of

all_stand : (stream : List ℕ) (expected : ℕ) (state : State) (pieces : List Piece) → Sound stream expected state → PiecesOf stream state pieces → HasAt stream expected (delivered_of state pieces)
all_stand stream expected state [] sound of = tt
all_stand stream expected state (piece ∷ pieces) sound of =
    let good = state_goes stream expected state piece sound of.0 in
    let went = step state piece.1 in
    has_joined stream expected went.0.octets (delivered_of went.1 pieces) good.0
    (all_stand stream (expected + length went.0.octets) went.1 pieces good.1 of.1)

sound_at_first : (stream : List ℕ) (state : State) → IsFirst state → Sound stream 0 state
unfolding Agree
sound_at_first stream Fresh first = refl
sound_at_first stream (Open progress) first = subst (λ (p : Progress). Agree stream p.waiting × (0 ≡ p.expected)) (sym first) (tt, refl)
sound_at_first stream (Ended had) first = tt

pub delivers_the_stream : DeliversTheStream
delivers_the_stream stream state pieces first of = all_stand stream 0 state pieces (sound_at_first stream state first) of
