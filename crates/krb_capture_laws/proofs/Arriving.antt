-- Segments of a stream as they were captured: what is taken with one is what is next in the stream, and the direction ends once all of it is.
use Rattle.std.proofs.Common.{◌≡◌, ℕ, suc, ◌+◌, ◌-◌, ◌%◌, ◌^◌, ◌<◌, ◌≤◌, ◌==◌, ◌⊎◌, inl, inr, Bool, true, false, not, ◌&&◌, ◌||◌, is_some, Option, Some, None, List, [], ◌∷◌, ◌++◌, length, drop, refl, sym, ap, ap₂, subst, ◌∙◌, arith, add-zero, append-nil, eq-eqb, eqb-true}
use Rattle.std.specs.Prelude.{nat_lt, nat_le}
use Rattle.std.specs.Int.{from_bool}
use Rattle.std.specs.Ordering.{nat_cmp, match_ordering}
use Rattle.std.specs.declared.cmp.Ordering.{Ordering}
use Rattle.std.specs.declared.cmp.Ordering.TheVariants.{Less, Equal, Greater}
use Rattle.std.specs.Map.{lookup}
use Rattle.std.specs.BTreeMap.{insert_entry, is_at}
use Rattle.std.proofs.lemmas.Bool.{cases_lt, lt-ltb, le-ltb, le-leb, lt-leb}
use Rattle.std.proofs.lemmas.Option.{slice_get_within}
use Rattle.std.proofs.Math.ListN.{drop_of_length-le, length-drop}
use Rattle.krb_der.specs.Octets.{when}
use Rattle.krb_packet.specs.declared.contents.Segment.{Segment}
use Rattle.krb_flow.specs.declared.serial.Distance.{Distance}
use Rattle.krb_flow.specs.declared.stream.End.{End}
use Rattle.krb_flow.specs.declared.stream.End.TheVariants.{Complete, Lost}
use Rattle.krb_flow.specs.declared.direction.Beginning.{Beginning}
use Rattle.krb_flow.specs.declared.direction.Beginning.TheVariants.{Syn, Joined}
use Rattle.krb_flow.specs.declared.direction.State.{State}
use Rattle.krb_flow.specs.declared.direction.State.TheVariants.{Fresh, Open, Ended}
use Rattle.krb_flow.specs.Serial.{ahead, behind, distance}
use Rattle.krb_flow.specs.Waiting.{Waiting, keep_one, keep, ready, early}
use Rattle.krb_flow.specs.Progress.{Progress, begun}
use Rattle.krb_flow.specs.Directions.{Outcome, first_number, distance_to, start, end_place, kept, delivered, later, earlier, advanced, is_skipped, deliver, had, is_among, is_copy_of, is_reached, is_over, first_place, if_later, or_seen, missing, ending, end_of, ended, Begun, begins, unless_over, goes_on, joined, step}
use Rattle.krb_flow.specs.Laws.{at_first, HasAt, Piece, IsPiece, IsFair, IsCaptured}
use Rattle.krb_flow.specs.Arrivals.{AllCaptured, BeginsWith, IsSegmentOf}
use Rattle.krb_flow.specs.declared.had.Had.{Had}
use Rattle.krb_capture_laws.proofs.Pieces.{most_ahead, most_octets, most_waiting, Agree, GoesTo, taking_goes, deliver_near, on_copy, at_syn, at_joined, number_of, same_number, ahead_by, behind_by}
use Rattle.krb_capture_laws.proofs.Captured.{Waits, Sorted, Was, Clear, AtEnd, onward_clear, onward_was, onward_captures, not_waiting, end_is, fin_at_end, reached, by_fin, got}

-- ---- which octets wait, or are taken: none that was not captured

inserted_only : (place other octet : ℕ) (waiting : Waiting) → Waits place (insert_entry nat_cmp waiting other octet) → (place ≡ other) ⊎ Waits place waiting
unfolding Waits
inserted_only place other octet [] waits = waits
inserted_only place other octet (entry ∷ entries) waits =
    elim (nat_cmp other entry.0) as (λ (r : Ordering). Waits place (match_ordering r ((other, octet) ∷ entry ∷ entries) ((entry.0, octet) ∷ entries) (entry ∷ insert_entry nat_cmp entries other octet)) → (place ≡ other) ⊎ ((place ≡ entry.0) ⊎ Waits place entries)) [
      | Less ↦ λ w. w
      | Equal ↦ λ w. inr w
      | Greater ↦ λ w. elim w [
        | inl here ↦ inr (inl here)
        | inr more ↦ elim (inserted_only place other octet entries more) [ inl same ↦ inl same | inr occupied ↦ inr (inr occupied) ]
      ]
    ] waits

kept_one_only : (place other octet : ℕ) (waiting : Waiting) → Waits place (keep_one other octet waiting) → (place ≡ other) ⊎ Waits place waiting
kept_one_only place other octet waiting waits =
    elim (is_some (lookup (is_at (nat_cmp other)) waiting)) as (λ (occupied : Bool). Waits place (when occupied (λ _. waiting) (λ _. insert_entry nat_cmp waiting other octet)) → (place ≡ other) ⊎ Waits place waiting) [
      | true ↦ λ w. inr w
      | false ↦ λ w. inserted_only place other octet waiting w
    ] waits

-- the octet at a place is one of n that stand from another place on
abbrev pub IsIn : ℕ → ℕ → ℕ → Type 0
IsIn place from size = (from ≤ place) × (place < from + size)

kept_only : (place from : ℕ) (octets : List ℕ) (waiting : Waiting) → Waits place (keep from octets waiting) → IsIn place from (length octets) ⊎ Waits place waiting
kept_only place from [] waiting waits = inr waits
kept_only place from (octet ∷ octets) waiting waits =
    elim (kept_only place (from + 1) octets (keep_one from octet waiting) waits) [
      | inl there ↦ let low : from + 1 ≤ place = there.0 in let high : place < from + 1 + length octets = there.1 in inl (omega arith, omega arith)
      | inr more ↦ elim (kept_one_only place from octet waiting more) [ inl same ↦ inl (omega arith, omega arith) | inr occupied ↦ inr occupied ]
    ]

ready_only : (place expected : ℕ) (waiting : Waiting) → expected ≤ place → place < expected + length (ready expected waiting) → Waits place waiting
unfolding Waits
ready_only place expected [] low high = absurd (omega arith)
ready_only place expected (entry ∷ entries) low high =
    elim (entry.0 == expected) as (λ (b : Bool). (entry.0 == expected) ≡ b → place < expected + length (when b (λ _. entry.1 ∷ ready (expected + 1) entries) (λ _. [])) → (place ≡ entry.0) ⊎ Waits place entries) [
      | true ↦ λ is below.
          let here : entry.0 ≡ expected = eqb-true entry.0 expected is in
          elim (cases_lt expected place) [
            | inl more ↦ inr (ready_only place (expected + 1) entries (omega arith) (omega arith))
            | inr same ↦ inl (omega arith)
          ]
      | false ↦ λ is below. absurd (omega arith)
    ] refl high

early_only : (place expected : ℕ) (waiting : Waiting) → Waits place (early expected waiting) → Waits place waiting
unfolding Waits
early_only place expected [] waits = waits
early_only place expected (entry ∷ entries) waits =
    elim (entry.0 == expected) as (λ (b : Bool). Waits place (when b (λ _. early (expected + 1) entries) (λ _. entry ∷ entries)) → (place ≡ entry.0) ⊎ Waits place entries) [
      | true ↦ λ w. inr (early_only place (expected + 1) entries w)
      | false ↦ λ w. w
    ] waits

abbrev IsInBy : ℕ → ℕ → List ℕ → ℕ → Distance → Type 0
IsInBy place from octets expected by = IsIn place (start expected by) (length (drop (behind by) octets)) → IsIn place from (length octets)

in_by : (first expected from place : ℕ) (octets : List ℕ) → expected ≤ from + 2 ^ 31 → from < expected + 2 ^ 31 → IsInBy place from octets expected (distance (number_of first expected) (number_of first from))
in_by first expected from place octets after before =
    elim (cases_lt from expected) [
      | inl sooner ↦
          let size : length (drop (expected - from) octets) ≡ length octets - (expected - from) = length-drop (expected - from) octets in
          subst (IsInBy place from octets expected) (behind_by first expected from sooner after) (λ there. (omega (arith, there.0), omega (arith, there.0, there.1, size)))
      | inr not_sooner ↦ subst (IsInBy place from octets expected) (ahead_by first expected from not_sooner before) (λ there. (omega (arith, there.0), omega (arith, there.1)))
    ]

-- the number of a segment by that of the first octet
number_by : (stream : List ℕ) (progress : Progress) (piece : Piece) → IsPiece stream progress piece → number_of progress.first piece.0 ≡ first_number piece.1
number_by stream progress piece is = sym (same_number progress.first piece.0) ∙ sym is.number

module _ (stream : List ℕ) (place : ℕ) (progress : Progress) (piece : Piece) (is : IsPiece stream progress piece) where
  in_piece : IsInBy place piece.0 piece.1.payload.octets progress.expected (distance_to progress piece.1)
  in_piece =
      subst (λ (n : ℕ). IsInBy place piece.0 piece.1.payload.octets progress.expected (distance (number_of progress.first progress.expected) n)) (number_by stream progress piece is)
      (in_by progress.first progress.expected piece.0 place piece.1.payload.octets is.after is.before)

  abbrev Known : Type 0
  Known = IsIn place piece.0 (length piece.1.payload.octets) ⊎ Was place progress

  of_kept : Waits place (kept progress piece.1) → Known
  of_kept waits =
      let by = distance_to progress piece.1 in
      elim (kept_only place (start progress.expected by) (drop (behind by) piece.1.payload.octets) progress.waiting waits) [
        | inl there ↦ inl (in_piece there)
        | inr occupied ↦ inr (inr occupied)
      ]

  onward_only : Was place (advanced progress piece.1) → Known
  onward_only was =
      elim was [
        | inl before ↦ elim (cases_lt place progress.expected) [
          | inl sooner ↦ inr (inl sooner)
          | inr later ↦ of_kept (ready_only place progress.expected (kept progress piece.1) later before)
        ]
        | inr waits ↦ of_kept (early_only place progress.expected (kept progress piece.1) waits)
      ]

-- ---- how many octets wait

few_between : (from bound : ℕ) (waiting : Waiting) → Sorted from waiting → ((place : ℕ) → Waits place waiting → place < bound) → from ≤ bound → from + length waiting ≤ bound
unfolding Sorted Waits
few_between from bound [] sorted below le = omega arith
few_between from bound (entry ∷ entries) sorted below le =
    let low : from ≤ entry.0 = sorted.0 in
    let high : entry.0 < bound = below entry.0 (inl refl) in
    let rest : suc entry.0 + length entries ≤ bound = few_between (suc entry.0) bound entries sorted.1 (λ place waits. below place (inr waits)) (omega arith) in
    omega arith

-- ---- octets of the stream

stands_within : (stream : List ℕ) (place : ℕ) (octets : List ℕ) → HasAt stream place octets → place ≤ length stream → place + length octets ≤ length stream
stands_within stream place [] has_octets le = omega arith
stands_within stream place (octet ∷ octets) has_octets le =
    let here : place < length stream = slice_get_within stream place octet has_octets.0 in
    let rest : place + 1 + length octets ≤ length stream = stands_within stream (place + 1) octets has_octets.1 (omega arith) in
    omega arith

stands_front : (stream : List ℕ) (place : ℕ) (octets : List ℕ) → HasAt stream place octets → drop place stream ≡ octets ++ drop (place + length octets) stream
stands_front stream place [] has_octets = ap (λ (n : ℕ). drop n stream) (sym (add-zero place))
stands_front stream place (octet ∷ octets) has_octets =
    let next : place + 1 + length octets ≡ place + length (octet ∷ octets) = omega arith in
    got stream place octet has_octets.0
    ∙ ap (λ (l : List ℕ). octet ∷ l) (stands_front stream (place + 1) octets has_octets.1)
    ∙ ap (λ (n : ℕ). octet ∷ (octets ++ drop n stream)) next

none_waits : (stream : List ℕ) (expected : ℕ) (waiting : Waiting) → Agree stream waiting → Sorted (suc expected) waiting → length stream ≤ expected → waiting ≡ []
unfolding Agree Sorted
none_waits stream expected [] agree sorted full = refl
none_waits stream expected (entry ∷ entries) agree sorted full =
    let within : entry.0 < length stream = slice_get_within stream entry.0 entry.1 agree.0 in
    let low : suc expected ≤ entry.0 = sorted.0 in
    absurd (omega arith)

none_missing : (progress : Progress) → progress.waiting ≡ [] → progress.far ≡ None → progress.seen ≤ progress.expected → ending progress ≡ Complete
none_missing progress none near le =
    ap₂ (λ (waiting : Waiting) (far : Option ℕ). missing progress.expected (or_seen progress.seen (earlier (first_place waiting) (if_later progress.expected far)))) none near
    ∙ ap (λ (b : Bool). when b (λ _. Lost (record { place = progress.expected; octets = progress.seen - progress.expected })) (λ _. Complete)) (le-ltb progress.expected progress.seen le)

later_few : (size at seen : ℕ) (end : Option ℕ) → AtEnd at end → at ≤ size → seen ≤ size → later end seen ≤ size
unfolding AtEnd
later_few size at seen None is le few = few
later_few size at seen (Some place) is le few = omega arith

module _ (stream : List ℕ) (progress : Progress) (piece : Piece) (is : IsPiece stream progress piece) (few : progress.seen ≤ length stream) where
  abbrev end : Option ℕ
  end = end_place progress.expected (distance_to progress piece.1) piece.1.payload.size

  abbrev Few : Bool → Type 0
  Few b = when b (λ _. later end progress.seen) (λ _. progress.seen) ≤ length stream

  at_end : AtEnd (piece.0 + piece.1.payload.size) end
  at_end =
      subst (λ (n : ℕ). AtEnd (piece.0 + piece.1.payload.size) (end_place progress.expected (distance (number_of progress.first progress.expected) n) piece.1.payload.size)) (number_by stream progress piece is)
      (end_is (piece.0 + piece.1.payload.size) progress.first progress.expected piece.0 piece.1.payload.size is.after is.before refl)

  later_seen : piece.0 + piece.1.payload.size ≤ length stream → later end progress.seen ≤ length stream
  later_seen le = later_few (length stream) (piece.0 + piece.1.payload.size) progress.seen end at_end le few

  seen_few : (0 < piece.1.payload.size → piece.0 + piece.1.payload.size ≤ length stream) → (piece.1.fin ≡ true → piece.0 + piece.1.payload.size ≡ length stream) → (advanced progress piece.1).seen ≤ length stream
  seen_few within fin =
      elim (cases_lt 0 piece.1.payload.size) [
        | inl some ↦ subst (λ (b : Bool). Few (b || piece.1.fin)) (sym (lt-ltb 0 piece.1.payload.size some)) (later_seen (within some))
        | inr none ↦
            subst (λ (b : Bool). Few (b || piece.1.fin)) (sym (le-ltb 0 piece.1.payload.size none))
            (elim piece.1.fin as (λ (f : Bool). piece.1.fin ≡ f → Few f) [
              | true ↦ λ there. let at : piece.0 + piece.1.payload.size ≡ length stream = fin there in later_seen (omega arith)
              | false ↦ λ there. few
            ] refl)
      ]

-- ---- a segment that is not passed over

ahead_few : (first expected place : ℕ) → expected ≤ place + 2 ^ 31 → place ≤ expected + 1048576 → ahead (distance (number_of first expected) (number_of first place)) ≤ 1048576
ahead_few first expected place after before =
    elim (cases_lt place expected) [
      | inl sooner ↦ subst (λ (by : Distance). ahead by ≤ 1048576) (behind_by first expected place sooner after) (omega arith)
      | inr later ↦ subst (λ (by : Distance). ahead by ≤ 1048576) (ahead_by first expected place later (omega arith)) (omega arith)
    ]

-- ---- what comes of a segment, by its flags

abbrev by_rst : State → Segment → Bool → Outcome × State
by_rst state segment rst = when rst (λ _. (record { before = None; begins = None; octets = []; end = end_of state }, ended state)) (λ _. let at = begins state segment in joined at (goes_on at.2 segment))

abbrev by_begun : Segment → Begun → Outcome × State
by_begun segment at = joined at (goes_on at.2 segment)

-- ---- an open direction

-- What a direction that is open came to after segments of a stream.
pub record Holds (stream : List ℕ) (first : ℕ) (before : List Piece) (progress : Progress) : Type 0 where
  pub first_is : progress.first ≡ first
  pub small : first < 2 ^ 32
  pub within : progress.expected ≤ length stream
  pub agree : Agree stream progress.waiting
  pub clear : Clear progress
  -- an octet was captured exactly if it was taken or waits
  pub was : (place : ℕ) → IsCaptured place before → Was place progress
  pub only : (place : ℕ) → Was place progress → IsCaptured place before
  pub near : (place : ℕ) → IsCaptured place before → place < progress.expected + 1048576
  pub seen : progress.seen ≤ length stream
  pub near_all : progress.far ≡ None
  pub fin : AtEnd (length stream) progress.fin

-- what comes of a segment before which nothing ends
abbrev pub outcome : Option Beginning → List ℕ → Option End → State → Outcome × State
outcome how octets end state = (record { before = None; begins = how; octets = octets; end = end }, state)

-- What a direction had that ended: all of a stream.
pub record HadAll (stream : List ℕ) (first : ℕ) (before : List Piece) (had : Had) : Type 0 where
  pub first_is : had.first ≡ first
  pub small : first < 2 ^ 32
  pub all : had.expected ≡ length stream
  pub captured : AllCaptured stream before

-- All octets before a place were taken. With a segment the next ones are, and the direction is open still; or all others are, and it ends.
pub data Comes (stream : List ℕ) (first : ℕ) (before : List Piece) (expected : ℕ) (how : Option Beginning) (went : Outcome × State) : Type 0 where
  Goes : (octets : List ℕ) (next : Progress) → went ≡ outcome how octets None (Open next) → drop expected stream ≡ octets ++ drop next.expected stream → Holds stream first before next → Comes stream first before expected how went
  Ends : (octets : List ℕ) (had : Had) → went ≡ outcome how octets (Some Complete) (Ended had) → drop expected stream ≡ octets → HadAll stream first before had → Comes stream first before expected how went

pub all_taken : (stream : List ℕ) (first : ℕ) (before : List Piece) (progress : Progress) → Holds stream first before progress → AllCaptured stream before → length stream ≤ progress.expected
all_taken stream first before progress h all =
    elim (cases_lt progress.expected (length stream)) [
      | inl short ↦ absurd (elim (h.was progress.expected (all progress.expected short)) [ inl sooner ↦ omega arith | inr waits ↦ not_waiting progress.expected progress.waiting h.clear waits ])
      | inr full ↦ full
    ]

pub is_complete : (stream : List ℕ) (first : ℕ) (before : List Piece) (progress : Progress) → Holds stream first before progress → length stream ≤ progress.expected → ending progress ≡ Complete
is_complete stream first before progress h full = none_missing progress (none_waits stream progress.expected progress.waiting h.agree h.clear full) h.near_all (omega (arith, h.seen, full))

-- all of the stream was taken when it ended
pub had_all : (stream : List ℕ) (first : ℕ) (before : List Piece) (progress : Progress) → Holds stream first before progress → length stream ≤ progress.expected → HadAll stream first before (had progress)
had_all stream first before progress h full = record {
  first_is = h.first_is;
  small = h.small;
  all = omega (arith, h.within, full);
  captured = λ place within. h.only place (inl (omega arith));
}

module _ (stream : List ℕ) (short : length stream < 2 ^ 61) (first : ℕ) (before : List Piece) (progress : Progress) (h : Holds stream first before progress) (piece : Piece) (s : IsSegmentOf stream first before piece) where
  early_by : piece.0 + piece.1.payload.size ≤ progress.expected + 1048576
  early_by =
      elim (cases_lt (progress.expected + 1048576) (piece.0 + piece.1.payload.size)) [
        | inl far ↦ absurd (elim (h.was progress.expected (s.not_early progress.expected far)) [ inl sooner ↦ omega arith | inr waits ↦ not_waiting progress.expected progress.waiting h.clear waits ])
        | inr near ↦ near
      ]

  late_by : progress.expected ≤ piece.0 + 2 ^ 31
  late_by =
      elim (cases_lt 0 progress.expected) [
        | inl some ↦ let last : progress.expected - 1 < piece.0 + 2 ^ 31 = s.not_late (progress.expected - 1) (h.only (progress.expected - 1) (inl (omega arith))) in omega arith
        | inr none ↦ omega arith
      ]

  is_piece : IsPiece stream progress piece
  is_piece = record {
    has_octets = s.has_octets;
    number = s.number ∙ ap (λ (n : ℕ). (n + piece.0) % 2 ^ 32) (sym h.first_is);
    after = late_by;
    before = omega (arith, early_by);
  }

  size_few : progress.expected + piece.1.payload.size < 2 ^ 62
  size_few =
      elim (cases_lt 0 piece.1.payload.size) [
        | inl some ↦ let le : piece.0 + piece.1.payload.size ≤ length stream = s.within some in omega (arith, short, h.within)
        | inr none ↦ omega (arith, short, h.within)
      ]

  not_passed : is_skipped progress piece.1 ≡ false
  not_passed =
      let far : ahead (distance_to progress piece.1) ≤ 1048576 =
      subst (λ (n : ℕ). ahead (distance (number_of progress.first progress.expected) n) ≤ 1048576) (number_by stream progress piece is_piece)
      (ahead_few progress.first progress.expected piece.0 late_by (omega (arith, early_by))) in
      ap₂ (λ (a b : Bool). a || b) (le-ltb most_ahead (ahead (distance_to progress piece.1)) far) (lt-leb most_octets (progress.expected + piece.1.payload.size) size_few)

  abbrev octets : List ℕ
  octets = delivered progress piece.1

  abbrev next : Progress
  next = advanced progress piece.1

  went_to : GoesTo stream progress.expected (delivered progress piece.1) (advanced progress piece.1)
  went_to =
      let ByWent : List ℕ × Progress → Type 0 = λ went. GoesTo stream progress.expected went.0 went.1 in
      subst ByWent (deliver_near progress piece.1 not_passed) (taking_goes stream progress piece h.agree is_piece)

  near_next : (place : ℕ) → IsCaptured place (piece ∷ before) → place < next.expected + 1048576
  near_next place (inl here) = omega (arith, here.1, early_by, s.captured)
  near_next place (inr more) = omega (arith, h.near place more)

  was_next : (place : ℕ) → IsCaptured place (piece ∷ before) → Was place next
  was_next place (inl here) = onward_captures stream place progress piece is_piece here.0 here.1
  was_next place (inr more) = onward_was place progress piece.1 (h.was place more)

  only_next : (place : ℕ) → Was place next → IsCaptured place (piece ∷ before)
  only_next place was = elim (onward_only stream place progress piece is_piece was) [ inl there ↦ inl there | inr old ↦ inr (h.only place old) ]

  few_next : nat_lt most_waiting (length next.waiting) ≡ false
  few_next =
      let few : suc next.expected + length next.waiting ≤ next.expected + 1048576 =
      few_between (suc next.expected) (next.expected + 1048576) next.waiting (onward_clear progress piece.1 h.clear) (λ place waits. near_next place (only_next place (inr waits))) (omega arith) in
      le-ltb most_waiting (length next.waiting) (omega (arith, few))

  fair : piece.1.rst ≡ false → IsFair stream progress piece
  fair no_reset = record { near = not_passed; no_reset = no_reset; fin = s.fin; few_wait = few_next }

  holds_next : piece.1.rst ≡ false → Holds stream first (piece ∷ before) next
  holds_next no_reset = record {
    first_is = h.first_is;
    small = h.small;
    within = stands_within stream progress.expected octets went_to.has_octets h.within;
    agree = went_to.agree;
    clear = onward_clear progress piece.1 h.clear;
    was = was_next;
    only = only_next;
    near = near_next;
    seen = seen_few stream progress piece is_piece h.seen s.within s.fin;
    fin = fin_at_end stream progress piece is_piece (fair no_reset) h.fin;
    near_all = h.near_all;
  }

  prefix : drop progress.expected stream ≡ octets ++ drop next.expected stream
  prefix = stands_front stream progress.expected octets went_to.has_octets

  -- a segment that is no RST
  comes_with : piece.1.rst ≡ false → (how : Option Beginning) → Comes stream first (piece ∷ before) progress.expected how (joined (None, how, Open progress) (unless_over (deliver progress piece.1)))
  comes_with no_reset how =
      let ByWent : List ℕ × Progress → Type 0 = λ went. Comes stream first (piece ∷ before) progress.expected how (joined (None, how, Open progress) (unless_over went)) in
      subst ByWent (sym (deliver_near progress piece.1 not_passed))
      (elim (is_over next) as (λ (over : Bool). is_over next ≡ over → Comes stream first (piece ∷ before) progress.expected how (joined (None, how, Open progress) (when over (λ _. (octets, Some (ending next), Ended (had next))) (λ _. (octets, None, Open next))))) [
        | true ↦ λ over.
            let end : is_reached next.fin next.expected ≡ true = by_fin (is_reached next.fin next.expected) (nat_lt most_waiting (length next.waiting)) over few_next in
            let full : length stream ≤ next.expected = reached (length stream) next.fin next.expected (holds_next no_reset).fin end in
            Ends octets (had next)
            (ap (λ (e : End). outcome how octets (Some e) (Ended (had next))) (is_complete stream first (piece ∷ before) next (holds_next no_reset) full))
            (prefix ∙ ap (λ (l : List ℕ). octets ++ l) (drop_of_length-le stream full) ∙ append-nil octets)
            (had_all stream first (piece ∷ before) next (holds_next no_reset) full)
        | false ↦ λ over. Goes octets next refl prefix (holds_next no_reset)
      ] refl)

  -- the SYN that the direction began with, captured again
  copy : (piece.1.syn && not (progress.first == first_number piece.1)) ≡ false
  copy =
      elim piece.1.syn as (λ (syn : Bool). piece.1.syn ≡ syn → (syn && not (progress.first == first_number piece.1)) ≡ false) [
        | true ↦ λ syn.
            let zeroth : piece.0 ≡ 0 = s.syn syn in
            let number : first_number piece.1 ≡ (first + piece.0) % 2 ^ 32 = s.number in
            let same : progress.first ≡ first_number piece.1 = omega (arith, h.first_is, h.small) in
            ap not (eq-eqb progress.first (first_number piece.1) same)
        | false ↦ λ plain. refl
      ] refl

  goes_with : piece.1.rst ≡ false → step (Open progress) piece.1 ≡ joined (None, None, Open progress) (unless_over (deliver progress piece.1))
  goes_with no_reset = ap (by_rst (Open progress) piece.1) no_reset ∙ ap (by_begun piece.1) (on_copy progress piece.1 copy)

  pub comes_next : Comes stream first (piece ∷ before) progress.expected None (step (Open progress) piece.1)
  comes_next =
      elim piece.1.rst as (λ (rst : Bool). piece.1.rst ≡ rst → Comes stream first (piece ∷ before) progress.expected None (step (Open progress) piece.1)) [
        | true ↦ λ reset.
            let full : length stream ≤ progress.expected = all_taken stream first before progress h (s.rst reset) in
            let all : HadAll stream first before (had progress) = had_all stream first before progress h full in
            Ends [] (had progress)
            (ap (by_rst (Open progress) piece.1) reset ∙ ap (λ (e : End). outcome None [] (Some e) (Ended (had progress))) (is_complete stream first before progress h full))
            (drop_of_length-le stream full)
            (record { first_is = all.first_is; small = all.small; all = all.all; captured = λ place within. inr (all.captured place within) })
        | false ↦ λ no_reset. subst (Comes stream first (piece ∷ before) progress.expected None) (sym (goes_with no_reset)) (comes_with no_reset None)
      ] refl

-- ---- from the SYN on

holds_first : (stream : List ℕ) (piece : Piece) → Holds stream (first_number piece.1) [] (at_first piece.1)
unfolding Agree Sorted AtEnd Waits
holds_first stream piece = record {
  first_is = refl;
  small = omega arith;
  within = omega arith;
  agree = tt;
  clear = tt;
  was = λ place captured. absurd captured;
  only = λ place was. elim was [ inl before ↦ omega arith | inr waits ↦ waits ];
  near = λ place captured. absurd captured;
  seen = omega arith;
  fin = tt;
  near_all = refl;
}

begins_as : (how : Beginning) (piece : Piece) → BeginsWith how piece → begins Fresh piece.1 ≡ (None, Some how, Open (at_first piece.1))
begins_as Syn piece with_syn = at_syn piece.1 with_syn
begins_as Joined piece with_data = at_joined piece.1 with_data.0 (lt-ltb 0 piece.1.payload.size with_data.2)

pub comes_first : (stream : List ℕ) → length stream < 2 ^ 61 → (how : Beginning) (piece : Piece) → BeginsWith how piece → piece.1.rst ≡ false → IsSegmentOf stream (first_number piece.1) [] piece → Comes stream (first_number piece.1) (piece ∷ []) 0 (Some how) (step Fresh piece.1)
comes_first stream short how piece begins_with no_reset s =
    let same : step Fresh piece.1 ≡ joined (None, Some how, Open (at_first piece.1)) (unless_over (deliver (at_first piece.1) piece.1)) =
    ap (by_rst Fresh piece.1) no_reset ∙ ap (by_begun piece.1) (begins_as how piece begins_with) in
    subst (Comes stream (first_number piece.1) (piece ∷ []) 0 (Some how)) (sym same)
    (comes_with stream short (first_number piece.1) [] (at_first piece.1) (holds_first stream piece) piece s no_reset (Some how))

-- ---- after the end

and-false : (b : Bool) → (b && false) ≡ false
and-false true = refl
and-false false = refl

ended_still : (had : Had) (segment : Segment) → (segment.syn && not (had.first == first_number segment)) ≡ false → (not (is_copy_of had segment) && nat_lt 0 segment.payload.size) ≡ false → begins (Ended had) segment ≡ (None, None, Ended had)
ended_still had segment anew joins =
    ap₂ (λ (a b : Bool). when a (λ _. (None, Some Syn, Open (begun (first_number segment)))) (λ _. when b (λ _. (None, Some Joined, Open (begun (first_number segment)))) (λ _. (None, None, Ended had)))) anew joins

abbrev IsAmongBy : ℕ → Bool → ℕ → Distance → Type 0
IsAmongBy expected fin count by = (nat_le (behind by) expected && nat_le (ahead by + count) (behind by + from_bool fin)) ≡ true

-- octets of the stream that come again are among those that were had
copy_again : (size first expected place count : ℕ) (fin : Bool) → expected ≡ size → expected ≤ place + 2 ^ 31 → 0 < count → place + count ≤ size → IsAmongBy expected fin count (distance (number_of first expected) (number_of first place))
copy_again size first expected place count fin all after some within =
    let sooner : place < expected = omega arith in
    subst (IsAmongBy expected fin count) (behind_by first expected place sooner after)
    (ap₂ (λ (a b : Bool). a && b) (le-leb (expected - place) expected (omega arith)) (le-leb (0 + count) (expected - place + from_bool fin) (omega arith)))

module _ (stream : List ℕ) (first : ℕ) (before : List Piece) (had : Had) (h : HadAll stream first before had) (piece : Piece) (s : IsSegmentOf stream first before piece) where
  late_after : had.expected ≤ piece.0 + 2 ^ 31
  late_after =
      elim (cases_lt 0 had.expected) [
        | inl some ↦ let last : had.expected - 1 < piece.0 + 2 ^ 31 = s.not_late (had.expected - 1) (h.captured (had.expected - 1) (omega (arith, h.all))) in omega arith
        | inr none ↦ omega arith
      ]

  number_after : number_of had.first piece.0 ≡ first_number piece.1
  number_after = sym (same_number had.first piece.0) ∙ ap (λ (n : ℕ). (n + piece.0) % 2 ^ 32) h.first_is ∙ sym s.number

  data_again : 0 < piece.1.payload.size → is_copy_of had piece.1 ≡ true
  data_again some =
      subst (λ (n : ℕ). is_among had (distance (number_of had.first had.expected) n) piece.1.payload.size ≡ true) number_after
      (copy_again (length stream) had.first had.expected piece.0 piece.1.payload.size had.at_fin h.all late_after some (s.within some))

  syn_again : (piece.1.syn && not (had.first == first_number piece.1)) ≡ false
  syn_again =
      elim piece.1.syn as (λ (syn : Bool). piece.1.syn ≡ syn → (syn && not (had.first == first_number piece.1)) ≡ false) [
        | true ↦ λ syn.
            let zeroth : piece.0 ≡ 0 = s.syn syn in
            let number : first_number piece.1 ≡ (first + piece.0) % 2 ^ 32 = s.number in
            let same : had.first ≡ first_number piece.1 = omega (arith, h.first_is, h.small) in
            ap not (eq-eqb had.first (first_number piece.1) same)
        | false ↦ λ plain. refl
      ] refl

  join_again : (not (is_copy_of had piece.1) && nat_lt 0 piece.1.payload.size) ≡ false
  join_again =
      elim (cases_lt 0 piece.1.payload.size) [
        | inl some ↦ ap (λ (b : Bool). not b && nat_lt 0 piece.1.payload.size) (data_again some)
        | inr none ↦ ap (λ (b : Bool). not (is_copy_of had piece.1) && b) (le-ltb 0 piece.1.payload.size none) ∙ and-false (not (is_copy_of had piece.1))
      ]

  -- it is passed over, and more was captured
  pub passes_over : step (Ended had) piece.1 ≡ outcome None [] None (Ended had)
  passes_over =
      elim piece.1.rst as (λ (rst : Bool). by_rst (Ended had) piece.1 rst ≡ outcome None [] None (Ended had)) [
        | true ↦ refl
        | false ↦ ap (by_begun piece.1) (ended_still had piece.1 syn_again join_again)
      ]

  pub still_all : HadAll stream first (piece ∷ before) had
  still_all = record { first_is = h.first_is; small = h.small; all = h.all; captured = λ place within. inr (h.captured place within) }
