-- Octets that were captured: each is delivered or waits, and so all of a stream is delivered.
use Rattle.std.proofs.Common.{◌≡◌, ℕ, zero, suc, ◌+◌, ◌-◌, ◌^◌, ◌<◌, ◌≤◌, ◌==◌, ◌⊎◌, inl, inr, Bool, true, false, ◌||◌, cond, is_some, Option, Some, None, List, [], ◌∷◌, ◌++◌, length, drop, refl, sym, ap, subst, ◌∙◌, arith, length-append}
use Rattle.std.specs.Prelude.{slice_get, nat_lt}
use Rattle.std.specs.Ordering.{nat_cmp, match_ordering, is_eq}
use Rattle.std.specs.Cmp.{ranked}
use Rattle.std.specs.declared.cmp.Ordering.{Ordering}
use Rattle.std.specs.declared.cmp.Ordering.TheVariants.{Less, Equal, Greater}
use Rattle.std.specs.Map.{lookup}
use Rattle.std.specs.BTreeMap.{insert_entry, is_at}
use Rattle.std.proofs.lemmas.Bool.{eqb-true, eqb-false, leb-true, cases_lt}
use Rattle.std.proofs.Math.ListN.{drop_of_length-le, length-drop}
use Rattle.krb_der.specs.Octets.{when}
use Rattle.krb_packet.specs.declared.contents.Segment.{Segment}
use Rattle.krb_flow.specs.declared.serial.Distance.{Distance}
use Rattle.krb_flow.specs.declared.serial.Distance.TheVariants.{Ahead, Behind}
use Rattle.krb_flow.specs.declared.stream.End.{End}
use Rattle.krb_flow.specs.declared.direction.Beginning.{Beginning}
use Rattle.krb_flow.specs.declared.direction.Beginning.TheVariants.{Syn}
use Rattle.krb_flow.specs.declared.direction.State.{State}
use Rattle.krb_flow.specs.declared.direction.State.TheVariants.{Fresh, Open, Ended}
use Rattle.krb_flow.specs.Serial.{behind, distance}
use Rattle.krb_flow.specs.Waiting.{Waiting, keep_one, keep, ready, early}
use Rattle.krb_flow.specs.Progress.{Progress}
use Rattle.krb_flow.specs.Directions.{deliver, Outcome, first_number, distance_to, start, end_place, kept, delivered, earlier, unless_old, advanced, is_skipped, had, is_reached, is_over, ending, Begun, begins, unless_over, goes_on, joined, step}
use Rattle.krb_flow.specs.Laws.{at_first, IsFirst, HasAt, Piece, IsPiece, PiecesOf, delivered_of, IsFair, AllFair, IsCaptured, DeliversAll}
use Rattle.krb_capture_laws.proofs.Pieces.{most_waiting, delivers_the_stream, when_both, number_of, same_number, ahead_by, behind_by, deliver_near, on_plain, at_syn}

-- ---- which places wait

unfoldable pub Waits : ℕ → Waiting → Type 0
Waits place [] = ⊥
Waits place (entry ∷ entries) = (place ≡ entry.0) ⊎ Waits place entries

waits_with : (place other octet : ℕ) (waiting : Waiting) → Waits place waiting → Waits place (insert_entry nat_cmp waiting other octet)
unfolding Waits
waits_with place other octet [] waits = absurd waits
waits_with place other octet (entry ∷ entries) waits =
    elim (nat_cmp other entry.0) as (λ (r : Ordering). Waits place (match_ordering r ((other, octet) ∷ entry ∷ entries) ((entry.0, octet) ∷ entries) (entry ∷ insert_entry nat_cmp entries other octet))) [
      | Less ↦ inr waits
      | Equal ↦ waits
      | Greater ↦ elim waits [ inl here ↦ inl here | inr more ↦ inr (waits_with place other octet entries more) ]
    ]

waits_inserted : (place octet : ℕ) (waiting : Waiting) → Waits place (insert_entry nat_cmp waiting place octet)
unfolding Waits
waits_inserted place octet [] = inl refl
waits_inserted place octet (entry ∷ entries) =
    elim (nat_cmp place entry.0) as (λ (r : Ordering). nat_cmp place entry.0 ≡ r → Waits place (match_ordering r ((place, octet) ∷ entry ∷ entries) ((entry.0, octet) ∷ entries) (entry ∷ insert_entry nat_cmp entries place octet))) [
      | Less ↦ λ is. inl refl
      | Equal ↦ λ is. inl (ranked place entry.0 Equal (sym is))
      | Greater ↦ λ is. inr (waits_inserted place octet entries)
    ] refl

occupied_waits : (place : ℕ) (waiting : Waiting) → is_some (lookup (is_at (nat_cmp place)) waiting) ≡ true → Waits place waiting
unfolding Waits
occupied_waits place [] occupied = cc
occupied_waits place (entry ∷ entries) occupied =
    elim (nat_cmp place entry.0) as (λ (r : Ordering). nat_cmp place entry.0 ≡ r → is_some (cond (is_eq r) (Some entry.1) (lookup (is_at (nat_cmp place)) entries)) ≡ true → (place ≡ entry.0) ⊎ Waits place entries) [
      | Less ↦ λ is there. inr (occupied_waits place entries there)
      | Equal ↦ λ is there. inl (ranked place entry.0 Equal (sym is))
      | Greater ↦ λ is there. inr (occupied_waits place entries there)
    ] refl occupied

kept_one_waits : (place octet : ℕ) (waiting : Waiting) → Waits place (keep_one place octet waiting)
kept_one_waits place octet waiting =
    elim (is_some (lookup (is_at (nat_cmp place)) waiting)) as (λ (occupied : Bool). is_some (lookup (is_at (nat_cmp place)) waiting) ≡ occupied → Waits place (when occupied (λ _. waiting) (λ _. insert_entry nat_cmp waiting place octet))) [
      | true ↦ λ occupied. occupied_waits place waiting occupied
      | false ↦ λ occupied. waits_inserted place octet waiting
    ] refl

waits_with_one : (place other octet : ℕ) (waiting : Waiting) → Waits place waiting → Waits place (keep_one other octet waiting)
waits_with_one place other octet waiting waits =
    elim (is_some (lookup (is_at (nat_cmp other)) waiting)) as (λ (occupied : Bool). Waits place (when occupied (λ _. waiting) (λ _. insert_entry nat_cmp waiting other octet))) [
      | true ↦ waits
      | false ↦ waits_with place other octet waiting waits
    ]

waits_still : (place other : ℕ) (octets : List ℕ) (waiting : Waiting) → Waits place waiting → Waits place (keep other octets waiting)
waits_still place other [] waiting waits = waits
waits_still place other (octet ∷ octets) waiting waits = waits_still place (other + 1) octets (keep_one other octet waiting) (waits_with_one place other octet waiting waits)

kept_waits : (place other : ℕ) (octets : List ℕ) (waiting : Waiting) → other ≤ place → place < other + length octets → Waits place (keep other octets waiting)
kept_waits place other [] waiting after before = absurd (omega arith)
kept_waits place other (octet ∷ octets) waiting after before =
    elim (cases_lt other place) [
      | inl later ↦ kept_waits place (other + 1) octets (keep_one other octet waiting) (omega arith) (omega arith)
      | inr same ↦
          let here : other ≡ place = omega arith in
          waits_still place (other + 1) octets (keep_one other octet waiting) (subst (λ (n : ℕ). Waits n (keep_one other octet waiting)) here (kept_one_waits other octet waiting))
    ]

further : (place expected octet : ℕ) (octets : List ℕ) (waiting : Waiting) → (place < expected + 1 + length octets) ⊎ Waits place waiting → (place < expected + length (octet ∷ octets)) ⊎ Waits place waiting
further place expected octet octets waiting (inl before) = inl (omega arith)
further place expected octet octets waiting (inr waits) = inr waits

ready_or_early : (place expected : ℕ) (waiting : Waiting) → Waits place waiting → (place < expected + length (ready expected waiting)) ⊎ Waits place (early expected waiting)
unfolding Waits
ready_or_early place expected [] waits = absurd waits
ready_or_early place expected (entry ∷ entries) waits =
    elim (entry.0 == expected) as (λ (b : Bool). (entry.0 == expected) ≡ b → (place < expected + length (when b (λ _. entry.1 ∷ ready (expected + 1) entries) (λ _. []))) ⊎ Waits place (when b (λ _. early (expected + 1) entries) (λ _. entry ∷ entries))) [
      | true ↦ λ is.
          let here : entry.0 ≡ expected = eqb-true entry.0 expected is in
          elim waits [
            | inl same ↦ inl (omega arith)
            | inr more ↦ further place expected entry.1 (ready (expected + 1) entries) (early (expected + 1) entries) (ready_or_early place (expected + 1) entries more)
          ]
      | false ↦ λ is. inr waits
    ] refl

-- ---- the places that wait ascend

unfoldable pub Sorted : ℕ → Waiting → Type 0
Sorted from [] = Unit {0}
Sorted from (entry ∷ entries) = (from ≤ entry.0) × Sorted (suc entry.0) entries

sorted_lower : (from lower : ℕ) (waiting : Waiting) → lower ≤ from → Sorted from waiting → Sorted lower waiting
unfolding Sorted
sorted_lower from lower [] le sorted = tt
sorted_lower from lower (entry ∷ entries) le sorted = let first : from ≤ entry.0 = sorted.0 in (omega arith, sorted.1)

insert_sorted : (from place octet : ℕ) (waiting : Waiting) → from ≤ place → Sorted from waiting → Sorted from (insert_entry nat_cmp waiting place octet)
unfolding Sorted
insert_sorted from place octet [] le sorted = (le, tt)
insert_sorted from place octet (entry ∷ entries) le sorted =
    elim (nat_cmp place entry.0) as (λ (r : Ordering). nat_cmp place entry.0 ≡ r → Sorted from (match_ordering r ((place, octet) ∷ entry ∷ entries) ((entry.0, octet) ∷ entries) (entry ∷ insert_entry nat_cmp entries place octet))) [
      | Less ↦ λ is. let below : place < entry.0 = ranked place entry.0 Less (sym is) in (le, (omega arith, sorted.1))
      | Equal ↦ λ is. sorted
      | Greater ↦ λ is. let above : entry.0 < place = ranked place entry.0 Greater (sym is) in (sorted.0, insert_sorted (suc entry.0) place octet entries (omega arith) sorted.1)
    ] refl

one_sorted : (from place octet : ℕ) (waiting : Waiting) → from ≤ place → Sorted from waiting → Sorted from (keep_one place octet waiting)
one_sorted from place octet waiting le sorted =
    elim (is_some (lookup (is_at (nat_cmp place)) waiting)) as (λ (occupied : Bool). Sorted from (when occupied (λ _. waiting) (λ _. insert_entry nat_cmp waiting place octet))) [
      | true ↦ sorted
      | false ↦ insert_sorted from place octet waiting le sorted
    ]

kept_sorted : (from place : ℕ) (octets : List ℕ) (waiting : Waiting) → from ≤ place → Sorted from waiting → Sorted from (keep place octets waiting)
kept_sorted from place [] waiting le sorted = sorted
kept_sorted from place (octet ∷ octets) waiting le sorted = kept_sorted from (place + 1) octets (keep_one place octet waiting) (omega arith) (one_sorted from place octet waiting le sorted)

early_sorted : (expected : ℕ) (waiting : Waiting) → Sorted expected waiting → Sorted (suc (expected + length (ready expected waiting))) (early expected waiting)
unfolding Sorted
early_sorted expected [] sorted = tt
early_sorted expected (entry ∷ entries) sorted =
    elim (entry.0 == expected) as (λ (b : Bool). (entry.0 == expected) ≡ b → Sorted (suc (expected + length (when b (λ _. entry.1 ∷ ready (expected + 1) entries) (λ _. [])))) (when b (λ _. early (expected + 1) entries) (λ _. entry ∷ entries))) [
      | true ↦ λ is.
          let here : entry.0 ≡ expected = eqb-true entry.0 expected is in
          let next : suc entry.0 ≡ expected + 1 = omega arith in
          let sum : suc (expected + 1 + length (ready (expected + 1) entries)) ≡ suc (expected + length (entry.1 ∷ ready (expected + 1) entries)) = omega arith in
          subst (λ (n : ℕ). Sorted n (early (expected + 1) entries)) sum (early_sorted (expected + 1) entries (subst (λ (n : ℕ). Sorted n entries) next sorted.1))
      | false ↦ λ is.
          let first : expected ≤ entry.0 = sorted.0 in
          let apart : entry.0 ≡ expected → ⊥ = eqb-false entry.0 expected is in
          (omega arith, sorted.1)
    ] refl

pub not_waiting : (place : ℕ) (waiting : Waiting) → Sorted (suc place) waiting → Waits place waiting → ⊥
unfolding Sorted Waits
not_waiting place [] sorted waits = waits
not_waiting place (entry ∷ entries) sorted waits =
    let first : suc place ≤ entry.0 = sorted.0 in
    elim waits [
      | inl same ↦ omega arith
      | inr more ↦ not_waiting place entries (sorted_lower (suc entry.0) (suc place) entries (omega arith) sorted.1) more
    ]

-- ---- a segment

abbrev pub Clear : Progress → Type 0
Clear progress = Sorted (suc progress.expected) progress.waiting

abbrev pub Was : ℕ → Progress → Type 0
Was place progress = (place < progress.expected) ⊎ Waits place progress.waiting

pub onward_clear : (progress : Progress) (segment : Segment) → Clear progress → Clear (advanced progress segment)
onward_clear progress segment clear =
    let by = distance_to progress segment in
    early_sorted progress.expected (kept progress segment)
    (kept_sorted progress.expected (start progress.expected by) (drop (behind by) segment.payload.octets) progress.waiting (omega arith) (sorted_lower (suc progress.expected) progress.expected progress.waiting (omega arith) clear))

pub onward_was : (place : ℕ) (progress : Progress) (segment : Segment) → Was place progress → Was place (advanced progress segment)
onward_was place progress segment (inl before) = inl (omega arith)
onward_was place progress segment (inr waits) =
    let by = distance_to progress segment in
    ready_or_early place progress.expected (kept progress segment) (waits_still place (start progress.expected by) (drop (behind by) segment.payload.octets) progress.waiting waits)

abbrev Covers : ℕ → ℕ → List ℕ → Distance → Type 0
Covers place expected octets by = (start expected by ≤ place) × (place < start expected by + length (drop (behind by) octets))

covers_by : (first expected from place : ℕ) (octets : List ℕ) → expected ≤ from + 2 ^ 31 → from < expected + 2 ^ 31 → from ≤ place → place < from + length octets → expected ≤ place → Covers place expected octets (distance (number_of first expected) (number_of first from))
covers_by first expected from place octets after before low high later =
    elim (cases_lt from expected) [
      | inl sooner ↦
          let size : length (drop (expected - from) octets) ≡ length octets - (expected - from) = length-drop (expected - from) octets in
          subst (Covers place expected octets) (behind_by first expected from sooner after) (omega arith, omega arith)
      | inr not_sooner ↦ subst (Covers place expected octets) (ahead_by first expected from not_sooner before) (omega arith, omega arith)
    ]

pub onward_captures : (stream : List ℕ) (place : ℕ) (progress : Progress) (piece : Piece) → IsPiece stream progress piece → piece.0 ≤ place → place < piece.0 + length piece.1.payload.octets → Was place (advanced progress piece.1)
onward_captures stream place progress piece is low high =
    elim (cases_lt place progress.expected) [
      | inl before ↦ inl (omega arith)
      | inr later ↦
          let number : number_of progress.first piece.0 ≡ first_number piece.1 = sym (same_number progress.first piece.0) ∙ sym is.number in
          let by = distance_to progress piece.1 in
          let covers : Covers place progress.expected piece.1.payload.octets by = subst (λ (n : ℕ). Covers place progress.expected piece.1.payload.octets (distance (number_of progress.first progress.expected) n)) number (covers_by progress.first progress.expected piece.0 place piece.1.payload.octets is.after is.before low high later) in
          ready_or_early place progress.expected (kept progress piece.1) (kept_waits place (start progress.expected by) (drop (behind by) piece.1.payload.octets) progress.waiting covers.0 covers.1)
    ]

-- ---- a FIN

unfoldable pub AtEnd : ℕ → Option ℕ → Type 0
AtEnd size None = Unit {0}
AtEnd size (Some place) = place ≡ size

pub earlier_at_end : (size : ℕ) (one other : Option ℕ) → AtEnd size one → AtEnd size other → AtEnd size (earlier one other)
unfolding AtEnd
earlier_at_end size None other at more = more
earlier_at_end size (Some one) None at more = at
earlier_at_end size (Some one) (Some other) at more = omega arith

end_at : (size expected : ℕ) (by : Distance) (count : ℕ) → start expected by + count ≡ behind by + size → AtEnd size (end_place expected by count)
unfolding AtEnd
end_at size expected by count is =
    when_both (AtEnd size) (nat_lt (start expected by + count) (behind by)) (λ _. None) (λ _. Some (start expected by + count - behind by)) tt (omega arith)

pub end_is : (size first expected place count : ℕ) → expected ≤ place + 2 ^ 31 → place < expected + 2 ^ 31 → place + count ≡ size → AtEnd size (end_place expected (distance (number_of first expected) (number_of first place)) count)
end_is size first expected place count after before is =
    elim (cases_lt place expected) [
      | inl sooner ↦ subst (λ (by : Distance). AtEnd size (end_place expected by count)) (behind_by first expected place sooner after) (end_at size expected (Behind (expected - place)) count (omega arith))
      | inr later ↦ subst (λ (by : Distance). AtEnd size (end_place expected by count)) (ahead_by first expected place later before) (end_at size expected (Ahead (place - expected)) count (omega arith))
    ]

unless_old_at_end : (size expected : ℕ) (place : Option ℕ) → AtEnd size place → AtEnd size (unless_old expected place)
unfolding AtEnd
unless_old_at_end size expected None at = at
unless_old_at_end size expected (Some place) at = when_both (AtEnd size) (nat_lt place expected) (λ _. None) (λ _. Some place) tt at

pub fin_at_end : (stream : List ℕ) (progress : Progress) (piece : Piece) → IsPiece stream progress piece → IsFair stream progress piece → AtEnd (length stream) progress.fin → AtEnd (length stream) (advanced progress piece.1).fin
fin_at_end stream progress piece is fair at =
    let count = piece.1.payload.size in
    let number : number_of progress.first piece.0 ≡ first_number piece.1 = sym (same_number progress.first piece.0) ∙ sym is.number in
    elim piece.1.fin as (λ (fin : Bool). piece.1.fin ≡ fin → AtEnd (length stream) (when fin (λ _. earlier (unless_old progress.expected (end_place progress.expected (distance_to progress piece.1) count)) progress.fin) (λ _. progress.fin))) [
      | true ↦ λ there.
          earlier_at_end (length stream) (unless_old progress.expected (end_place progress.expected (distance_to progress piece.1) count)) progress.fin
          (unless_old_at_end (length stream) progress.expected (end_place progress.expected (distance_to progress piece.1) count)
          (subst (λ (n : ℕ). AtEnd (length stream) (end_place progress.expected (distance (number_of progress.first progress.expected) n) count)) number
          (end_is (length stream) progress.first progress.expected piece.0 count is.after is.before (fair.fin there))))
          at
      | false ↦ λ there. at
    ] refl

pub reached : (size : ℕ) (fin : Option ℕ) (expected : ℕ) → AtEnd size fin → is_reached fin expected ≡ true → size ≤ expected
unfolding AtEnd
reached size None expected at is = cc
reached size (Some place) expected at is = let le : place ≤ expected = leb-true place expected is in omega arith

pub by_fin : (fin many : Bool) → (fin || many) ≡ true → many ≡ false → fin ≡ true
by_fin true many over few = refl
by_fin false many over few = cc

-- ---- all segments

-- after a segment is delivered the direction is still open, or it is over
abbrev GoesOn : Progress → List ℕ → Outcome × State → Type 0
GoesOn next octets went = (went.0.octets ≡ octets) × ((went.1 ≡ Open next) ⊎ ((went.1 ≡ Ended (had next)) × (is_over next ≡ true)))

gone_on : (before : Option End) (how : Option Beginning) (progress next : Progress) (octets : List ℕ) → GoesOn next octets (joined (before, how, Open progress) (unless_over (octets, next)))
gone_on before how progress next octets =
    elim (is_over next) as (λ (over : Bool). is_over next ≡ over → GoesOn next octets (joined (before, how, Open progress) (when over (λ _. (octets, Some (ending next), Ended (had next))) (λ _. (octets, None, Open next))))) [
      | true ↦ λ over. (refl, inr (refl, over))
      | false ↦ λ over. (refl, inl refl)
    ] refl

passed_not : (before : Option End) (how : Option Beginning) (progress : Progress) (segment : Segment) → is_skipped progress segment ≡ false → GoesOn (advanced progress segment) (delivered progress segment) (joined (before, how, Open progress) (unless_over (deliver progress segment)))
passed_not before how progress segment near =
    let next = advanced progress segment in
    let octets = delivered progress segment in
    let ByWent : List ℕ × Progress → Type 0 = λ went. GoesOn next octets (joined (before, how, Open progress) (unless_over went)) in
    subst ByWent (sym (deliver_near progress segment near)) (gone_on before how progress next octets)

step_goes : (progress : Progress) (segment : Segment) → segment.syn ≡ false → segment.rst ≡ false → is_skipped progress segment ≡ false → GoesOn (advanced progress segment) (delivered progress segment) (step (Open progress) segment)
step_goes progress segment plain no_reset near =
    let next = advanced progress segment in
    let octets = delivered progress segment in
    let ByRst : Bool → Type 0 = λ rst. GoesOn next octets (when rst (λ _. (record { before = None; begins = None; octets = []; end = Some (ending progress) }, Ended (had progress))) (λ _. joined (begins (Open progress) segment) (goes_on (begins (Open progress) segment).2 segment))) in
    let ByBegun : Begun → Type 0 = λ begun. GoesOn next octets (joined begun (goes_on begun.2 segment)) in
    subst ByRst (sym no_reset) (subst ByBegun (sym (on_plain progress segment plain)) (passed_not None None progress segment near))

first_goes : (segment : Segment) → segment.syn ≡ true → segment.rst ≡ false → is_skipped (at_first segment) segment ≡ false → GoesOn (advanced (at_first segment) segment) (delivered (at_first segment) segment) (step Fresh segment)
first_goes segment is_syn no_reset near =
    let next = advanced (at_first segment) segment in
    let octets = delivered (at_first segment) segment in
    let ByRst : Bool → Type 0 = λ rst. GoesOn next octets (when rst (λ _. (record { before = None; begins = None; octets = []; end = None }, Fresh)) (λ _. joined (begins Fresh segment) (goes_on (begins Fresh segment).2 segment))) in
    let ByBegun : Begun → Type 0 = λ begun. GoesOn next octets (joined begun (goes_on begun.2 segment)) in
    subst ByRst (sym no_reset) (subst ByBegun (sym (at_syn segment is_syn)) (passed_not None (Some Syn) (at_first segment) segment near))

still_was : (stream : List ℕ) (place : ℕ) (progress : Progress) (piece : Piece) (pieces : List Piece) → IsPiece stream progress piece → Was place progress ⊎ IsCaptured place (piece ∷ pieces) → Was place (advanced progress piece.1) ⊎ IsCaptured place pieces
still_was stream place progress piece pieces is (inl was) = inl (onward_was place progress piece.1 was)
still_was stream place progress piece pieces is (inr (inl here)) = inl (onward_captures stream place progress piece is here.0 here.1)
still_was stream place progress piece pieces is (inr (inr later)) = inr later

no_more : (place : ℕ) (progress : Progress) → Was place progress ⊎ IsCaptured place [] → Was place progress
no_more place progress (inl was) = was
no_more place progress (inr captured) = absurd captured

all_expected : (stream : List ℕ) (progress : Progress) → Clear progress → ((place : ℕ) → place < length stream → Was place progress ⊎ IsCaptured place []) → length stream ≤ progress.expected
all_expected stream progress clear were =
    elim (cases_lt progress.expected (length stream)) [
      | inl short ↦
          absurd (elim (no_more progress.expected progress (were progress.expected short)) [ inl before ↦ omega arith | inr waits ↦ not_waiting progress.expected progress.waiting clear waits ])
      | inr full ↦ full
    ]

-- the number of octets that are delivered with a segment and with those after it
sums : (size expected : ℕ) (octets went rest : List ℕ) → went ≡ octets → size ≤ expected + length octets + length rest → size ≤ expected + length (went ++ rest)
sums size expected octets went rest same le = let count = ap length same in simp length-append (omega arith)

-- a segment, and those after it if the direction is still open
reach_on : (stream : List ℕ) (pieces : List Piece) (p : Progress) (piece : Piece) (went : Outcome × State) → IsPiece stream p piece → IsFair stream p piece → AtEnd (length stream) p.fin → GoesOn (advanced p piece.1) (delivered p piece.1) went → (went.1 ≡ Open (advanced p piece.1) → AtEnd (length stream) (advanced p piece.1).fin → length stream ≤ (advanced p piece.1).expected + length (delivered_of went.1 pieces)) → length stream ≤ p.expected + length (went.0.octets ++ delivered_of went.1 pieces)
reach_on stream pieces p piece went is fair at goes later =
    let next = advanced p piece.1 in
    let fin = fin_at_end stream p piece is fair at in
    sums (length stream) p.expected (delivered p piece.1) went.0.octets (delivered_of went.1 pieces) goes.0
    (elim goes.1 [
      | inl opens ↦ later opens fin
      | inr over ↦
          let full : length stream ≤ next.expected = reached (length stream) next.fin next.expected fin (by_fin (is_reached next.fin next.expected) (nat_lt most_waiting (length next.waiting)) over.1 fair.few_wait) in
          omega arith
    ])

all_reach : (stream : List ℕ) (pieces : List Piece) (p : Progress) → Clear p → AtEnd (length stream) p.fin → ((place : ℕ) → place < length stream → Was place p ⊎ IsCaptured place pieces) → PiecesOf stream (Open p) pieces → AllFair stream (Open p) pieces → length stream ≤ p.expected + length (delivered_of (Open p) pieces)
all_reach stream [] p clear at were of fair = let expected = all_expected stream p clear were in omega arith
all_reach stream (piece ∷ pieces) p clear at were of fair =
    reach_on stream pieces p piece (step (Open p) piece.1) of.0.1 fair.0 at (step_goes p piece.1 of.0.0 fair.0.no_reset fair.0.near)
    (λ opens fin.
    subst (λ (state : State). length stream ≤ (advanced p piece.1).expected + length (delivered_of state pieces)) (sym opens)
    (all_reach stream pieces (advanced p piece.1) (onward_clear p piece.1 clear) fin
    (λ place below. still_was stream place p piece pieces of.0.1 (were place below))
    (subst (λ (state : State). PiecesOf stream state pieces) opens of.1)
    (subst (λ (state : State). AllFair stream state pieces) opens fair.1)))

-- from a SYN on
first_reach : (stream : List ℕ) (piece : Piece) (pieces : List Piece) → ((place : ℕ) → place < length stream → IsCaptured place (piece ∷ pieces)) → PiecesOf stream Fresh (piece ∷ pieces) → AllFair stream Fresh (piece ∷ pieces) → length stream ≤ 0 + length (delivered_of Fresh (piece ∷ pieces))
unfolding Sorted AtEnd
first_reach stream piece pieces captured of fair =
    let p = at_first piece.1 in
    reach_on stream pieces p piece (step Fresh piece.1) of.0.2 fair.0 tt (first_goes piece.1 of.0.0 of.0.1 fair.0.near)
    (λ opens fin.
    subst (λ (state : State). length stream ≤ (advanced p piece.1).expected + length (delivered_of state pieces)) (sym opens)
    (all_reach stream pieces (advanced p piece.1) (onward_clear p piece.1 tt) fin
    (λ place below. still_was stream place p piece pieces of.0.2 (inr (captured place below)))
    (subst (λ (state : State). PiecesOf stream state pieces) opens of.1)
    (subst (λ (state : State). AllFair stream state pieces) opens fair.1)))

nothing : (size : ℕ) → ((place : ℕ) → place < size → IsCaptured place []) → size ≤ 0
nothing zero captured = omega arith
nothing (suc size) captured = absurd (captured 0 (omega arith))

reach : (stream : List ℕ) (state : State) (pieces : List Piece) → IsFirst state → PiecesOf stream state pieces → AllFair stream state pieces → ((place : ℕ) → place < length stream → IsCaptured place pieces) → length stream ≤ 0 + length (delivered_of state pieces)
unfolding Sorted AtEnd
reach stream Fresh [] first of fair captured = let none = nothing (length stream) captured in omega arith
reach stream Fresh (piece ∷ pieces) first of fair captured = first_reach stream piece pieces captured of fair
reach stream (Open progress) pieces first of fair captured =
    let expected : progress.expected ≡ 0 = ap (λ (p : Progress). p.expected) first in
    let full = all_reach stream pieces progress
    (subst (λ (p : Progress). Sorted (suc p.expected) p.waiting) (sym first) tt)
    (subst (λ (p : Progress). AtEnd (length stream) p.fin) (sym first) tt)
    (λ place below. inr (captured place below)) of fair in
    omega arith
reach stream (Ended had) pieces first of fair captured = absurd first

-- ---- octets that fill the stream

pub got : (stream : List ℕ) (place octet : ℕ) → slice_get stream place ≡ Some octet → drop place stream ≡ octet ∷ drop (place + 1) stream
got [] place octet is = cc
got (first ∷ stream) zero octet is = let same : first ≡ octet = cc in ap (λ (o : ℕ). o ∷ stream) same
got (first ∷ stream) (suc place) octet is =
    let next : suc (place + 1) ≡ suc place + 1 = omega arith in
    subst (λ (n : ℕ). drop place stream ≡ octet ∷ drop n (first ∷ stream)) next (got stream place octet is)

fills : (stream : List ℕ) (place : ℕ) (octets : List ℕ) → HasAt stream place octets → length stream ≤ place + length octets → octets ≡ drop place stream
fills stream place [] has_octets full = sym (drop_of_length-le stream (omega arith))
fills stream place (octet ∷ octets) has_octets full =
    ap (λ (os : List ℕ). octet ∷ os) (fills stream (place + 1) octets has_octets.1 (omega arith))
    ∙ sym (got stream place octet has_octets.0)

pub delivers_all : DeliversAll
delivers_all stream state pieces first of fair captured = fills stream 0 (delivered_of state pieces) (delivers_the_stream stream state pieces first of) (reach stream state pieces first of fair captured)
