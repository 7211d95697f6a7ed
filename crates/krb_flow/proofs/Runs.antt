-- Octets that wait in runs: those that are kept with them, those that are ready, and their number.
use Rattle.std.proofs.Common.{◌≡◌, ℕ, zero, suc, ◌+◌, ◌-◌, ◌^◌, ◌<◌, ◌≤◌, inl, inr, Bool, true, false, cond, Option, Some, None, List, [], ◌∷◌, ◌++◌, length, take, drop, refl, sym, ap, subst, ◌∙◌, arith, add-zero, append-nil, append_assoc, length-append}
use Rattle.std.specs.Prelude.{slice_get, IsSome, IfSome}
use Rattle.std.specs.Global.{Vec}
use Rattle.std.specs.List.{filter}
use Rattle.std.specs.Option.{option_map, unwrap_or}
use Rattle.std.specs.Ordering.{nat_cmp, is_eq}
use Rattle.std.specs.Cmp.{ranked}
use Rattle.std.specs.declared.cmp.Ordering.{Ordering}
use Rattle.std.specs.declared.cmp.Ordering.TheVariants.{Less, Equal, Greater}
use Rattle.std.specs.declared.ops.Bound.TheVariants.{Included, Unbounded}
use Rattle.std.specs.Map.{lookup, remove_entry}
use Rattle.std.specs.BTreeMap.{insert_entry, is_at}
use Rattle.std.specs.BTreeMap.Range.{range_contains}
use Rattle.std.proofs.lemmas.Bool.{lt-ltb, le-ltb, eq-eqb, ne_eqb, cases_lt}
use Rattle.std.proofs.lemmas.Bool.Decides.{nat_tests}
use Rattle.std.proofs.lemmas.List.{nil_from_length}
use Rattle.krb_flow.specs.Waiting.{Waiting, keep_one, keep, ready, early}
use Rattle.krb_flow.specs.inner.Runs.{Runs, places, waiting_in, AreApart, AreFree}
use Rattle.krb_flow.specs.inner.Stretches.{AreOccupied}
use Rattle.krb_flow.proofs.Places.{IsFrom, from_fewer, kept_one_after, kept_after, kept_at, ready_at, early_at, next_place}

-- ---- octets from a place on

pub count_places : (place : ℕ) (octets : List ℕ) → length (places place octets) ≡ length octets
count_places place [] = refl
count_places place (octet ∷ octets) = ap suc (count_places (place + 1) octets)

places_joined : (place : ℕ) (first then : List ℕ) → places place (first ++ then) ≡ places place first ++ places (place + length first) then
places_joined place [] then = rw (add-zero place) refl
places_joined place (octet ∷ first) then =
    ap (λ (w : Waiting). (place, octet) ∷ w) (places_joined (place + 1) first then)
    ∙ ap (λ (n : ℕ). (place, octet) ∷ (places (place + 1) first ++ places n then)) (next_place place (length first))

places_from : (low place : ℕ) (octets : List ℕ) (waiting : Waiting) → low ≤ place → IsFrom low waiting → IsFrom low (places place octets ++ waiting)
unfolding IsFrom
places_from low place [] waiting le from = from
places_from low place (octet ∷ octets) waiting le from = (le, places_from low (place + 1) octets waiting (omega arith) from)

-- octets before all that wait
kept_first : (place : ℕ) (octets : List ℕ) (waiting : Waiting) → IsFrom (place + length octets) waiting → keep place octets waiting ≡ places place octets ++ waiting
kept_first place [] waiting from = refl
kept_first place (octet ∷ octets) waiting from =
    kept_at place octet octets waiting (from_fewer (suc place) (place + length (octet ∷ octets)) waiting (omega arith) from)
    ∙ ap (λ (w : Waiting). (place, octet) ∷ w) (kept_first (place + 1) octets waiting (subst (λ (n : ℕ). IsFrom n waiting) (sym (next_place place (length octets))) from))

-- octets after a run
kept_past : (first place : ℕ) (run octets : List ℕ) (waiting : Waiting) → first + length run ≤ place → keep place octets (places first run ++ waiting) ≡ places first run ++ keep place octets waiting
kept_past first place [] octets waiting after = refl
kept_past first place (octet ∷ run) octets waiting after =
    kept_after first octet place octets (places (first + 1) run ++ waiting) (omega arith)
    ∙ ap (λ (w : Waiting). (first, octet) ∷ w) (kept_past (first + 1) place run octets waiting (omega arith))

-- octets at the places of a run
occupied_here : (place first octet other : ℕ) (waiting : Waiting) → place ≡ first → keep_one place octet ((first, other) ∷ waiting) ≡ (first, other) ∷ waiting
occupied_here place first octet other waiting same = rw (le-ltb place first (omega arith), eq-eqb place first same) refl

one_within : (first place octet : ℕ) (run : List ℕ) (waiting : Waiting) → first ≤ place → place < first + length run → keep_one place octet (places first run ++ waiting) ≡ places first run ++ waiting
one_within first place octet [] waiting after before = absurd (omega arith)
one_within first place octet (other ∷ run) waiting after before =
    elim (cases_lt first place) [
      | inl later ↦
          kept_one_after first other place octet (places (first + 1) run ++ waiting) later
          ∙ ap (λ (w : Waiting). (first, other) ∷ w) (one_within (first + 1) place octet run waiting (omega arith) (omega arith))
      | inr here ↦ occupied_here place first octet other (places (first + 1) run ++ waiting) (omega arith)
    ]

kept_within : (first place : ℕ) (run octets : List ℕ) (waiting : Waiting) → first ≤ place → place + length octets ≤ first + length run → keep place octets (places first run ++ waiting) ≡ places first run ++ waiting
kept_within first place run [] waiting after before = refl
kept_within first place run (octet ∷ octets) waiting after before =
    ap (keep (place + 1) octets) (one_within first place octet run waiting after (omega arith))
    ∙ kept_within first (place + 1) run octets waiting (omega arith) (omega arith)

-- some octets first, and then the others
pub kept_in_two : (place count : ℕ) (octets : List ℕ) (waiting : Waiting) → keep (place + count) (drop count octets) (keep place (take count octets) waiting) ≡ keep place octets waiting
kept_in_two place zero octets waiting = rw (add-zero place) refl
kept_in_two place (suc count) [] waiting = refl
kept_in_two place (suc count) (octet ∷ octets) waiting =
    subst (λ (n : ℕ). keep n (drop count octets) (keep (place + 1) (take count octets) (keep_one place octet waiting)) ≡ keep (place + 1) octets (keep_one place octet waiting)) (next_place place count)
    (kept_in_two (place + 1) count octets (keep_one place octet waiting))

-- ---- the octets of runs

pub apart_from : (low : ℕ) (runs : Runs) → AreApart low runs → IsFrom low (waiting_in runs)
unfolding IsFrom
apart_from low [] apart = tt
apart_from low (run ∷ runs) apart =
    let room : low + length run.1.items ≤ run.0 = apart.1 in
    places_from low (run.0 - length run.1.items) run.1.items (waiting_in runs) (omega arith)
    (from_fewer low run.0 (waiting_in runs) (omega arith) (apart_from run.0 runs apart.2))

pub apart_fits : (low : ℕ) (runs : Runs) → AreApart low runs → low + length (waiting_in runs) < 2 ^ 64
apart_fits low [] apart = omega arith
apart_fits low (run ∷ runs) apart =
    let room : low + length run.1.items ≤ run.0 = apart.1 in
    omega (arith, apart_fits run.0 runs apart.2, length-append (places (run.0 - length run.1.items) run.1.items) (waiting_in runs), count_places (run.0 - length run.1.items) run.1.items)

free_before : (place count low : ℕ) (runs : Runs) → place + count ≤ low → AreApart low runs → AreFree place count runs
free_before place count low [] le apart = tt
free_before place count low (run ∷ runs) le apart =
    let room : low + length run.1.items ≤ run.0 = apart.1 in
    (inr (omega arith), free_before place count run.0 runs (omega arith) apart.2)

-- fewer places
pub free_fewer : (place count fewer : ℕ) (runs : Runs) → fewer ≤ count → AreFree place count runs → AreFree place fewer runs
free_fewer place count fewer [] le free = tt
free_fewer place count fewer (run ∷ runs) le free = (
  elim free.0 [
    | inl before ↦ inl before
    | inr after ↦ inr (omega arith)
  ],
  free_fewer place count fewer runs le free.1,
)

-- free places before all runs
apart_after : (place count low : ℕ) (runs : Runs) → place ≤ low → place + count < 2 ^ 64 → AreApart low runs → AreFree place count runs → AreApart (place + count) runs
apart_after place count low [] le fits apart free = fits
apart_after place count low (run ∷ runs) le fits apart free =
    let some : 0 < length run.1.items = apart.0 in
    let room : low + length run.1.items ≤ run.0 = apart.1 in
    elim free.0 [
      | inl before ↦ absurd (omega arith)
      | inr after ↦ (some, omega arith, apart.2)
    ]

-- ---- a run inserted among others

-- no run ends at a place before all of them
no_run : (place low : ℕ) (runs : Runs) → place ≤ low → AreApart low runs → (lookup (is_at (nat_cmp place)) runs ≡ None) × (remove_entry (is_at (nat_cmp place)) runs ≡ runs)
no_run place low [] le apart = (refl, refl)
no_run place low (run ∷ runs) le apart =
    let some : 0 < length run.1.items = apart.0 in
    let room : low + length run.1.items ≤ run.0 = apart.1 in
    let later : place < run.0 = omega arith in
    let others = no_run place run.0 runs (omega arith) apart.2 in
    (rw (lt-ltb place run.0 later) others.0, rw (lt-ltb place run.0 later) (ap (λ (others : Runs). run ∷ others) others.1))

put_first : (end : ℕ) (run : Vec ℕ) (runs : Runs) → AreApart end runs → insert_entry nat_cmp runs end run ≡ (end, run) ∷ runs
put_first end run [] apart = refl
put_first end run (other ∷ runs) apart =
    let some : 0 < length other.1.items = apart.0 in
    let room : end + length other.1.items ≤ other.0 = apart.1 in
    let later : end < other.0 = omega arith in
    rw (lt-ltb end other.0 later) refl

put_later : (end : ℕ) (run : Vec ℕ) (first : ℕ × Vec ℕ) (runs : Runs) → first.0 < end → insert_entry nat_cmp (first ∷ runs) end run ≡ first ∷ insert_entry nat_cmp runs end run
put_later end run first runs later = rw (le-ltb end first.0 (omega arith), ne_eqb end first.0 (λ same. omega arith)) refl

-- a run that grew
grown : (place : ℕ) (before octets : List ℕ) (run : Vec ℕ) → run.items ≡ before ++ octets → length before ≤ place → places (place + length octets - length run.items) run.items ≡ places (place - length before) before ++ places place octets
grown place before octets run is fits =
    let first : place + length octets - length run.items ≡ place - length before = omega (arith, ap length is, length-append before octets) in
    let next : place - length before + length before ≡ place = omega arith in
    ap (λ (n : ℕ). places n run.items) first
    ∙ ap (places (place - length before)) is
    ∙ places_joined (place - length before) before octets
    ∙ ap (λ (n : ℕ). places (place - length before) before ++ places n octets) next

pub record IsPut (low place : ℕ) (octets : List ℕ) (waiting : Waiting) (new : Runs) : Type 0 where
  pub kept : waiting_in new ≡ keep place octets waiting
  pub count : length (waiting_in new) ≡ length waiting + length octets
  pub apart : AreApart low new

put_here : (low place : ℕ) (before octets : List ℕ) (run : Vec ℕ) (runs : Runs) → run.items ≡ before ++ octets → low + length before ≤ place → 0 < length octets → AreApart (place + length octets) runs → IsPut low place octets (places (place - length before) before ++ waiting_in runs) ((place + length octets, run) ∷ runs)
put_here low place before octets run runs is room some apart =
    let first : ℕ = place - length before in
    let end : ℕ = place + length octets in
    let size : length run.items ≡ length before + length octets = ap length is ∙ length-append before octets in
    record {
      kept =
          ap (λ (w : Waiting). w ++ waiting_in runs) (grown place before octets run is (omega arith))
          ∙ append_assoc (places first before) (places place octets) (waiting_in runs)
          ∙ ap (λ (w : Waiting). places first before ++ w) (sym (kept_first place octets (waiting_in runs) (apart_from end runs apart)))
          ∙ sym (kept_past first place before octets (waiting_in runs) (omega arith));
      count = omega (arith, size, length-append (places (end - length run.items) run.items) (waiting_in runs), length-append (places first before) (waiting_in runs), count_places (end - length run.items) run.items, count_places first before);
      apart = (omega arith, omega arith, apart);
    }

put_behind : (low place : ℕ) (octets : List ℕ) (first : ℕ × Vec ℕ) (runs new : Runs) → first.0 ≤ place → AreApart low (first ∷ runs) → IsPut first.0 place octets (waiting_in runs) new → IsPut low place octets (waiting_in (first ∷ runs)) (first ∷ new)
put_behind low place octets first runs new after apart put =
    let start : ℕ = first.0 - length first.1.items in
    let room : low + length first.1.items ≤ first.0 = apart.1 in
    record {
      kept =
          ap (λ (w : Waiting). places start first.1.items ++ w) put.kept
          ∙ sym (kept_past start place first.1.items octets (waiting_in runs) (omega arith));
      count = omega (arith, put.count, length-append (places start first.1.items) (waiting_in new), length-append (places start first.1.items) (waiting_in runs));
      apart = (apart.0, room, put.apart);
    }

-- the octets of the run that ends at a place
abbrev pub ends_at : ℕ → Runs → Vec ℕ → List ℕ
ends_at place runs empty = (unwrap_or (lookup (is_at (nat_cmp place)) runs) empty).items

abbrev pub put_among : ℕ → ℕ → Runs → Vec ℕ → Runs
put_among place count runs run = insert_entry nat_cmp (remove_entry (is_at (nat_cmp place)) runs) (place + count) run

put_before : (low place : ℕ) (octets : List ℕ) (first : ℕ × Vec ℕ) (runs : Runs) (run empty : Vec ℕ) → 0 < length octets → empty.items ≡ [] → run.items ≡ ends_at place runs empty ++ octets → low ≤ place → place < first.0 → AreApart low (first ∷ runs) → AreFree place (length octets) (first ∷ runs) → IsPut low place octets (waiting_in (first ∷ runs)) (insert_entry nat_cmp (first ∷ remove_entry (is_at (nat_cmp place)) runs) (place + length octets) run)
put_before low place octets first runs run empty some none is le later apart free =
    let end : ℕ = place + length octets in
    let others = no_run place first.0 runs (omega arith) apart.2 in
    let alone : run.items ≡ octets = is ∙ ap (λ (o : Option (Vec ℕ)). (unwrap_or o empty).items ++ octets) others.0 ∙ ap (λ (l : List ℕ). l ++ octets) none in
    let beyond : AreApart end (first ∷ runs) = elim free.0 [
      | inl before ↦ absurd (omega arith)
      | inr after ↦ (apart.0, omega arith, apart.2)
    ] in
    let same : insert_entry nat_cmp (first ∷ remove_entry (is_at (nat_cmp place)) runs) end run ≡ (end, run) ∷ first ∷ runs =
    ap (λ (others : Runs). insert_entry nat_cmp (first ∷ others) end run) others.1 ∙ put_first end run (first ∷ runs) beyond in
    subst (IsPut low place octets (waiting_in (first ∷ runs))) (sym same) (put_here low place [] octets run (first ∷ runs) alone (omega arith) some beyond)

put_after : (low place : ℕ) (octets : List ℕ) (first : ℕ × Vec ℕ) (runs : Runs) (run : Vec ℕ) → 0 < length octets → run.items ≡ first.1.items ++ octets → place ≡ first.0 → place + length octets < 2 ^ 64 → AreApart low (first ∷ runs) → AreFree place (length octets) (first ∷ runs) → IsPut low place octets (waiting_in (first ∷ runs)) (insert_entry nat_cmp runs (place + length octets) run)
put_after low place octets first runs run some is here fits apart free =
    let end : ℕ = place + length octets in
    let room : low + length first.1.items ≤ first.0 = apart.1 in
    let beyond : AreApart end runs = apart_after place (length octets) first.0 runs (omega arith) fits apart.2 free.1 in
    subst (IsPut low place octets (waiting_in (first ∷ runs))) (sym (put_first end run runs beyond))
    (subst (λ (n : ℕ). IsPut low place octets (places (n - length first.1.items) first.1.items ++ waiting_in runs) ((end, run) ∷ runs)) here
    (put_here low place first.1.items octets run runs is (omega arith) some beyond))

pub put_in : (low place : ℕ) (octets : List ℕ) (runs : Runs) (run empty : Vec ℕ) → 0 < length octets → empty.items ≡ [] → run.items ≡ ends_at place runs empty ++ octets → low ≤ place → place + length octets < 2 ^ 64 → AreApart low runs → AreFree place (length octets) runs → IsPut low place octets (waiting_in runs) (put_among place (length octets) runs run)
put_in low place octets [] run empty some none is le fits apart free = put_here low place [] octets run [] (is ∙ ap (λ (l : List ℕ). l ++ octets) none) (omega arith) some fits
put_in low place octets (first ∷ runs) run empty some none is le fits apart free =
    elim (nat_cmp place first.0) as (λ (r : Ordering). nat_cmp place first.0 ≡ r → run.items ≡ (unwrap_or (cond (is_eq r) (Some first.1) (lookup (is_at (nat_cmp place)) runs)) empty).items ++ octets → IsPut low place octets (waiting_in (first ∷ runs)) (insert_entry nat_cmp (cond (is_eq r) runs (first ∷ remove_entry (is_at (nat_cmp place)) runs)) (place + length octets) run)) [
      | Less ↦ λ r is. put_before low place octets first runs run empty some none is le (ranked place first.0 Less (sym r)) apart free
      | Equal ↦ λ r is. put_after low place octets first runs run some is (ranked place first.0 Equal (sym r)) fits apart free
      | Greater ↦ λ r is.
          let after : first.0 < place = ranked place first.0 Greater (sym r) in
          let others : Runs = remove_entry (is_at (nat_cmp place)) runs in
          subst (IsPut low place octets (waiting_in (first ∷ runs))) (sym (put_later (place + length octets) run first others (omega arith)))
          (put_behind low place octets first runs (insert_entry nat_cmp others (place + length octets) run) (omega arith) apart
          (put_in first.0 place octets runs run empty some none is (omega arith) fits apart.2 free.1))
    ] refl is

-- ---- a run joined with the one after it

abbrev pub is_from : ℕ → ℕ × Vec ℕ → Bool
is_from place run = range_contains nat_cmp (Included place) Unbounded run.0

not_before : (place : ℕ) (run : ℕ × Vec ℕ) → is_from place run ≡ true → place ≤ run.0
not_before place run is = grind (arith, nat_tests)

before : (place : ℕ) (run : ℕ × Vec ℕ) → is_from place run ≡ false → run.0 < place
before place run is = grind (arith, nat_tests)

pub first_from : (place : ℕ) (runs others : Runs) (run : ℕ × Vec ℕ) → filter (is_from place) runs ≡ run ∷ others → place ≤ run.0
first_from place [] others run is = cc
first_from place (first ∷ runs) others run is =
    elim (is_from place first) as (λ (b : Bool). is_from place first ≡ b → cond b (first ∷ filter (is_from place) runs) (filter (is_from place) runs) ≡ run ∷ others → place ≤ run.0) [
      | true ↦ λ test is. let same : first ≡ run = cc in subst (λ (r : ℕ × Vec ℕ). place ≤ r.0) same (not_before place first test)
      | false ↦ λ test is. first_from place runs others run is
    ] refl is

pub record IsJoined (low : ℕ) (old new : Runs) : Type 0 where
  pub same : waiting_in new ≡ waiting_in old
  pub apart : AreApart low new

put_over : (run : Vec ℕ) (first : ℕ × Vec ℕ) (runs : Runs) (place : ℕ) → place ≡ first.0 → insert_entry nat_cmp (first ∷ runs) place run ≡ (first.0, run) ∷ runs
put_over run first runs place here = rw (le-ltb place first.0 (omega arith), eq-eqb place first.0 here) refl

-- the run after it
joined_two : (low end : ℕ) (first : ℕ × Vec ℕ) (runs : Runs) (run both : Vec ℕ) → first.0 ≡ end + length first.1.items → both.items ≡ run.items ++ first.1.items → AreApart low ((end, run) ∷ first ∷ runs) → IsJoined low ((end, run) ∷ first ∷ runs) ((first.0, both) ∷ runs)
joined_two low end first runs run both next is apart =
    let room : low + length run.items ≤ end = apart.1 in
    let some : 0 < length run.items = apart.0 in
    let size : length both.items ≡ length run.items + length first.1.items = ap length is ∙ length-append run.items first.1.items in
    let start : first.0 - length both.items ≡ end - length run.items = omega arith in
    let middle : end - length run.items + length run.items ≡ first.0 - length first.1.items = omega arith in
    record {
      same =
          ap (λ (n : ℕ). places n both.items ++ waiting_in runs) start
          ∙ ap (λ (l : List ℕ). places (end - length run.items) l ++ waiting_in runs) is
          ∙ ap (λ (w : Waiting). w ++ waiting_in runs) (places_joined (end - length run.items) run.items first.1.items)
          ∙ append_assoc (places (end - length run.items) run.items) (places (end - length run.items + length run.items) first.1.items) (waiting_in runs)
          ∙ ap (λ (n : ℕ). places (end - length run.items) run.items ++ (places n first.1.items ++ waiting_in runs)) middle;
      apart = (omega arith, omega arith, apart.2.2);
    }

-- a run of no octets there
joined_one : (low end : ℕ) (first : ℕ × Vec ℕ) (runs : Runs) (run both : Vec ℕ) → first.1.items ≡ [] → both.items ≡ run.items ++ first.1.items → AreApart low ((first.0, run) ∷ runs) → IsJoined low ((first.0, run) ∷ runs) ((first.0, both) ∷ runs)
joined_one low end first runs run both none is apart =
    let all : both.items ≡ run.items = is ∙ ap (λ (l : List ℕ). run.items ++ l) none ∙ append-nil run.items in
    let some : 0 < length run.items = apart.0 in
    let room : low + length run.items ≤ first.0 = apart.1 in
    let size : length both.items ≡ length run.items = ap length all in
    record {
      same = ap (λ (l : List ℕ). places (first.0 - length l) l ++ waiting_in runs) all;
      apart = (omega arith, omega arith, apart.2);
    }

joined_here : (low end : ℕ) (first : ℕ × Vec ℕ) (runs : Runs) (run both : Vec ℕ) → first.0 ≡ end + length first.1.items → both.items ≡ run.items ++ first.1.items → AreApart low (insert_entry nat_cmp (first ∷ runs) end run) → IsJoined low (insert_entry nat_cmp (first ∷ runs) end run) (insert_entry nat_cmp (first ∷ runs) first.0 both)
joined_here low end first runs run both next is apart =
    subst (IsJoined low (insert_entry nat_cmp (first ∷ runs) end run)) (sym (put_over both first runs first.0 refl))
    (elim (cases_lt end first.0) [
      | inl later ↦
          let old : insert_entry nat_cmp (first ∷ runs) end run ≡ (end, run) ∷ first ∷ runs = rw (lt-ltb end first.0 later) refl in
          subst (λ (l : Runs). IsJoined low l ((first.0, both) ∷ runs)) (sym old) (joined_two low end first runs run both next is (subst (AreApart low) old apart))
      | inr here ↦
          let old : insert_entry nat_cmp (first ∷ runs) end run ≡ (first.0, run) ∷ runs = put_over run first runs end (omega arith) in
          subst (λ (l : Runs). IsJoined low l ((first.0, both) ∷ runs)) (sym old) (joined_one low end first runs run both (nil_from_length first.1.items (omega arith)) is (subst (AreApart low) old apart))
    ])

pub joined : (low end : ℕ) (runs others : Runs) (next : ℕ × Vec ℕ) (run both : Vec ℕ) → filter (is_from end) runs ≡ next ∷ others → next.0 ≡ end + length next.1.items → both.items ≡ run.items ++ next.1.items → AreApart low (insert_entry nat_cmp runs end run) → IsJoined low (insert_entry nat_cmp runs end run) (insert_entry nat_cmp runs next.0 both)
joined low end [] others next run both found here is apart = cc
joined low end (first ∷ runs) others next run both found here is apart =
    elim (is_from end first) as (λ (b : Bool). is_from end first ≡ b → cond b (first ∷ filter (is_from end) runs) (filter (is_from end) runs) ≡ next ∷ others → IsJoined low (insert_entry nat_cmp (first ∷ runs) end run) (insert_entry nat_cmp (first ∷ runs) next.0 both)) [
      | true ↦ λ test found.
          let same : next ≡ first = cc in
          subst (λ (r : ℕ × Vec ℕ). IsJoined low (insert_entry nat_cmp (first ∷ runs) end run) (insert_entry nat_cmp (first ∷ runs) r.0 both)) (sym same)
          (joined_here low end first runs run both (subst (λ (r : ℕ × Vec ℕ). r.0 ≡ end + length r.1.items) same here) (subst (λ (r : ℕ × Vec ℕ). both.items ≡ run.items ++ r.1.items) same is) apart)
      | false ↦ λ test found.
          let later : first.0 < end = before end first test in
          let old : insert_entry nat_cmp (first ∷ runs) end run ≡ first ∷ insert_entry nat_cmp runs end run = put_later end run first runs later in
          let new : insert_entry nat_cmp (first ∷ runs) next.0 both ≡ first ∷ insert_entry nat_cmp runs next.0 both = put_later next.0 both first runs (omega arith) in
          let parts : AreApart low (first ∷ insert_entry nat_cmp runs end run) = subst (AreApart low) old apart in
          let rest = joined first.0 end runs others next run both found here is parts.2 in
          subst (λ (l : Runs). IsJoined low l (insert_entry nat_cmp (first ∷ runs) next.0 both)) (sym old)
          (subst (IsJoined low (first ∷ insert_entry nat_cmp runs end run)) (sym new)
          (record { same = ap (λ (w : Waiting). places (first.0 - length first.1.items) first.1.items ++ w) rest.same; apart = (parts.0, parts.1, rest.apart) }))
    ] refl found

-- ---- the first run that ends after a place

abbrev pub is_past : ℕ → ℕ × Vec ℕ → Bool
is_past place run = range_contains nat_cmp (Included (place + 1)) Unbounded run.0

pub past : (place : ℕ) (run : ℕ × Vec ℕ) → is_past place run ≡ true → place < run.0
past place run is = grind (arith, nat_tests)

pub not_past : (place : ℕ) (run : ℕ × Vec ℕ) → is_past place run ≡ false → run.0 ≤ place
not_past place run is = grind (arith, nat_tests)

pub record IsFirstPast (place : ℕ) (runs : Runs) (run : ℕ × Vec ℕ) : Type 0 where
  pub past : place < run.0
  pub some : 0 < length run.1.items
  pub whole : length run.1.items ≤ run.0
  pub occupied : run.0 - length run.1.items ≤ place → AreOccupied place (run.0 - place) runs
  pub free : (count : ℕ) → place + count + length run.1.items ≤ run.0 → AreFree place count runs

past_here : (place low : ℕ) (first : ℕ × Vec ℕ) (runs : Runs) → AreApart low (first ∷ runs) → place < first.0 → IsFirstPast place (first ∷ runs) first
past_here place low first runs apart past =
    let room : low + length first.1.items ≤ first.0 = apart.1 in
    record {
      past = past;
      some = apart.0;
      whole = omega arith;
      occupied = λ within octets few. kept_within (first.0 - length first.1.items) place first.1.items octets (waiting_in runs) within (omega arith);
      free = λ count after. (inr after, free_before place count first.0 runs (omega arith) apart.2);
    }

past_later : (place low : ℕ) (first run : ℕ × Vec ℕ) (runs : Runs) → AreApart low (first ∷ runs) → first.0 ≤ place → IsFirstPast place runs run → IsFirstPast place (first ∷ runs) run
past_later place low first run runs apart before next =
    let room : low + length first.1.items ≤ first.0 = apart.1 in
    let start : ℕ = first.0 - length first.1.items in
    record {
      past = next.past;
      some = next.some;
      whole = next.whole;
      occupied = λ within octets few.
          kept_past start place first.1.items octets (waiting_in runs) (omega arith)
          ∙ ap (λ (w : Waiting). places start first.1.items ++ w) (next.occupied within octets few);
      free = λ count after. (inl before, next.free count after);
    }

pub first_past : (place low : ℕ) (runs others : Runs) (run : ℕ × Vec ℕ) → AreApart low runs → filter (is_past place) runs ≡ run ∷ others → IsFirstPast place runs run
first_past place low [] others run apart is = cc
first_past place low (first ∷ runs) others run apart is =
    elim (is_past place first) as (λ (b : Bool). is_past place first ≡ b → cond b (first ∷ filter (is_past place) runs) (filter (is_past place) runs) ≡ run ∷ others → IsFirstPast place (first ∷ runs) run) [
      | true ↦ λ test is.
          let same : first ≡ run = cc in
          subst (IsFirstPast place (first ∷ runs)) same (past_here place low first runs apart (past place first test))
      | false ↦ λ test is. past_later place low first run runs apart (not_past place first test) (first_past place first.0 runs others run apart.2 is)
    ] refl is

pub none_past : (place count : ℕ) (runs : Runs) → filter (is_past place) runs ≡ [] → AreFree place count runs
none_past place count [] is = tt
none_past place count (first ∷ runs) is =
    elim (is_past place first) as (λ (b : Bool). is_past place first ≡ b → cond b (first ∷ filter (is_past place) runs) (filter (is_past place) runs) ≡ [] → AreFree place count (first ∷ runs)) [
      | true ↦ λ test is. cc
      | false ↦ λ test is. (inl (not_past place first test), none_past place count runs is)
    ] refl is

-- ---- the first run

pub first_place_is : (low : ℕ) (runs : Runs) (run : ℕ × Vec ℕ) → AreApart low runs → slice_get runs 0 ≡ Some run → option_map (λ entry. entry.0) (slice_get (waiting_in runs) 0) ≡ Some (run.0 - length run.1.items)
first_place_is low [] run apart is = cc
first_place_is low (first ∷ runs) run apart is =
    let same : first ≡ run = cc in
    first_of (first.0 - length first.1.items) first.1.items apart.0
    ∙ ap (λ (r : ℕ × Vec ℕ). Some (r.0 - length r.1.items)) same
  where
    first_of : (start : ℕ) (octets : List ℕ) → 0 < length octets → option_map (λ entry. entry.0) (slice_get (places start octets ++ waiting_in runs) 0) ≡ Some start
    first_of start [] some = absurd (omega arith)
    first_of start (octet ∷ octets) some = refl

pub first_fits : (low : ℕ) (runs : Runs) (run : ℕ × Vec ℕ) → AreApart low runs → slice_get runs 0 ≡ Some run → length run.1.items ≤ run.0
first_fits low [] run apart is = cc
first_fits low (first ∷ runs) run apart is =
    let same : first ≡ run = cc in
    let room : low + length first.1.items ≤ first.0 = apart.1 in
    subst (λ (r : ℕ × Vec ℕ). length r.1.items ≤ r.0) same (omega arith)

pub from_first : (low : ℕ) (runs : Runs) (run : ℕ × Vec ℕ) → AreApart low runs → slice_get runs 0 ≡ Some run → IsFrom (run.0 - length run.1.items) (waiting_in runs)
from_first low [] run apart is = cc
from_first low (first ∷ runs) run apart is =
    let same : first ≡ run = cc in
    let room : low + length first.1.items ≤ first.0 = apart.1 in
    subst (λ (r : ℕ × Vec ℕ). IsFrom (r.0 - length r.1.items) (waiting_in (first ∷ runs))) same (apart_from (first.0 - length first.1.items) (first ∷ runs) (apart.0, omega arith, apart.2))

-- the octets that are ready, if a run begins at the place expected
ready_run : (place : ℕ) (run : List ℕ) (waiting : Waiting) → ready place (places place run ++ waiting) ≡ run ++ ready (place + length run) waiting
ready_run place [] waiting = rw (add-zero place) refl
ready_run place (octet ∷ run) waiting =
    ready_at place octet (places (place + 1) run ++ waiting)
    ∙ ap (λ (octets : List ℕ). octet ∷ octets) (ready_run (place + 1) run waiting)
    ∙ ap (λ (n : ℕ). octet ∷ (run ++ ready n waiting)) (next_place place (length run))

early_run : (place : ℕ) (run : List ℕ) (waiting : Waiting) → early place (places place run ++ waiting) ≡ early (place + length run) waiting
early_run place [] waiting = rw (add-zero place) refl
early_run place (octet ∷ run) waiting =
    early_at place octet (places (place + 1) run ++ waiting)
    ∙ early_run (place + 1) run waiting
    ∙ ap (λ (n : ℕ). early n waiting) (next_place place (length run))

-- The first run is ready, and then those after it.
pub record GoesOut (expected : ℕ) (run : Vec ℕ) (old new : Runs) : Type 0 where
  pub ready : ready expected (waiting_in old) ≡ run.items ++ ready (expected + length run.items) (waiting_in new)
  pub early : early expected (waiting_in old) ≡ early (expected + length run.items) (waiting_in new)
  pub count : length (waiting_in old) ≡ length run.items + length (waiting_in new)
  pub apart : AreApart 0 new

apart_lower : (low lower : ℕ) (runs : Runs) → lower ≤ low → AreApart low runs → AreApart lower runs
apart_lower low lower [] le apart = omega arith
apart_lower low lower (run ∷ runs) le apart =
    let room : low + length run.1.items ≤ run.0 = apart.1 in
    (apart.0, omega arith, apart.2)

goes_out : (expected : ℕ) (run : ℕ × Vec ℕ) (runs : Runs) → AreApart 0 (run ∷ runs) → run.0 - length run.1.items ≡ expected → GoesOut expected run.1 (run ∷ runs) runs
goes_out expected run runs apart here =
    let start : ℕ = run.0 - length run.1.items in
    record {
      ready = subst (λ (n : ℕ). ready n (waiting_in (run ∷ runs)) ≡ run.1.items ++ ready (n + length run.1.items) (waiting_in runs)) here (ready_run start run.1.items (waiting_in runs));
      early = subst (λ (n : ℕ). early n (waiting_in (run ∷ runs)) ≡ early (n + length run.1.items) (waiting_in runs)) here (early_run start run.1.items (waiting_in runs));
      count = omega (arith, length-append (places start run.1.items) (waiting_in runs), count_places start run.1.items);
      apart = apart_lower run.0 0 runs (omega arith) apart.2;
    }

-- the runs after `pop_first`
popped : (old new : Runs) (first : Option (ℕ × Vec ℕ)) (run : ℕ × Vec ℕ) → slice_get old 0 ≡ Some run → (0 < length old → IsSome first) → IfSome first (λ p. old ≡ p ∷ new) → old ≡ run ∷ new
popped [] new first run is some removal = cc
popped (head ∷ old) new None run is some removal = let none = some (omega arith) in cc
popped (head ∷ old) new (Some p) run is some removal =
    let here : Some p ≡ Some run = ap (λ (l : Runs). slice_get l 0) (sym removal) ∙ is in
    let same : p ≡ run = cc in
    removal ∙ ap (λ (q : ℕ × Vec ℕ). q ∷ new) same

pub pops_out : (expected : ℕ) (old new : Runs) (first : Option (ℕ × Vec ℕ)) (run : ℕ × Vec ℕ) → AreApart 0 old → slice_get old 0 ≡ Some run → (0 < length old → IsSome first) → IfSome first (λ p. old ≡ p ∷ new) → run.0 - length run.1.items ≡ expected → GoesOut expected run.1 old new
pops_out expected old new first run apart is some removal here =
    let all : old ≡ run ∷ new = popped old new first run is some removal in
    subst (λ (l : Runs). GoesOut expected run.1 l new) (sym all) (goes_out expected run new (subst (AreApart 0) all apart) here)

-- the first run follows what was released
pub released_more : (expected : ℕ) (before run after : List ℕ) (old new : Runs) (v : Vec ℕ) → v.items ≡ run → after ≡ before ++ run → GoesOut (expected + length before) v old new → (after ++ ready (expected + length after) (waiting_in new) ≡ before ++ ready (expected + length before) (waiting_in old)) × (early (expected + length after) (waiting_in new) ≡ early (expected + length before) (waiting_in old))
released_more expected before run after old new v same is goes =
    let next : expected + length after ≡ expected + length before + length v.items = omega (arith, ap length is, ap length same, length-append before run) in (
      ap (λ (n : ℕ). after ++ ready n (waiting_in new)) next
          ∙ ap (λ (l : List ℕ). l ++ ready (expected + length before + length v.items) (waiting_in new)) (is ∙ ap (λ (l : List ℕ). before ++ l) (sym same))
          ∙ append_assoc before v.items (ready (expected + length before + length v.items) (waiting_in new))
          ∙ ap (λ (l : List ℕ). before ++ l) (sym goes.ready),
      ap (λ (n : ℕ). early n (waiting_in new)) next ∙ sym goes.early,
    )

-- or it does not
pub goes_on_waiting : (expected low : ℕ) (runs : Runs) (run : ℕ × Vec ℕ) → AreApart low runs → slice_get runs 0 ≡ Some run → (run.0 - length run.1.items ≡ expected → ⊥) → (ready expected (waiting_in runs) ≡ []) × (early expected (waiting_in runs) ≡ waiting_in runs)
goes_on_waiting expected low [] run apart is other = cc
goes_on_waiting expected low (first ∷ runs) run apart is other =
    let same : first ≡ run = cc in
    stops_at (first.0 - length first.1.items) first.1.items apart.0 (λ here. other (ap (λ (r : ℕ × Vec ℕ). r.0 - length r.1.items) (sym same) ∙ here))
  where
    stops_at : (start : ℕ) (octets : List ℕ) → 0 < length octets → (start ≡ expected → ⊥) → (ready expected (places start octets ++ waiting_in runs) ≡ []) × (early expected (places start octets ++ waiting_in runs) ≡ places start octets ++ waiting_in runs)
    stops_at start [] some other = absurd (omega arith)
    stops_at start (octet ∷ octets) some other = (rw (ne_eqb start expected other) refl, rw (ne_eqb start expected other) refl)
