-- The octets that wait in runs, found by their places.
use Rattle.std.proofs.Common.{◌≡◌, ℕ, zero, suc, ◌+◌, ◌-◌, ◌<◌, ◌≤◌, ◌⊎◌, inl, inr, Bool, true, false, not, Option, Some, None, List, [], ◌∷◌, ◌++◌, length, take, drop, get_or, cond, refl, sym, ap, ap₂, subst, ◌∙◌, arith, drop-cons, length-drop}
use Rattle.std.specs.Prelude.{◌==◌, if◌then◌else◌, slice_get}
use Rattle.std.specs.Global.{Vec}
use Rattle.std.specs.List.{filter}
use Rattle.std.specs.Ordering.{nat_cmp}
use Rattle.std.specs.Map.{lookup}
use Rattle.std.specs.BTreeMap.{is_at}
use Rattle.std.proofs.lemmas.List.{take_rest}
use Rattle.std.proofs.lemmas.Bool.{lt-ltb, le-ltb, eq-eqb, ne_eqb, cases_lt}
use Rattle.krb_flow.specs.Copies.{differing, differs_waiting, is_other}
use Rattle.krb_flow.specs.Waiting.{Waiting}
use Rattle.krb_flow.specs.inner.Runs.{Runs, AreApart, AreFree, places, waiting_in}
use Rattle.krb_flow.specs.inner.Unequal.{unequal}
use Rattle.krb_flow.proofs.Differences.{differing_none, differing_same, unequal_taken}
use Rattle.krb_flow.proofs.Runs.{is_past, not_past, past}

abbrev at : ℕ → Waiting → Option ℕ
at place waiting = lookup (is_at (nat_cmp place)) waiting

-- past a run
found_past : (first place : ℕ) (run : List ℕ) (waiting : Waiting) → first + length run ≤ place → at place (places first run ++ waiting) ≡ at place waiting
found_past first place [] waiting after = refl
found_past first place (octet ∷ run) waiting after =
    rw (le-ltb place first (omega arith), ne_eqb place first (λ same. omega arith)) (found_past (first + 1) place run waiting (omega arith))

-- in a run
found_within : (first place : ℕ) (run : List ℕ) (waiting : Waiting) → first ≤ place → place < first + length run → at place (places first run ++ waiting) ≡ Some (get_or run (place - first) 0)
found_within first place [] waiting after before = absurd (omega arith)
found_within first place (octet ∷ run) waiting after before =
    elim (cases_lt first place) as (λ _. at place (places first (octet ∷ run) ++ waiting) ≡ Some (get_or (octet ∷ run) (place - first) 0)) [
      | inl later ↦
          let there : place - first ≡ suc (place - (first + 1)) = omega arith in
          rw (le-ltb place first (omega arith), ne_eqb place first (λ same. omega arith), there) (found_within (first + 1) place run waiting (omega arith) (omega arith))
      | inr here ↦
          let none : place - first ≡ 0 = omega arith in
          rw (le-ltb place first (omega arith), eq-eqb place first (omega arith), none) refl
    ]

-- before a run
outside : (place first : ℕ) (octets : List ℕ) (waiting : Waiting) → place < first → at place waiting ≡ None → at place (places first octets ++ waiting) ≡ None
outside place first [] waiting less none = none
outside place first (octet ∷ octets) waiting less none = rw (lt-ltb place first less) (outside place (first + 1) octets waiting (omega arith) none)

-- before all runs
found_before : (place low : ℕ) (runs : Runs) → place < low → AreApart low runs → at place (waiting_in runs) ≡ None
found_before place low [] before apart = refl
found_before place low (run ∷ runs) before apart =
    let room : low + length run.1.items ≤ run.0 = apart.1 in
    outside place (run.0 - length run.1.items) run.1.items (waiting_in runs) (omega arith) (found_before place run.0 runs (omega arith) apart.2)

-- at free places
pub found_free : (place count low : ℕ) (runs : Runs) → AreApart low runs → AreFree place count runs → (there : ℕ) → place ≤ there → there < place + count → at there (waiting_in runs) ≡ None
found_free place count low [] apart free there after before = refl
found_free place count low (run ∷ runs) apart free there after before =
    let room : low + length run.1.items ≤ run.0 = apart.1 in
    elim free.0 [
      | inl gone ↦ found_past (run.0 - length run.1.items) there run.1.items (waiting_in runs) (omega arith) ∙ found_free place count run.0 runs apart.2 free.1 there after before
      | inr later ↦ found_before there (run.0 - length run.1.items) (run ∷ runs) (omega arith) (apart.0, omega arith, apart.2)
    ]

pub differing_free : (place count low : ℕ) (runs : Runs) (octets : List ℕ) → AreApart low runs → AreFree place count runs → length octets ≤ count → differing (differs_waiting (waiting_in runs)) place octets ≡ []
differing_free place count low runs octets apart free few =
    differing_none (differs_waiting (waiting_in runs)) place octets (λ there octet after before. ap (λ (o : Option ℕ). is_other o octet) (found_free place count low runs apart free there after (omega arith)))

-- octets that differ from those of a run
within_run : (waiting : Waiting) (first place a : ℕ) (run octets : List ℕ) → first ≤ place → a ≡ place - first → a + length octets ≤ length run → differing (differs_waiting (places first run ++ waiting)) place octets ≡ unequal place octets (drop a run)
within_run waiting first place a run [] after is few = refl
within_run waiting first place a run (octet ∷ octets) after is few =
    let cons : drop a run ≡ get_or run a 0 ∷ drop (suc a) run = drop-cons run a 0 (omega arith) in
    ap (λ (o : Option ℕ). if is_other o octet then place ∷ differing (differs_waiting (places first run ++ waiting)) (place + 1) octets else differing (differs_waiting (places first run ++ waiting)) (place + 1) octets) (found_within first place run waiting after (omega arith) ∙ ap (λ (n : ℕ). Some (get_or run n 0)) (sym is))
    ∙ ap (λ (l : List ℕ). if not (octet == get_or run a 0) then place ∷ l else l) (within_run waiting first (place + 1) (suc a) run octets (omega arith) (omega arith) (omega arith))
    ∙ flipped (octet == get_or run a 0)
    ∙ ap (unequal place (octet ∷ octets)) (sym cons)
  where
    flipped : (b : Bool) → (if not b then place ∷ unequal (place + 1) octets (drop (suc a) run) else unequal (place + 1) octets (drop (suc a) run)) ≡ (if b then unequal (place + 1) octets (drop (suc a) run) else place ∷ unequal (place + 1) octets (drop (suc a) run))
    flipped true = refl
    flipped false = refl

-- the first run that ends past a place: octets from there on differ where they are unequal to its octets
unfoldable pub FoundIn : ℕ → ℕ × Vec ℕ → Runs → Type 0
FoundIn place run runs = (octets : List ℕ) → place + length octets ≤ run.0 → differing (differs_waiting (waiting_in runs)) place octets ≡ unequal place octets (drop (place - (run.0 - length run.1.items)) run.1.items)

pub found_in : (place low : ℕ) (runs others : Runs) (run : ℕ × Vec ℕ) → AreApart low runs → filter (is_past place) runs ≡ run ∷ others → run.0 - length run.1.items ≤ place → FoundIn place run runs
unfolding FoundIn
found_in place low [] others run apart is first = cc
found_in place low (one ∷ runs) others run apart is first =
    elim (is_past place one) as (λ (b : Bool). is_past place one ≡ b → cond b (one ∷ filter (is_past place) runs) (filter (is_past place) runs) ≡ run ∷ others → FoundIn place run (one ∷ runs)) [
      | true ↦ λ test is.
          let same : one ≡ run = cc in
          subst (λ (r : ℕ × Vec ℕ). FoundIn place r (one ∷ runs)) same (here (past place one test) (subst (λ (r : ℕ × Vec ℕ). r.0 - length r.1.items ≤ place) (sym same) first))
      | false ↦ λ test is. later (not_past place one test) (found_in place one.0 runs others run apart.2 is first)
    ] refl is
  where
    room : low + length one.1.items ≤ one.0
    room = apart.1

    here : place < one.0 → one.0 - length one.1.items ≤ place → (octets : List ℕ) → place + length octets ≤ one.0 → differing (differs_waiting (waiting_in (one ∷ runs))) place octets ≡ unequal place octets (drop (place - (one.0 - length one.1.items)) one.1.items)
    here past from octets few = within_run (waiting_in runs) (one.0 - length one.1.items) place (place - (one.0 - length one.1.items)) one.1.items octets from refl (omega (arith, room))

    later : one.0 ≤ place → FoundIn place run runs → (octets : List ℕ) → place + length octets ≤ run.0 → differing (differs_waiting (waiting_in (one ∷ runs))) place octets ≡ unequal place octets (drop (place - (run.0 - length run.1.items)) run.1.items)
    later before next octets few =
        differing_same (differs_waiting (waiting_in (one ∷ runs))) (differs_waiting (waiting_in runs)) place octets (λ there octet after within. ap (λ (o : Option ℕ). is_other o octet) (found_past (one.0 - length one.1.items) there one.1.items (waiting_in runs) (omega (arith, room))))
        ∙ next octets few

-- the octets of that run from the place on
pub found_slice : (place low len : ℕ) (runs others : Runs) (run : ℕ × Vec ℕ) (here : List ℕ) → AreApart low runs → filter (is_past place) runs ≡ run ∷ others → len ≡ length run.1.items → here ≡ run.1.items → run.0 - len ≤ place → place < run.0 → length run.1.items ≤ run.0 → (0 < length (take (length here - (place - (run.0 - len))) (drop (place - (run.0 - len)) here))) × ((octets : List ℕ) → length octets ≤ length (take (length here - (place - (run.0 - len))) (drop (place - (run.0 - len)) here)) → differing (differs_waiting (waiting_in runs)) place octets ≡ unequal place octets (take (length octets) (take (length here - (place - (run.0 - len))) (drop (place - (run.0 - len)) here))))
unfolding FoundIn
found_slice place low len runs others run here apart is len_is here_is after before whole =
    let a : ℕ = place - (run.0 - len) in
    let whole_is : length here ≡ length run.1.items = ap (λ (l : List ℕ). length l) here_is in
    let left : length (drop a here) ≡ length here - a = length-drop a here in
    let from : run.0 - length run.1.items ≤ place = omega arith in
    let found : FoundIn place run runs = found_in place low runs others run apart is from in
    rw (take_rest here a) (omega arith, λ octets few. differs_there octets (found octets (omega arith)))
  where
    differs_there : (octets : List ℕ) → differing (differs_waiting (waiting_in runs)) place octets ≡ unequal place octets (drop (place - (run.0 - length run.1.items)) run.1.items) → differing (differs_waiting (waiting_in runs)) place octets ≡ unequal place octets (take (length octets) (drop (place - (run.0 - len)) here))
    differs_there octets e =
        e
        ∙ ap₂ (λ (n : ℕ) (l : List ℕ). unequal place octets (drop (place - (run.0 - n)) l)) (sym len_is) (sym here_is)
        ∙ sym (unequal_taken place octets (drop (place - (run.0 - len)) here))

-- if none waits
pub differing_nothing : (waiting : Waiting) (place : ℕ) (octets : List ℕ) → length waiting ≡ 0 → differing (differs_waiting waiting) place octets ≡ []
differing_nothing [] place octets none = differing_none (differs_waiting []) place octets (λ there octet after before. refl)
differing_nothing (entry ∷ waiting) place octets none = absurd (omega arith)
