-- A fault is at the octet of the step, and there are at least two octets for each mark.
use Rattle.std.proofs.Common.{◌≡◌, ℕ, pos, ◌+◌, ◌-◌, ◌*◌, ◌<◌, ◌≤◌, Bool, true, false, ◌&&◌, ◌==◌, nat_lt, if◌then◌else◌, List, [], ◌∷◌, ◌++◌, length, Some, None, refl, sym, arith, subst}
use Rattle.std.proofs.lemmas.List.{length-append}
use Rattle.krb_der.specs.Octets.{integer_value}
use Rattle.krb_der.specs.declared.why.Why.{Why}
use Rattle.krb_der.specs.declared.why.Why.TheVariants as why
use Rattle.krb_msg.specs.Term.{Term, Integer, Bits}
use Rattle.krb_msg.specs.Judgement.{Outcome, Open, Bad, Done, Head, Partial, Refused, Got, head, has_size, int_le}
use Rattle.krb_scan.specs.Scan.{Mark, Expected, Container, Tip, Between, InHead, InLeaf, State, limit, sole_in, container_of, mark_of, with_mark, leaf_outcome, leaf_value, Answer, Ongoing, Refusing, Whole, scan, scanned, scanned_at}
use Rattle.krb_scan.specs.inner.Machine.{Pick, pick, requires_item, settle, leafed, in_leaf, opened, enter, headed, tagged, picked, step_between, step_at, step, go_on, initial}
use Rattle.krb_scan.proofs.Basics.{enters_holds, when_holds, when_knows}
use Rattle.krb_scan.proofs.Stable.{IsPartial, Counts, leaf_counts}
use Rattle.krb_scan.proofs.Numbers.{both, IsFaultAt, leaf_fault_at, IsHeadFaultAt, head_fault_at}
use Rattle.krb_scan.proofs.Resume.{IsReached, Reached, ReachedAnswer, HasRoom, step_reached, run, run_scan, initial_reached}

-- the marks are no more than half of the octets before the tip
abbrev pub IsMarked : Tip → List Mark → Type 0
IsMarked (Between place) marks = 2 * length marks ≤ place
IsMarked (InHead term from octets) marks = (2 * length marks ≤ from) × (0 < length octets)
IsMarked (InLeaf term start count octets) marks = 2 * (length marks + 1) ≤ start

abbrev pub PlacedAnswer : ℕ → Answer → Type 0
PlacedAnswer before (Ongoing state) = (scanned state ≡ before + 1) × IsMarked state.tip state.marks
PlacedAnswer before (Refusing place reason) = place ≡ before
PlacedAnswer before (Whole marks) = 2 * length marks ≤ before + 1

-- the answer after an octet that comes after a number of them
pub record IsPlaced (before : ℕ) (given : Answer) : Type 0 where
  pub placed : PlacedAnswer before given

refusing_placed : (before place : ℕ) (reason : Why) → place ≡ before → IsPlaced before (Refusing place reason)
refusing_placed before place reason e = record { placed = e }

settle_placed : (before : ℕ) (stack : List Container) (marks : List Mark) (place : ℕ) → place ≡ before + 1 → 2 * length marks ≤ place → IsPlaced before (settle stack marks place)
settle_placed before [] marks place e h = record { placed = omega arith }
settle_placed before (container ∷ outer) marks place e h =
    when_holds (IsPlaced before) (nat_lt place container.end) _ _ (record { placed = (e, h) })
    (when_holds (IsPlaced before) (requires_item container.expected) _ _ (refusing_placed before (place - 1) why.Missing (omega arith)) (settle_placed before outer marks place e h))

mark_more : (marks : List Mark) (mark : Mark) → length (marks ++ mark ∷ []) ≡ length marks + 1
mark_more marks mark = omega (arith, length-append marks (mark ∷ []))

-- a leaf with an octet more
leafed_placed : (before seen : ℕ) (outcome : Outcome) (term : Term) (start count : ℕ) (stack : List Container) (marks : List Mark) (octets : List ℕ) → start + seen ≡ before → length octets ≡ seen + 1 → 2 * (length marks + 1) ≤ start → IsFaultAt seen outcome → Counts count (seen + 1) outcome → seen < count →
    IsPlaced before (leafed outcome term start count stack marks octets)
leafed_placed before seen Open term start count stack marks octets e f m fault counts h = record { placed = (omega arith, m) }
leafed_placed before seen (Bad offset reason) term start count stack marks octets e f m fault counts h = let at : offset ≡ seen = fault.at in refusing_placed before (start + offset) reason (omega arith)
leafed_placed before seen (Done total) term start count stack marks octets e f m fault counts h =
    settle_placed before stack _ (start + count) (omega arith) (omega (arith, mark_more marks (mark_of term start count (leaf_value term octets))))

abbrev pub IsFaultless : Outcome → Type 0
IsFaultless (Bad offset reason) = ⊥
IsFaultless other = Unit {0}

any_faultless : (b : Bool) (count : ℕ) → IsFaultless (if b then Open else Done count)
any_faultless true count = tt {0}
any_faultless false count = tt {0}

-- no leaf is refused before its first octet
none_faultless : (term : Term) (count : ℕ) → has_size term count ≡ true → IsFaultless (leaf_outcome term count [])
none_faultless (Integer low high) count h = by_some (nat_lt 0 count) (both (nat_lt 0 count) _ h)
  where
    by_some : (b : Bool) → b ≡ true → IsFaultless (if b then Open else if int_le low (integer_value []) && int_le (integer_value []) high then Done count else Bad (count - 1) why.Range)
    by_some true e = tt {0}
    by_some false e = cc
none_faultless (Bits least) count h = tt {0}
none_faultless other count h = any_faultless (nat_lt 0 count) count

-- a leaf that is entered
entered_placed : (before : ℕ) (outcome : Outcome) (term : Term) (start count : ℕ) (stack : List Container) (marks : List Mark) → start ≡ before + 1 → 2 * (length marks + 1) ≤ start → IsFaultless outcome → Counts count 0 outcome →
    IsPlaced before (leafed outcome term start count stack marks [])
entered_placed before Open term start count stack marks e m fault counts = record { placed = (omega arith, m) }
entered_placed before (Bad offset reason) term start count stack marks e m fault counts = absurd fault
entered_placed before (Done total) term start count stack marks e m fault counts =
    settle_placed before stack _ (start + count) (omega arith) (omega (arith, mark_more marks (mark_of term start count (leaf_value term []))))

in_leaf_placed : (before : ℕ) (term : Term) (start count : ℕ) (stack : List Container) (marks : List Mark) → has_size term count ≡ true → start ≡ before + 1 → 2 * (length marks + 1) ≤ start → IsPlaced before (in_leaf term start count stack marks [])
in_leaf_placed before term start count stack marks size e m = entered_placed before (leaf_outcome term count []) term start count stack marks e m (none_faultless term count size) (leaf_counts term count [] size)

opened_placed : (before : ℕ) (term : Term) (expected : Expected) (start count : ℕ) (stack : List Container) (marks : List Mark) → start ≡ before + 1 → 2 * (length marks + 1) ≤ start → IsPlaced before (opened term expected start count stack marks)
opened_placed before term expected start count stack marks e m = settle_placed before (container_of (start + count) expected ∷ stack) (with_mark marks term start count) start e (omega (arith, mark_more marks (mark_of term start count (pos 0))))

enter_placed : (before : ℕ) (term : Term) (start count : ℕ) (stack : List Container) (marks : List Mark) → has_size term count ≡ true → start ≡ before + 1 → 2 * (length marks + 1) ≤ start → IsPlaced before (enter term start count stack marks)
enter_placed before term start count stack marks size e m =
    enters_holds (IsPlaced before) term start count stack marks (in_leaf_placed before term start count stack marks size e m) (λ expected. opened_placed before term expected start count stack marks e m)

-- a header with an octet more
headed_placed : (before present : ℕ) (got : Head) (term : Term) (stack : List Container) (marks : List Mark) (from : ℕ) (octets : List ℕ) → from + present ≡ before → 0 < present → length octets ≡ present + 1 → 2 * length marks ≤ from → IsHeadFaultAt present got →
    IsPlaced before (headed got term stack marks from octets)
headed_placed before present Partial term stack marks from octets e p f m fault = record { placed = (omega arith, (m, omega arith)) }
headed_placed before present (Refused offset reason) term stack marks from octets e p f m fault = let at : offset ≡ present = fault.at in refusing_placed before (from + offset) reason (omega arith)
headed_placed before present (Got header count) term stack marks from octets e p f m fault =
    let at : header ≡ present + 1 = fault.at in
    when_holds (IsPlaced before) (sole_in stack && nat_lt (header + count) (limit stack - from)) _ _ (refusing_placed before (from + header - 1) why.Loose (omega arith))
    (when_knows (IsPlaced before) (has_size term count) _ _ (λ size. enter_placed before term (from + header) count stack marks size (omega arith) (omega arith)) (λ size. refusing_placed before (from + header - 1) why.Size (omega arith)))

tagged_placed : (before : ℕ) (term : Term) (stack : List Container) (marks : List Mark) (from octet : ℕ) → from ≡ before → 2 * length marks ≤ from → IsPlaced before (tagged term stack marks from octet)
tagged_placed before term stack marks from octet e m =
    when_holds (IsPlaced before) (limit stack - from == 1) _ _ (refusing_placed before from why.Overrun e) (record { placed = (omega arith, (m, omega arith)) })

-- A step scans one octet, and what it refuses is that octet.
pub step_placed : (state : State) (octet : ℕ) → Reached state → IsMarked state.tip state.marks → IsPlaced (scanned state) (step state octet)
step_placed state octet h m = by_tip state.tip h.at m
  where
    by_choice : (choice : Pick) (end : ℕ) (outer : List Container) (place : ℕ) → 2 * length state.marks ≤ place → IsPlaced place (picked choice end outer state.marks place octet)
    by_choice None end outer place k = refusing_placed place place why.Tag refl
    by_choice (Some choice) end outer place k = tagged_placed place choice.0 (container_of end choice.1 ∷ outer) state.marks place octet refl k

    by_stack : (stack : List Container) (place : ℕ) → HasRoom place stack → 2 * length state.marks ≤ place → IsPlaced place (step_between stack state.marks place octet)
    by_stack [] place r k = absurd r
    by_stack (container ∷ outer) place r k = by_choice (pick octet container.expected) container.end outer place k

    push : (octets : List ℕ) → length (octets ++ octet ∷ []) ≡ length octets + 1
    push octets = omega (arith, length-append octets (octet ∷ []))

    by_tip : (tip : Tip) → IsReached tip state.stack state.marks → IsMarked tip state.marks → IsPlaced (scanned_at tip) (step_at tip state.stack state.marks octet)
    by_tip (Between place) k marked = by_stack state.stack place k marked
    by_tip (InHead term from octets) k marked =
        let partial : IsPartial (head (limit state.stack - from) octets) = rw k (tt {0}) in
        headed_placed (from + length octets) (length octets) (head (limit state.stack - from) (octets ++ octet ∷ [])) term state.stack state.marks from (octets ++ octet ∷ []) refl marked.1 (push octets) marked.0 (head_fault_at (limit state.stack - from) octets octet marked.1 partial)
    by_tip (InLeaf term start count octets) k marked =
        let counts : Counts count (length octets) (leaf_outcome term count octets) = leaf_counts term count octets k.0 in
        let short : length octets < count = rw k.1 at counts in
        let more : Counts count (length (octets ++ octet ∷ [])) (leaf_outcome term count (octets ++ octet ∷ [])) = leaf_counts term count (octets ++ octet ∷ []) k.0 in
        leafed_placed (start + length octets) (length octets) (leaf_outcome term count (octets ++ octet ∷ [])) term start count state.stack state.marks (octets ++ octet ∷ []) refl (push octets) marked (leaf_fault_at term count octets octet k.1 short)
        (subst (λ present. Counts count present (leaf_outcome term count (octets ++ octet ∷ []))) (push octets) more) short

-- the answer after a number of octets
abbrev pub Placed : ℕ → Answer → Type 0
Placed count (Ongoing state) = (scanned state ≡ count) × IsMarked state.tip state.marks
Placed count (Refusing place reason) = place < count
Placed count (Whole marks) = 2 * length marks ≤ count

run_placed : (state : State) (octets : List ℕ) → Reached state → IsMarked state.tip state.marks → Placed (scanned state + length octets) (run state octets)
run_placed state [] h m = (omega arith, m)
run_placed state (octet ∷ octets) h m = by_answer (step state octet) (step_reached state octet h) (step_placed state octet h m) (λ then_state k w. run_placed then_state octets k w)
  where
    by_answer : (given : Answer) → ReachedAnswer given → IsPlaced (scanned state) given → ((then_state : State) → Reached then_state → IsMarked then_state.tip then_state.marks → Placed (scanned then_state + length octets) (run then_state octets)) →
        Placed (scanned state + length (octet ∷ octets)) (go_on given (λ then_state. run then_state octets))
    by_answer (Ongoing then_state) r p k =
        let at : scanned then_state ≡ scanned state + 1 = p.placed.0 in
        let same : scanned then_state + length octets ≡ scanned state + length (octet ∷ octets) = omega arith in
        subst (λ count. Placed count (run then_state octets)) same (k then_state r.reached p.placed.1)
    by_answer (Refusing place reason) r p k = let at : place ≡ scanned state = p.placed in omega arith
    by_answer (Whole marks) r p k = let le : 2 * length marks ≤ scanned state + 1 = p.placed in omega arith

-- If a scan goes on, all its octets were scanned; a refused octet is one of them; and twice the number of marks is at most theirs.
pub scan_placed : (terms : List Term) (n : ℕ) (octets : List ℕ) → 0 < n → Placed (length octets) (scan terms n octets)
scan_placed terms n octets some =
    let zero_more : 0 + length octets ≡ length octets = omega arith in
    let of_run : Placed (length octets) (run (initial terms n) octets) = subst (λ count. Placed count (run (initial terms n) octets)) zero_more (run_placed (initial terms n) octets (initial_reached terms n some) (omega arith)) in
    subst (Placed (length octets)) (sym (run_scan terms n octets some)) of_run
