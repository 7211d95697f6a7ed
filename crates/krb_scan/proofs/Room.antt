-- A message that is open has octets to come.
use Rattle.std.proofs.Common.{◌≡◌, ℕ, ◌+◌, ◌-◌, ◌<◌, ◌≤◌, true, ◌&&◌, ◌==◌, nat_lt, List, [], ◌∷◌, ◌++◌, length, Some, None, refl, sym, subst, arith, le_trans}
use Rattle.std.proofs.lemmas.List.{length-append}
use Rattle.std.proofs.lemmas.Bool.{eqb-false, ltb-true}
use Rattle.krb_der.specs.declared.why.Why.{Why}
use Rattle.krb_der.specs.declared.why.Why.TheVariants as why
use Rattle.krb_msg.specs.Term.{Term}
use Rattle.krb_msg.specs.Judgement.{Outcome, Open, Bad, Done, Head, Partial, Refused, Got, head, has_size}
use Rattle.krb_scan.specs.Scan.{Mark, Expected, Container, Tip, Between, InHead, InLeaf, State, limit, sole_in, container_of, state_of, with_mark, leaf_outcome, Answer, Ongoing, Refusing, Whole, scan, scanned, scanned_at}
use Rattle.krb_scan.specs.inner.Machine.{Pick, pick, requires_item, settle, leafed, in_leaf, enter, headed, tagged, picked, step_between, step_at, step, go_on, initial}
use Rattle.krb_scan.proofs.Basics.{enters_holds, when_holds, when_knows}
use Rattle.krb_scan.proofs.Stable.{IsPartial, Counts, leaf_counts}
use Rattle.krb_scan.proofs.Numbers.{partial_long}
use Rattle.krb_scan.proofs.Outcome.{HeadFits, head_fits}
use Rattle.krb_scan.proofs.Faults.{Placed, scan_placed}
use Rattle.krb_scan.proofs.Resume.{IsReached, Reached, ReachedAnswer, HasRoom, step_reached, run, run_scan, initial_reached}

-- each open container ends within the one round it, and the outermost within the message
abbrev pub IsNested : ℕ → List Container → Type 0
IsNested n [] = Unit {0}
IsNested n (container ∷ []) = container.end ≤ n
IsNested n (container ∷ next ∷ outer) = (container.end ≤ next.end) × IsNested n (next ∷ outer)

pub limit_within : (n : ℕ) (stack : List Container) → IsNested n stack → limit stack ≤ n
limit_within n [] h = omega arith
limit_within n (container ∷ []) h = h
limit_within n (container ∷ next ∷ outer) h = le_trans h.0 (limit_within n (next ∷ outer) h.1)

outer_nested : (n : ℕ) (container : Container) (outer : List Container) → IsNested n (container ∷ outer) → IsNested n outer
outer_nested n container [] h = tt {0}
outer_nested n container (next ∷ outer) h = h.1

inner_nested : (n : ℕ) (container : Container) (stack : List Container) → IsNested n stack → container.end ≤ limit stack → IsNested n (container ∷ stack)
inner_nested n container [] h le = omega arith
inner_nested n container (next ∷ outer) h le = (le, h)

same_nested : (n end : ℕ) (expected left : Expected) (outer : List Container) → IsNested n (container_of end expected ∷ outer) → IsNested n (container_of end left ∷ outer)
same_nested n end expected left [] h = h
same_nested n end expected left (next ∷ outer) h = h

abbrev pub IsRoomyTip : Tip → List Container → Type 0
IsRoomyTip (Between place) stack = HasRoom place stack
IsRoomyTip (InHead term from octets) stack = (from + length octets < limit stack) × (0 < length octets)
IsRoomyTip (InLeaf term start count octets) stack = (start + count ≤ limit stack) × (length octets < count)

pub record IsRoomy (n : ℕ) (state : State) : Type 0 where
  pub nested : IsNested n state.stack
  pub tip : IsRoomyTip state.tip state.stack

abbrev pub RoomyAnswer : ℕ → Answer → Type 0
RoomyAnswer n (Ongoing state) = IsRoomy n state
RoomyAnswer n other = Unit {0}

pub record AnswerIsRoomy (n : ℕ) (given : Answer) : Type 0 where
  pub roomy : RoomyAnswer n given

refusing_roomy : (n place : ℕ) (reason : Why) → AnswerIsRoomy n (Refusing place reason)
refusing_roomy n place reason = record { roomy = tt {0} }

ongoing_roomy : (n : ℕ) (marks : List Mark) (stack : List Container) (tip : Tip) → IsNested n stack → IsRoomyTip tip stack → AnswerIsRoomy n (Ongoing (state_of marks stack tip))
ongoing_roomy n marks stack tip h k = record { roomy = record { nested = h; tip = k } }

settle_roomy : (n : ℕ) (stack : List Container) (marks : List Mark) (place : ℕ) → IsNested n stack → AnswerIsRoomy n (settle stack marks place)
settle_roomy n [] marks place h = record { roomy = tt {0} }
settle_roomy n (container ∷ outer) marks place h =
    when_knows (AnswerIsRoomy n) (nat_lt place container.end) _ _ (λ e. ongoing_roomy n marks (container ∷ outer) (Between place) h (ltb-true place container.end e))
    (λ e. when_holds (AnswerIsRoomy n) (requires_item container.expected) _ _ (refusing_roomy n (place - 1) why.Missing) (settle_roomy n outer marks place (outer_nested n container outer h)))

leafed_roomy : (n : ℕ) (outcome : Outcome) (term : Term) (start count : ℕ) (stack : List Container) (marks : List Mark) (octets : List ℕ) → IsNested n stack → start + count ≤ limit stack → Counts count (length octets) outcome → AnswerIsRoomy n (leafed outcome term start count stack marks octets)
leafed_roomy n Open term start count stack marks octets h le counts = ongoing_roomy n marks stack (InLeaf term start count octets) h (le, counts)
leafed_roomy n (Bad offset reason) term start count stack marks octets h le counts = refusing_roomy n (start + offset) reason
leafed_roomy n (Done total) term start count stack marks octets h le counts = settle_roomy n stack _ (start + count) h

in_leaf_roomy : (n : ℕ) (term : Term) (start count : ℕ) (stack : List Container) (marks : List Mark) (octets : List ℕ) → has_size term count ≡ true → IsNested n stack → start + count ≤ limit stack → AnswerIsRoomy n (in_leaf term start count stack marks octets)
in_leaf_roomy n term start count stack marks octets size h le = leafed_roomy n (leaf_outcome term count octets) term start count stack marks octets h le (leaf_counts term count octets size)

enter_roomy : (n : ℕ) (term : Term) (start count : ℕ) (stack : List Container) (marks : List Mark) → has_size term count ≡ true → IsNested n stack → start + count ≤ limit stack → AnswerIsRoomy n (enter term start count stack marks)
enter_roomy n term start count stack marks size h le =
    enters_holds (AnswerIsRoomy n) term start count stack marks (in_leaf_roomy n term start count stack marks [] size h le)
    (λ expected. settle_roomy n (container_of (start + count) expected ∷ stack) (with_mark marks term start count) start (inner_nested n (container_of (start + count) expected) stack h le))

partial_room : (room : ℕ) (octets : List ℕ) → 2 ≤ room → IsPartial (head room octets) → length octets < room
partial_room room [] h p = omega arith
partial_room room (tag ∷ []) h p = omega arith
partial_room room (tag ∷ octet ∷ octets) h p =
    let short : length octets < octet - 0x80 = (partial_long room tag octet octets p).0 in
    let fits : 2 + (octet - 0x80) ≤ room = (partial_long room tag octet octets p).2 in
    omega arith

headed_roomy : (n : ℕ) (got : Head) (term : Term) (stack : List Container) (marks : List Mark) (from : ℕ) (octets : List ℕ) → IsNested n stack → from + 2 ≤ limit stack → 0 < length octets → got ≡ head (limit stack - from) octets → AnswerIsRoomy n (headed got term stack marks from octets)
headed_roomy n Partial term stack marks from octets h le pos_length e =
    let partial : IsPartial (head (limit stack - from) octets) = subst IsPartial e (tt {0}) in
    let short : length octets < limit stack - from = partial_room (limit stack - from) octets (omega arith) partial in
    ongoing_roomy n marks stack (InHead term from octets) h (omega arith, pos_length)
headed_roomy n (Refused offset reason) term stack marks from octets h le pos_length e = refusing_roomy n (from + offset) reason
headed_roomy n (Got header count) term stack marks from octets h le pos_length e =
    let fits : HeadFits (limit stack - from) (Got header count) = subst (HeadFits (limit stack - from)) (sym e) (head_fits (limit stack - from) octets) in
    let within : header + count ≤ limit stack - from = fits.fits.1 in
    when_holds (AnswerIsRoomy n) (sole_in stack && nat_lt (header + count) (limit stack - from)) _ _ (refusing_roomy n (from + header - 1) why.Loose)
    (when_knows (AnswerIsRoomy n) (has_size term count) _ _ (λ size. enter_roomy n term (from + header) count stack marks size h (omega arith)) (λ size. refusing_roomy n (from + header - 1) why.Size))

tagged_roomy : (n : ℕ) (term : Term) (stack : List Container) (marks : List Mark) (from octet : ℕ) → IsNested n stack → from < limit stack → AnswerIsRoomy n (tagged term stack marks from octet)
tagged_roomy n term stack marks from octet h lt =
    when_knows (AnswerIsRoomy n) (limit stack - from == 1) _ _ (λ e. refusing_roomy n from why.Overrun)
    (λ e. let other : limit stack - from ≡ 1 → ⊥ = eqb-false (limit stack - from) 1 e in ongoing_roomy n marks stack (InHead term from (octet ∷ [])) h (more other, omega arith))
  where
    more : (limit stack - from ≡ 1 → ⊥) → from + length (octet ∷ []) < limit stack
    more other = omega arith

step_roomy : (n : ℕ) (state : State) (octet : ℕ) → Reached state → IsRoomy n state → AnswerIsRoomy n (step state octet)
step_roomy n state octet h r = by_tip state.tip h.at r.tip
  where
    by_choice : (choice : Pick) (end : ℕ) (expected : Expected) (outer : List Container) (place : ℕ) → IsNested n (container_of end expected ∷ outer) → place < end → AnswerIsRoomy n (picked choice end outer state.marks place octet)
    by_choice None end expected outer place k lt = refusing_roomy n place why.Tag
    by_choice (Some choice) end expected outer place k lt = tagged_roomy n choice.0 (container_of end choice.1 ∷ outer) state.marks place octet (same_nested n end expected choice.1 outer k) lt

    by_stack : (stack : List Container) (place : ℕ) → IsNested n stack → HasRoom place stack → AnswerIsRoomy n (step_between stack state.marks place octet)
    by_stack [] place k lt = absurd lt
    by_stack (container ∷ outer) place k lt = by_choice (pick octet container.expected) container.end container.expected outer place k lt

    push : (octets : List ℕ) → length (octets ++ octet ∷ []) ≡ length octets + 1
    push octets = omega (arith, length-append octets (octet ∷ []))

    by_tip : (tip : Tip) → IsReached tip state.stack state.marks → IsRoomyTip tip state.stack → AnswerIsRoomy n (step_at tip state.stack state.marks octet)
    by_tip (Between place) k room = by_stack state.stack place r.nested room
    by_tip (InHead term from octets) k room =
        headed_roomy n (head (limit state.stack - from) (octets ++ octet ∷ [])) term state.stack state.marks from (octets ++ octet ∷ []) r.nested (let a : from + length octets < limit state.stack = room.0 in let b : 0 < length octets = room.1 in omega arith) (omega (arith, push octets)) refl
    by_tip (InLeaf term start count octets) k room = in_leaf_roomy n term start count state.stack state.marks (octets ++ octet ∷ []) k.0 r.nested room.0

run_roomy : (n : ℕ) (state : State) (octets : List ℕ) → Reached state → IsRoomy n state → AnswerIsRoomy n (run state octets)
run_roomy n state [] h r = record { roomy = r }
run_roomy n state (octet ∷ octets) h r = by_answer (step state octet) (step_reached state octet h) (step_roomy n state octet h r) (λ then_state k w. run_roomy n then_state octets k w)
  where
    by_answer : (given : Answer) → ReachedAnswer given → AnswerIsRoomy n given → ((then_state : State) → Reached then_state → IsRoomy n then_state → AnswerIsRoomy n (run then_state octets)) → AnswerIsRoomy n (go_on given (λ then_state. run then_state octets))
    by_answer (Ongoing then_state) a b k = k then_state a.reached b.roomy
    by_answer (Refusing place reason) a b k = refusing_roomy n place reason
    by_answer (Whole marks) a b k = record { roomy = tt {0} }

pub scan_roomy : (terms : List Term) (n : ℕ) (octets : List ℕ) → 0 < n → AnswerIsRoomy n (scan terms n octets)
scan_roomy terms n octets h =
    subst (AnswerIsRoomy n) (sym (run_scan terms n octets h)) (run_roomy n (initial terms n) octets (initial_reached terms n h) (record { nested = omega arith; tip = h }))

-- In an open state fewer octets were scanned than the message has.
pub roomy_taken : (n : ℕ) (state : State) → IsRoomy n state → scanned state < n
roomy_taken n state r = by_tip state.tip r.tip
  where
    by_stack : (stack : List Container) (place : ℕ) → IsNested n stack → HasRoom place stack → place < n
    by_stack [] place k lt = absurd lt
    by_stack (container ∷ outer) place k lt = let le : container.end ≤ n = limit_within n (container ∷ outer) k in omega arith

    by_tip : (tip : Tip) → IsRoomyTip tip state.stack → scanned_at tip < n
    by_tip (Between place) room = by_stack state.stack place r.nested room
    by_tip (InHead term from octets) room = let le : limit state.stack ≤ n = limit_within n state.stack r.nested in let a : from + length octets < limit state.stack = room.0 in omega arith
    by_tip (InLeaf term start count octets) room = let le : limit state.stack ≤ n = limit_within n state.stack r.nested in let a : start + count ≤ limit state.stack = room.0 in let b : length octets < count = room.1 in omega arith

-- A message all of whose octets are present is not open.
pub open_short : (terms : List Term) (n : ℕ) (octets : List ℕ) (state : State) → 0 < n → scan terms n octets ≡ Ongoing state → length octets < n
open_short terms n octets state some e =
    let placed : Placed (length octets) (Ongoing state) = subst (Placed (length octets)) e (scan_placed terms n octets some) in
    let at : scanned state ≡ length octets = placed.0 in
    let roomy : AnswerIsRoomy n (Ongoing state) = subst (AnswerIsRoomy n) e (scan_roomy terms n octets some) in
    let before : scanned state < n = roomy_taken n state roomy.roomy in
    omega arith
