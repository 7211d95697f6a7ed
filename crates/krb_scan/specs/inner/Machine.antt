-- The scan as a machine that takes one octet at a time.
use Rattle.std.specs.Prelude.{ℕ, ◌+◌, ◌-◌, Bool, true, false, ◌&&◌, ◌==◌, nat_lt, List, [], ◌∷◌, ◌++◌, Option, Some, None}
use Rattle.krb_der.specs.Octets.{when}
use Rattle.krb_der.specs.declared.why.Why.TheVariants as why
use Rattle.krb_msg.specs.Term.{Term, Fields, Sequence, SequenceOf, Tagged, Application, End, Required, Optional, tag_of}
use Rattle.krb_msg.specs.Judgement.{Outcome, Open, Bad, Done, Head, Partial, Refused, Got, head, has_size}
use Rattle.krb_scan.specs.Scan.{Mark, Expected, Listed, Each, OneOf, Container, Tip, Between, InHead, InLeaf, State, Answer, Ongoing, Refusing, Whole, limit, sole_in, container_of, mark_of, state_of, leaf_outcome, leaf_value, with_mark}

-- the item that begins with an identifier octet, and what is expected after it
abbrev pub Pick : Type 0
Pick = Option (Term × Expected)

abbrev pub pick_field : ℕ → Fields → Pick
pick_field octet End = None
pick_field octet (Required term fields) = when (octet == tag_of term) (λ _. Some (term, Listed fields)) (λ _. None)
pick_field octet (Optional term fields) = when (octet == tag_of term) (λ _. Some (term, Listed fields)) (λ _. pick_field octet fields)

abbrev pub pick_one_of : ℕ → List Term → Pick
pick_one_of octet [] = None
pick_one_of octet (term ∷ terms) = when (octet == tag_of term) (λ _. Some (term, OneOf [])) (λ _. pick_one_of octet terms)

abbrev pub pick : ℕ → Expected → Pick
pick octet (Listed fields) = pick_field octet fields
pick octet (Each term) = when (octet == tag_of term) (λ _. Some (term, Each term)) (λ _. None)
pick octet (OneOf terms) = pick_one_of octet terms

-- a required item is still missing
abbrev pub requires_field : Fields → Bool
requires_field End = false
requires_field (Required term fields) = true
requires_field (Optional term fields) = requires_field fields

abbrev pub requires_item : Expected → Bool
requires_item (Listed fields) = requires_field fields
requires_item (Each term) = false
requires_item (OneOf []) = false
requires_item (OneOf (term ∷ terms)) = true

-- completes the containers that are full at a place, from the inner to the outer
abbrev pub settle : List Container → List Mark → ℕ → Answer
settle [] marks place = Whole marks
settle (container ∷ outer) marks place =
    when (nat_lt place container.end)
    (λ _. Ongoing (state_of marks (container ∷ outer) (Between place)))
    (λ _. when (requires_item container.expected) (λ _. Refusing (place - 1) why.Missing) (λ _. settle outer marks place))

-- a leaf after an octet, by the outcome of its contents octets present
abbrev pub leafed : Outcome → Term → ℕ → ℕ → List Container → List Mark → List ℕ → Answer
leafed Open term start count stack marks octets = Ongoing (state_of marks stack (InLeaf term start count octets))
leafed (Bad offset reason) term start count stack marks octets = Refusing (start + offset) reason
leafed (Done present) term start count stack marks octets = settle stack (marks ++ mark_of term start count (leaf_value term octets) ∷ []) (start + count)

abbrev pub in_leaf : Term → ℕ → ℕ → List Container → List Mark → List ℕ → Answer
in_leaf term start count stack marks octets = leafed (leaf_outcome term count octets) term start count stack marks octets

abbrev pub opened : Term → Expected → ℕ → ℕ → List Container → List Mark → Answer
opened term expected start count stack marks = settle (container_of (start + count) expected ∷ stack) (with_mark marks term start count) start

-- an item after its last length octet
abbrev pub enter : Term → ℕ → ℕ → List Container → List Mark → Answer
enter (Sequence fields) start count stack marks = opened (Sequence fields) (Listed fields) start count stack marks
enter (SequenceOf empty term) start count stack marks = opened (SequenceOf empty term) (Each term) start count stack marks
enter (Tagged index term) start count stack marks = opened (Tagged index term) (OneOf (term ∷ [])) start count stack marks
enter (Application number term) start count stack marks = opened (Application number term) (OneOf (term ∷ [])) start count stack marks
enter term start count stack marks = in_leaf term start count stack marks []

-- an item with a number of contents octets, if it may have that many
abbrev pub sized : Term → ℕ → ℕ → List Container → List Mark → Answer
sized term start count stack marks = when (has_size term count) (λ _. enter term start count stack marks) (λ _. Refusing (start - 1) why.Size)

abbrev pub headed : Head → Term → List Container → List Mark → ℕ → List ℕ → Answer
headed Partial term stack marks from octets = Ongoing (state_of marks stack (InHead term from octets))
headed (Refused offset reason) term stack marks from octets = Refusing (from + offset) reason
headed (Got header count) term stack marks from octets =
    when (sole_in stack && nat_lt (header + count) (limit stack - from))
    (λ _. Refusing (from + header - 1) why.Loose)
    (λ _. sized term (from + header) count stack marks)

-- an item at its identifier octet
abbrev pub tagged : Term → List Container → List Mark → ℕ → ℕ → Answer
tagged term stack marks from octet =
    when (limit stack - from == 1) (λ _. Refusing from why.Overrun) (λ _. Ongoing (state_of marks stack (InHead term from (octet ∷ []))))

abbrev pub picked : Pick → ℕ → List Container → List Mark → ℕ → ℕ → Answer
picked None end outer marks place octet = Refusing place why.Tag
picked (Some choice) end outer marks place octet = tagged choice.0 (container_of end choice.1 ∷ outer) marks place octet

abbrev pub step_between : List Container → List Mark → ℕ → ℕ → Answer
step_between [] marks place octet = Whole marks
step_between (container ∷ outer) marks place octet = picked (pick octet container.expected) container.end outer marks place octet

abbrev pub step_at : Tip → List Container → List Mark → ℕ → Answer
step_at (Between place) stack marks octet = step_between stack marks place octet
step_at (InHead term from octets) stack marks octet = headed (head (limit stack - from) (octets ++ octet ∷ [])) term stack marks from (octets ++ octet ∷ [])
step_at (InLeaf term start count octets) stack marks octet = in_leaf term start count stack marks (octets ++ octet ∷ [])

-- the step of a state by an octet
abbrev pub step : State → ℕ → Answer
step state octet = step_at state.tip state.stack state.marks octet

abbrev pub go_on : Answer → (State → Answer) → Answer
go_on (Ongoing state) next = next state
go_on (Refusing place reason) next = Refusing place reason
go_on (Whole marks) next = Whole marks

-- the state before the first octet of a message of n octets
abbrev pub initial : List Term → ℕ → State
initial terms n = state_of [] (container_of n (OneOf terms) ∷ []) (Between 0)

-- an answer as the outcome of a message of n octets
abbrev pub outcome_of : ℕ → Answer → Outcome
outcome_of n (Ongoing state) = Open
outcome_of n (Refusing place reason) = Bad place reason
outcome_of n (Whole marks) = Done n
