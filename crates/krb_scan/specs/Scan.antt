-- The scan of the octets present of a message: a mark for each item whose length is whole, the containers whose contents are not complete, and the part of the message that is partly read.
-- It is a recursion over terms and whole lists, as the judgement. The scan of an item begins with the containers round it and the marks before it. A room is the number of octets that a container has left.
use Rattle.std.specs.Prelude.{ℕ, zero, suc, ℤ, pos, ◌+◌, ◌-◌, Bool, true, false, ◌&&◌, ◌==◌, nat_lt, List, [], ◌∷◌, ◌++◌, length, take, drop}
use Rattle.krb_der.specs.Octets.{when, integer_value}
use Rattle.krb_der.specs.declared.why.Why.{Why}
use Rattle.krb_der.specs.declared.why.Why.TheVariants as why
use Rattle.krb_msg.specs.Term.{Term, Fields, Integer, Text, Octets, Time, Bits, Sequence, SequenceOf, Tagged, Application, End, Required, Optional, tag_of}
use Rattle.krb_msg.specs.Judgement.{Outcome, Open, Bad, Done, Head, Partial, Refused, Got, head, has_size, integer_contents, any_contents, each_contents, text_octet, time_octet, bits_contents}

-- An item whose length is whole: its term, the place of its first contents octet, the number of its contents octets, and the value of an INTEGER if it is complete, else 0.
pub record Mark : Type 0 where
  pub term : Term
  pub start : ℕ
  pub count : ℕ
  pub value : ℤ

-- What the contents of a container may go on with: the fields that are left, any number of items of a term, or one item of one of these terms, which fills the container.
pub data Expected : Type 0 where
  Listed : Fields → Expected
  Each : Term → Expected
  OneOf : List Term → Expected

-- A container whose contents are not complete: the place where they end, and what may come after the items in it that have begun. The message is the outermost.
pub record Container : Type 0 where
  pub end : ℕ
  pub expected : Expected

-- The part of the message that is partly read: nothing of the next item; identifier and length octets of an item; contents octets of an item without items in it.
pub data Tip : Type 0 where
  Between : (place : ℕ) → Tip
  InHead : Term → (from : ℕ) → (octets : List ℕ) → Tip
  InLeaf : Term → (start count : ℕ) → (octets : List ℕ) → Tip

-- The marks before the tip, the containers that are not complete from the inner to the outer, and the tip.
pub record State : Type 0 where
  pub marks : List Mark
  pub stack : List Container
  pub tip : Tip

-- The scan of a part of a message: more octets are needed; the octet at a place is refused; or the part is complete, and these are the marks, the place and the octets after it.
pub data PartScan : Type 0 where
  Within : State → PartScan
  Fault : (place : ℕ) → (reason : Why) → PartScan
  Past : (marks : List Mark) → (place : ℕ) → (rest : List ℕ) → PartScan

abbrev pub scan_then : PartScan → (List Mark → ℕ → List ℕ → PartScan) → PartScan
scan_then (Within state) next = Within state
scan_then (Fault place reason) next = Fault place reason
scan_then (Past marks place rest) next = next marks place rest

abbrev pub container_of : ℕ → Expected → Container
container_of end expected = record { end = end; expected = expected }

abbrev pub mark_of : Term → ℕ → ℕ → ℤ → Mark
mark_of term start count value = record { term = term; start = start; count = count; value = value }

abbrev pub state_of : List Mark → List Container → Tip → State
state_of marks stack tip = record { marks = marks; stack = stack; tip = tip }

abbrev pub with_mark : List Mark → Term → ℕ → ℕ → List Mark
with_mark marks term start count = marks ++ mark_of term start count (pos 0) ∷ []

-- the place where the room of the next item ends
abbrev pub limit : List Container → ℕ
limit [] = 0
limit (container ∷ outer) = container.end

-- whether the next item has to fill its room
abbrev pub is_sole : Expected → Bool
is_sole (Listed fields) = false
is_sole (Each term) = false
is_sole (OneOf terms) = true

abbrev pub sole_in : List Container → Bool
sole_in [] = true
sole_in (container ∷ outer) = is_sole container.expected

-- ---- items without items
-- the outcome of the contents octets present
abbrev pub leaf_outcome : Term → ℕ → List ℕ → Outcome
leaf_outcome (Integer low high) count octets = integer_contents low high count octets
leaf_outcome (Text greatest) count octets = each_contents (text_octet greatest) why.Charset count 0 octets
leaf_outcome Time count octets = each_contents time_octet why.Time count 0 octets
leaf_outcome (Bits least) count octets = bits_contents least count octets
leaf_outcome term count octets = any_contents count octets

abbrev pub leaf_value : Term → List ℕ → ℤ
leaf_value (Integer low high) octets = integer_value octets
leaf_value term octets = pos 0

abbrev pub of_leaf : Outcome → Term → ℕ → ℕ → List Container → List Mark → List ℕ → PartScan
of_leaf Open term start count stack marks octets = Within (state_of marks stack (InLeaf term start count octets))
of_leaf (Bad offset reason) term start count stack marks octets = Fault (start + offset) reason
of_leaf (Done present) term start count stack marks octets =
    Past (marks ++ mark_of term start count (leaf_value term (take count octets)) ∷ []) (start + count) (drop count octets)

abbrev pub scan_leaf : Term → ℕ → ℕ → List Container → List Mark → List ℕ → PartScan
scan_leaf term start count stack marks octets = of_leaf (leaf_outcome term count (take count octets)) term start count stack marks octets

-- ---- items
-- The scan of an item from its identifier octet on, which is right. The first function scans its contents octets, from their start, their number, the containers and the marks.
abbrev pub scan_after_head : Head → (ℕ → ℕ → List Container → List Mark → List ℕ → PartScan) → Term → List Container → List Mark → ℕ → List ℕ → PartScan
scan_after_head Partial contents term stack marks from octets = Within (state_of marks stack (InHead term from octets))
scan_after_head (Refused offset reason) contents term stack marks from octets = Fault (from + offset) reason
scan_after_head (Got header count) contents term stack marks from octets =
    when (sole_in stack && nat_lt (header + count) (limit stack - from))
    (λ _. Fault (from + header - 1) why.Loose)
    (λ _. when (has_size term count) (λ _. contents (from + header) count stack marks (drop header octets)) (λ _. Fault (from + header - 1) why.Size))

abbrev pub scan_head : (ℕ → ℕ → List Container → List Mark → List ℕ → PartScan) → Term → List Container → List Mark → ℕ → List ℕ → PartScan
scan_head contents term stack marks from octets = scan_after_head (head (limit stack - from) octets) contents term stack marks from octets

abbrev pub begun : (ℕ → ℕ → List Container → List Mark → List ℕ → PartScan) → Term → List Container → List Mark → ℕ → List ℕ → PartScan
begun contents term stack marks from octets =
    when (limit stack - from == 1) (λ _. Fault from why.Overrun) (λ _. scan_head contents term stack marks from octets)

-- ---- what comes next in a container that ends at a place: what is expected, the containers round it, the marks, the place, the room left and the octets present
abbrev pub between : Expected → ℕ → List Container → List Mark → ℕ → PartScan
between expected end outer marks place = Within (state_of marks (container_of end expected ∷ outer) (Between place))

-- a required item; what is expected before and after it, and the scan of what follows it
abbrev pub scan_required : (List Container → List Mark → ℕ → List ℕ → PartScan) → Term → Expected → Expected → ℕ → List Container → List Mark → ℕ → ℕ → List ℕ → (List Mark → ℕ → List ℕ → PartScan) → PartScan
scan_required one term expected left end outer marks place zero octets next = Fault (place - 1) why.Missing
scan_required one term expected left end outer marks place (suc room) [] next = between expected end outer marks place
scan_required one term expected left end outer marks place (suc room) (octet ∷ octets) next =
    when (octet == tag_of term) (λ _. scan_then (one (container_of end left ∷ outer) marks place (octet ∷ octets)) next) (λ _. Fault place why.Tag)

-- an optional item, or else something other
abbrev pub scan_optional : (List Container → List Mark → ℕ → List ℕ → PartScan) → Term → Expected → Expected → ℕ → List Container → List Mark → ℕ → ℕ → List ℕ → (List Mark → ℕ → List ℕ → PartScan) → (Unit {0} → PartScan) → PartScan
scan_optional one term expected left end outer marks place zero octets next other = other tt
scan_optional one term expected left end outer marks place (suc room) [] next other = between expected end outer marks place
scan_optional one term expected left end outer marks place (suc room) (octet ∷ octets) next other =
    when (octet == tag_of term) (λ _. scan_then (one (container_of end left ∷ outer) marks place (octet ∷ octets)) next) other

-- no item is expected
abbrev pub scan_end : Expected → ℕ → List Container → List Mark → ℕ → ℕ → List ℕ → PartScan
scan_end expected end outer marks place zero octets = Past marks place octets
scan_end expected end outer marks place (suc room) [] = between expected end outer marks place
scan_end expected end outer marks place (suc room) (octet ∷ octets) = Fault place why.Tag

-- the sole item of a tag
abbrev pub scan_only : (List Container → List Mark → ℕ → List ℕ → PartScan) → Term → ℕ → List Container → List Mark → ℕ → ℕ → List ℕ → PartScan
scan_only one term end outer marks place room octets =
    scan_required one term (OneOf (term ∷ [])) (OneOf []) end outer marks place room octets
    (λ marks_then there rest. scan_end (OneOf []) end outer marks_then there (end - there) rest)

-- items one after another until the room is full; the first number is a bound on how many
abbrev pub scan_each : (List Container → List Mark → ℕ → List ℕ → PartScan) → Term → ℕ → ℕ → List Container → List Mark → ℕ → ℕ → List ℕ → PartScan
scan_each one term bound end outer marks place zero octets = Past marks place octets
scan_each one term zero end outer marks place (suc room) octets = between (Each term) end outer marks place
scan_each one term (suc bound) end outer marks place (suc room) octets =
    scan_required one term (Each term) (Each term) end outer marks place (suc room) octets (λ marks_then there rest. scan_each one term bound end outer marks_then there (end - there) rest)

abbrev mutual
  -- the contents octets of an item: their start and number, the containers round it, the marks before it, and the octets present
  pub scan_contents : Term → ℕ → ℕ → List Container → List Mark → List ℕ → PartScan
  scan_contents (Integer low high) start count outer marks octets = scan_leaf (Integer low high) start count outer marks octets
  scan_contents (Text greatest) start count outer marks octets = scan_leaf (Text greatest) start count outer marks octets
  scan_contents Octets start count outer marks octets = scan_leaf Octets start count outer marks octets
  scan_contents Time start count outer marks octets = scan_leaf Time start count outer marks octets
  scan_contents (Bits least) start count outer marks octets = scan_leaf (Bits least) start count outer marks octets
  scan_contents (Sequence fields) start count outer marks octets =
      scan_fields fields (start + count) outer (with_mark marks (Sequence fields) start count) start count octets
  scan_contents (SequenceOf empty term) start count outer marks octets =
      scan_each (begun (scan_contents term) term) term count (start + count) outer (with_mark marks (SequenceOf empty term) start count) start count octets
  scan_contents (Tagged index term) start count outer marks octets =
      scan_only (begun (scan_contents term) term) term (start + count) outer (with_mark marks (Tagged index term) start count) start count octets
  scan_contents (Application number term) start count outer marks octets =
      scan_only (begun (scan_contents term) term) term (start + count) outer (with_mark marks (Application number term) start count) start count octets

  -- the fields that are left of a container's
  pub scan_fields : Fields → ℕ → List Container → List Mark → ℕ → ℕ → List ℕ → PartScan
  scan_fields End end outer marks place room octets = scan_end (Listed End) end outer marks place room octets
  scan_fields (Required term fields) end outer marks place room octets =
      scan_required (begun (scan_contents term) term) term (Listed (Required term fields)) (Listed fields) end outer marks place room octets
      (λ marks_then there rest. scan_fields fields end outer marks_then there (end - there) rest)
  scan_fields (Optional term fields) end outer marks place room octets =
      scan_optional (begun (scan_contents term) term) term (Listed (Optional term fields)) (Listed fields) end outer marks place room octets
      (λ marks_then there rest. scan_fields fields end outer marks_then there (end - there) rest)
      (λ _. scan_fields fields end outer marks place room octets)

-- one item of one of these terms, which fills a container
abbrev pub scan_one_of : List Term → Expected → ℕ → List Container → List Mark → ℕ → ℕ → List ℕ → PartScan
scan_one_of [] expected end outer marks place room octets = scan_end expected end outer marks place room octets
scan_one_of (term ∷ terms) expected end outer marks place zero octets = Fault (place - 1) why.Missing
scan_one_of (term ∷ terms) expected end outer marks place (suc room) octets =
    scan_optional (begun (scan_contents term) term) term expected (OneOf []) end outer marks place (suc room) octets
    (λ marks_then there rest. scan_end (OneOf []) end outer marks_then there (end - there) rest)
    (λ _. scan_one_of terms expected end outer marks place (suc room) octets)

-- a message of n octets that is one of these terms
abbrev pub scan_message : List Term → ℕ → List ℕ → PartScan
scan_message terms n octets = scan_one_of terms (OneOf terms) n [] [] 0 n octets

-- ---- what the octets present of a message decide, with the state after them
pub data Answer : Type 0 where
  Ongoing : State → Answer
  Refusing : (place : ℕ) → (reason : Why) → Answer
  Whole : (marks : List Mark) → Answer

abbrev pub answer : PartScan → Answer
answer (Within state) = Ongoing state
answer (Fault place reason) = Refusing place reason
answer (Past marks place rest) = Whole marks

abbrev pub scan : List Term → ℕ → List ℕ → Answer
scan terms n octets = answer (scan_message terms n octets)

-- ---- marks, open lengths and octets of a state
-- the mark of a leaf that is not complete
abbrev pub marks_at : Tip → List Mark → List Mark
marks_at (InLeaf term start count octets) marks = with_mark marks term start count
marks_at tip marks = marks

-- all marks: one for each length that is whole, in the order of the lengths
abbrev pub marks_of : State → List Mark
marks_of state = marks_at state.tip state.marks

abbrev pub lengths_at : Tip → ℕ → ℕ
lengths_at (InLeaf term start count octets) containers = containers + 1
lengths_at tip containers = containers

-- how many lengths are whole whose contents are not complete, leaves included; the message has no length
abbrev pub open_lengths : State → ℕ
open_lengths state = lengths_at state.tip (length state.stack - 1)

abbrev pub scanned_at : Tip → ℕ
scanned_at (Between place) = place
scanned_at (InHead term from octets) = from + length octets
scanned_at (InLeaf term start count octets) = start + length octets

-- how many octets were scanned
abbrev pub scanned : State → ℕ
scanned state = scanned_at state.tip
