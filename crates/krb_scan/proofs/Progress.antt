-- A complete part ends at or after its start.
use Rattle.std.proofs.Common.{ℕ, zero, suc, ◌+◌, ◌-◌, ◌<◌, ◌≤◌, Bool, true, false, ◌&&◌, ◌||◌, ◌==◌, nat_lt, if◌then◌else◌, List, [], ◌∷◌, length, take, drop, arith}
use Rattle.krb_der.specs.Octets.{number}
use Rattle.krb_der.specs.declared.why.Why.{Why}
use Rattle.krb_msg.specs.Term.{Term, Fields, Sequence, SequenceOf, Tagged, Application, End, Required, Optional, tag_of}
use Rattle.krb_msg.specs.Judgement.{Outcome, Open, Bad, Done, Head, Partial, Refused, Got, head, long_head, fitting, has_size}
use Rattle.krb_scan.specs.Scan.{Mark, Expected, Listed, Each, OneOf, Container, PartScan, scan_then, limit, sole_in, container_of, with_mark, leaf_outcome, of_leaf, scan_leaf, scan_after_head, begun, scan_required, scan_optional, scan_end, scan_each, scan_contents, scan_fields}
use Rattle.krb_scan.proofs.Basics.{when_holds, within_at, fault_at, past_at, AtLeast, at_least_weaken, at_least_then}

abbrev pub IsSomeHead : Head → Type 0
IsSomeHead (Got header count) = 0 < header
IsSomeHead other = Unit {0}

-- a header that is whole has octets
pub record HeadIsSome (got : Head) : Type 0 where
  pub is_some : IsSomeHead got

refused_some : {offset : ℕ} {reason : Why} → HeadIsSome (Refused offset reason)
refused_some = record { is_some = tt {0} }

partial_some : HeadIsSome Partial
partial_some = record { is_some = tt {0} }

pub if_holds : {A : Type 0} (P : A → Type 0) (b : Bool) (x y : A) → P x → P y → P (if b then x else y)
if_holds P true x y yes_holds no_holds = yes_holds
if_holds P false x y yes_holds no_holds = no_holds

fitting_some : (room header count : ℕ) → 0 < header → HeadIsSome (fitting room header count)
fitting_some room header count h = if_holds HeadIsSome (nat_lt room (header + count)) _ _ refused_some (record { is_some = h })

long_some : (room k : ℕ) (octets : List ℕ) → HeadIsSome (long_head room k octets)
long_some room k [] = partial_some
long_some room k (first ∷ octets) =
    if_holds HeadIsSome ((first == 0) || ((k == 1) && nat_lt first 128)) _ _ refused_some (if_holds HeadIsSome (nat_lt (length (first ∷ octets)) k) _ _ partial_some (fitting_some room (2 + k) (number (take k (first ∷ octets))) (omega arith)))

pub head_some : (room : ℕ) (octets : List ℕ) → HeadIsSome (head room octets)
head_some room [] = partial_some
head_some room (tag ∷ []) = partial_some
head_some room (tag ∷ octet ∷ octets) =
    if_holds HeadIsSome (nat_lt octet 0x80) _ _ (fitting_some room 2 octet (omega arith))
    (if_holds HeadIsSome (octet == 0x80) _ _ refused_some (if_holds HeadIsSome (nat_lt 0x84 octet) _ _ refused_some (if_holds HeadIsSome (nat_lt room (2 + (octet - 0x80))) _ _ refused_some (long_some room (octet - 0x80) octets))))

-- a function that reads contents
abbrev pub Reader : Type 0
Reader = ℕ → ℕ → List Container → List Mark → List ℕ → PartScan

abbrev pub Advances : Reader → Type 0
Advances contents = (start count : ℕ) (stack : List Container) (marks : List Mark) (octets : List ℕ) → AtLeast start (contents start count stack marks octets)

of_head_advances : (got : Head) → HeadIsSome got → (contents : Reader) → Advances contents → (term : Term) (stack : List Container) (marks : List Mark) (from : ℕ) (octets : List ℕ) → AtLeast (suc from) (scan_after_head got contents term stack marks from octets)
of_head_advances Partial some contents h term stack marks from octets = within_at (suc from)
of_head_advances (Refused offset reason) some contents h term stack marks from octets = fault_at (suc from)
of_head_advances (Got header count) some contents h term stack marks from octets =
    when_holds (AtLeast (suc from)) (sole_in stack && nat_lt (header + count) (limit stack - from)) _ _ (fault_at (suc from))
    (when_holds (AtLeast (suc from)) (has_size term count) _ _ (at_least_weaken (suc from) (from + header) _ (let e : 0 < header = some.is_some in omega arith) (h (from + header) count stack marks (drop header octets))) (fault_at (suc from)))

pub begun_advances : (contents : Reader) → Advances contents → (term : Term) (stack : List Container) (marks : List Mark) (from : ℕ) (octets : List ℕ) → AtLeast (suc from) (begun contents term stack marks from octets)
begun_advances contents h term stack marks from octets =
    when_holds (AtLeast (suc from)) (limit stack - from == 1) _ _ (fault_at (suc from)) (of_head_advances (head (limit stack - from) octets) (head_some (limit stack - from) octets) contents h term stack marks from octets)

of_leaf_advances : (outcome : Outcome) (term : Term) (start count : ℕ) (stack : List Container) (marks : List Mark) (octets : List ℕ) → AtLeast start (of_leaf outcome term start count stack marks octets)
of_leaf_advances Open term start count stack marks octets = within_at start
of_leaf_advances (Bad offset reason) term start count stack marks octets = fault_at start
of_leaf_advances (Done present) term start count stack marks octets = past_at start (omega arith)

leaf_advances : (term : Term) → (start count : ℕ) (stack : List Container) (marks : List Mark) (octets : List ℕ) → AtLeast start (scan_leaf term start count stack marks octets)
leaf_advances term start count stack marks octets = of_leaf_advances (leaf_outcome term count (take count octets)) term start count stack marks octets

-- a function that reads an item in a container
abbrev pub ItemReader : Type 0
ItemReader = List Container → List Mark → ℕ → List ℕ → PartScan

abbrev pub ItemAdvances : ItemReader → Type 0
ItemAdvances one = (stack : List Container) (marks : List Mark) (place : ℕ) (octets : List ℕ) → AtLeast (suc place) (one stack marks place octets)

abbrev pub Next : Type 0
Next = List Mark → ℕ → List ℕ → PartScan

abbrev pub NextAdvances : ℕ → Next → Type 0
NextAdvances place next = (marks : List Mark) (there : ℕ) (rest : List ℕ) → place ≤ there → AtLeast place (next marks there rest)

picked_advances : (one : ItemReader) → ItemAdvances one → (stack : List Container) (marks : List Mark) (place : ℕ) (octets : List ℕ) (next : Next) → NextAdvances place next → AtLeast place (scan_then (one stack marks place octets) next)
picked_advances one h stack marks place octets next k =
    at_least_then place (suc place) (one stack marks place octets) next (h stack marks place octets) (λ marks_then there rest le. k marks_then there rest (omega arith))

required_advances : (one : ItemReader) → ItemAdvances one → (term : Term) (expected left : Expected) (end : ℕ) (outer : List Container) (marks : List Mark) (place room : ℕ) (octets : List ℕ) (next : Next) → NextAdvances place next → AtLeast place (scan_required one term expected left end outer marks place room octets next)
required_advances one h term expected left end outer marks place zero octets next k = fault_at place
required_advances one h term expected left end outer marks place (suc room) [] next k = within_at place
required_advances one h term expected left end outer marks place (suc room) (octet ∷ octets) next k =
    when_holds (AtLeast place) (octet == tag_of term) _ _ (picked_advances one h (container_of end left ∷ outer) marks place (octet ∷ octets) next k) (fault_at place)

optional_advances : (one : ItemReader) → ItemAdvances one → (term : Term) (expected left : Expected) (end : ℕ) (outer : List Container) (marks : List Mark) (place room : ℕ) (octets : List ℕ) (next : Next) (other : Unit {0} → PartScan) → NextAdvances place next → AtLeast place (other tt) → AtLeast place (scan_optional one term expected left end outer marks place room octets next other)
optional_advances one h term expected left end outer marks place zero octets next other k m = m
optional_advances one h term expected left end outer marks place (suc room) [] next other k m = within_at place
optional_advances one h term expected left end outer marks place (suc room) (octet ∷ octets) next other k m =
    when_holds (AtLeast place) (octet == tag_of term) _ _ (picked_advances one h (container_of end left ∷ outer) marks place (octet ∷ octets) next k) m

ended_advances : (expected : Expected) (end : ℕ) (outer : List Container) (marks : List Mark) (place room : ℕ) (octets : List ℕ) → AtLeast place (scan_end expected end outer marks place room octets)
ended_advances expected end outer marks place zero octets = past_at place (omega arith)
ended_advances expected end outer marks place (suc room) [] = within_at place
ended_advances expected end outer marks place (suc room) (octet ∷ octets) = fault_at place

each_advances : (one : ItemReader) → ItemAdvances one → (term : Term) (bound : ℕ) (end : ℕ) (outer : List Container) (marks : List Mark) (place room : ℕ) (octets : List ℕ) → AtLeast place (scan_each one term bound end outer marks place room octets)
each_advances one h term bound end outer marks place zero octets = past_at place (omega arith)
each_advances one h term zero end outer marks place (suc room) octets = within_at place
each_advances one h term (suc bound) end outer marks place (suc room) octets =
    required_advances one h term (Each term) (Each term) end outer marks place (suc room) octets _
    (λ marks_then there rest le. at_least_weaken place there _ le (each_advances one h term bound end outer marks_then there (end - there) rest))

mutual
  pub contents_advance : (term : Term) (start count : ℕ) (outer : List Container) (marks : List Mark) (octets : List ℕ) → AtLeast start (scan_contents term start count outer marks octets)
  contents_advance (Sequence fields) start count outer marks octets = fields_advance fields (start + count) outer (with_mark marks (Sequence fields) start count) start count octets
  contents_advance (SequenceOf empty term) start count outer marks octets =
      each_advances _ (begun_advances (scan_contents term) (contents_advance term) term) term count (start + count) outer (with_mark marks (SequenceOf empty term) start count) start count octets
  contents_advance (Tagged index term) start count outer marks octets =
      required_advances _ (begun_advances (scan_contents term) (contents_advance term) term) term _ _ (start + count) outer (with_mark marks (Tagged index term) start count) start count octets _
      (λ marks_then there rest le. at_least_weaken start there _ le (ended_advances (OneOf []) (start + count) outer marks_then there (start + count - there) rest))
  contents_advance (Application number term) start count outer marks octets =
      required_advances _ (begun_advances (scan_contents term) (contents_advance term) term) term _ _ (start + count) outer (with_mark marks (Application number term) start count) start count octets _
      (λ marks_then there rest le. at_least_weaken start there _ le (ended_advances (OneOf []) (start + count) outer marks_then there (start + count - there) rest))
  contents_advance other start count outer marks octets = leaf_advances other start count outer marks octets

  pub fields_advance : (fields : Fields) (end : ℕ) (outer : List Container) (marks : List Mark) (place room : ℕ) (octets : List ℕ) → AtLeast place (scan_fields fields end outer marks place room octets)
  fields_advance End end outer marks place room octets = ended_advances (Listed End) end outer marks place room octets
  fields_advance (Required term fields) end outer marks place room octets =
      required_advances _ (begun_advances (scan_contents term) (contents_advance term) term) term _ _ end outer marks place room octets _
      (λ marks_then there rest le. at_least_weaken place there _ le (fields_advance fields end outer marks_then there (end - there) rest))
  fields_advance (Optional term fields) end outer marks place room octets =
      optional_advances _ (begun_advances (scan_contents term) (contents_advance term) term) term _ _ end outer marks place room octets _ _
      (λ marks_then there rest le. at_least_weaken place there _ le (fields_advance fields end outer marks_then there (end - there) rest))
      (fields_advance fields end outer marks place room octets)
