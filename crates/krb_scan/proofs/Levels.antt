-- How many lengths are open at once.
use Rattle.std.proofs.Common.{◌≡◌, ℕ, zero, suc, ◌+◌, ◌-◌, ◌≤◌, ◌&&◌, ◌==◌, nat_lt, true, refl, get_or, List, [], ◌∷◌, length, take, drop, arith}
use Rattle.krb_der.specs.declared.profile.Profile.{Profile}
use Rattle.krb_der.specs.declared.why.Why.{Why}
use Rattle.krb_msg.specs.Basic.{int32}
use Rattle.krb_msg.specs.Grammar.{messages}
use Rattle.krb_msg.proofs.Judged.{messages_nest}
use Rattle.std.proofs.Math.Dec.{leb}
use Rattle.std.proofs.lemmas.Bool.{leb-true}
use Rattle.krb_msg.specs.Term.{Term, Fields, Integer, Sequence, SequenceOf, Tagged, Application, End, Required, Optional, tag_of}
use Rattle.krb_msg.specs.Shape.{depth, depth_of_fields, greatest_depth}
use Rattle.krb_msg.specs.Judgement.{Outcome, Open, Bad, Done, Head, Partial, Refused, Got, head, has_size}
use Rattle.krb_msg.specs.Nodes.{nodes, term_in, term_at}
use Rattle.krb_scan.specs.Scan.{Mark, Expected, Listed, Each, OneOf, Container, Tip, InHead, State, PartScan, Within, Fault, Past, scan_then, limit, sole_in, container_of, with_mark, leaf_outcome, of_leaf, scan_leaf, scan_after_head, begun, between, scan_required, scan_optional, scan_end, scan_each, scan_contents, scan_fields, scan_one_of, scan_message, lengths_at, Answer, Ongoing, answer, scan}
use Rattle.krb_scan.proofs.Progress.{Reader}
use Rattle.krb_scan.proofs.Basics.{when_holds}

depth_some : (term : Term) → 1 ≤ depth term
depth_some (Integer low high) = omega arith
depth_some other = omega arith

-- the lengths that are open, and one that is being read
abbrev pub levels_at : Tip → ℕ → ℕ
levels_at (InHead term from octets) containers = containers + 1
levels_at tip containers = lengths_at tip containers

abbrev pub levels_of : State → ℕ
levels_of state = levels_at state.tip (length state.stack)

abbrev pub NoDeeper : ℕ → PartScan → Type 0
NoDeeper most (Within state) = levels_of state ≤ most
NoDeeper most other = Unit {0}

pub record IsNoDeeper (most : ℕ) (seen : PartScan) : Type 0 where
  pub no_deeper : NoDeeper most seen

within_deep : (most : ℕ) {state : State} → levels_of state ≤ most → IsNoDeeper most (Within state)
within_deep most h = record { no_deeper = h }

fault_deep : (most : ℕ) {place : ℕ} {reason : Why} → IsNoDeeper most (Fault place reason)
fault_deep most = record { no_deeper = tt {0} }

past_deep : (most : ℕ) {marks : List Mark} {place : ℕ} {rest : List ℕ} → IsNoDeeper most (Past marks place rest)
past_deep most = record { no_deeper = tt {0} }

then_deep : (most : ℕ) (seen : PartScan) (next : List Mark → ℕ → List ℕ → PartScan) → IsNoDeeper most seen → ((marks : List Mark) (place : ℕ) (rest : List ℕ) → IsNoDeeper most (next marks place rest)) → IsNoDeeper most (scan_then seen next)
then_deep most (Within state) next h k = within_deep most h.no_deeper
then_deep most (Fault place reason) next h k = fault_deep most
then_deep most (Past marks place rest) next h k = k marks place rest

abbrev pub ReadsTo : ℕ → Reader → Type 0
ReadsTo levels contents = (start count : ℕ) (stack : List Container) (marks : List Mark) (octets : List ℕ) (most : ℕ) → length stack + levels ≤ most → IsNoDeeper most (contents start count stack marks octets)

begun_deep : (levels : ℕ) → 1 ≤ levels → (contents : Reader) → ReadsTo levels contents → (term : Term) (stack : List Container) (marks : List Mark) (from : ℕ) (octets : List ℕ) (most : ℕ) → length stack + levels ≤ most → IsNoDeeper most (begun contents term stack marks from octets)
begun_deep levels some contents reads term stack marks from octets most le =
    when_holds (IsNoDeeper most) (limit stack - from == 1) _ _ (fault_deep most) (by_head (head (limit stack - from) octets))
  where
    by_head : (got : Head) → IsNoDeeper most (scan_after_head got contents term stack marks from octets)
    by_head Partial = within_deep most (omega arith)
    by_head (Refused offset reason) = fault_deep most
    by_head (Got header count) =
        when_holds (IsNoDeeper most) (sole_in stack && nat_lt (header + count) (limit stack - from)) _ _ (fault_deep most)
        (when_holds (IsNoDeeper most) (has_size term count) _ _ (reads (from + header) count stack marks (drop header octets) most le) (fault_deep most))

leaf_deep : (term : Term) → ReadsTo 1 (λ start count stack marks octets. scan_leaf term start count stack marks octets)
leaf_deep term start count stack marks octets most le = by_outcome (leaf_outcome term count (take count octets))
  where
    by_outcome : (outcome : Outcome) → IsNoDeeper most (of_leaf outcome term start count stack marks octets)
    by_outcome Open = within_deep most le
    by_outcome (Bad offset reason) = fault_deep most
    by_outcome (Done present) = past_deep most

between_deep : (end : ℕ) (expected : Expected) (outer : List Container) (marks : List Mark) (place most : ℕ) → length outer + 1 ≤ most → IsNoDeeper most (between expected end outer marks place)
between_deep end expected outer marks place most le = within_deep most (omega arith)

required_deep : (levels : ℕ) → 1 ≤ levels → (contents : Reader) → ReadsTo levels contents → (term : Term) (expected left : Expected) (end : ℕ) (outer : List Container) (marks : List Mark) (place room : ℕ) (octets : List ℕ) (next : List Mark → ℕ → List ℕ → PartScan) (most : ℕ) → length outer + 1 + levels ≤ most →
    ((marks_then : List Mark) (there : ℕ) (rest : List ℕ) → IsNoDeeper most (next marks_then there rest)) → IsNoDeeper most (scan_required (begun contents term) term expected left end outer marks place room octets next)
required_deep levels some contents reads term expected left end outer marks place zero octets next most le k = fault_deep most
required_deep levels some contents reads term expected left end outer marks place (suc room) [] next most le k = between_deep end expected outer marks place most (omega arith)
required_deep levels some contents reads term expected left end outer marks place (suc room) (octet ∷ octets) next most le k =
    when_holds (IsNoDeeper most) (octet == tag_of term) _ _
    (then_deep most (begun contents term (container_of end left ∷ outer) marks place (octet ∷ octets)) next (begun_deep levels some contents reads term (container_of end left ∷ outer) marks place (octet ∷ octets) most (omega arith)) k) (fault_deep most)

optional_deep : (levels : ℕ) → 1 ≤ levels → (contents : Reader) → ReadsTo levels contents → (term : Term) (expected left : Expected) (end : ℕ) (outer : List Container) (marks : List Mark) (place room : ℕ) (octets : List ℕ) (next : List Mark → ℕ → List ℕ → PartScan) (other : Unit {0} → PartScan) (most : ℕ) → length outer + 1 + levels ≤ most →
    ((marks_then : List Mark) (there : ℕ) (rest : List ℕ) → IsNoDeeper most (next marks_then there rest)) → IsNoDeeper most (other tt) → IsNoDeeper most (scan_optional (begun contents term) term expected left end outer marks place room octets next other)
optional_deep levels some contents reads term expected left end outer marks place zero octets next other most le k m = m
optional_deep levels some contents reads term expected left end outer marks place (suc room) [] next other most le k m = between_deep end expected outer marks place most (omega arith)
optional_deep levels some contents reads term expected left end outer marks place (suc room) (octet ∷ octets) next other most le k m =
    when_holds (IsNoDeeper most) (octet == tag_of term) _ _
    (then_deep most (begun contents term (container_of end left ∷ outer) marks place (octet ∷ octets)) next (begun_deep levels some contents reads term (container_of end left ∷ outer) marks place (octet ∷ octets) most (omega arith)) k) m

ended_deep : (expected : Expected) (end : ℕ) (outer : List Container) (marks : List Mark) (place room : ℕ) (octets : List ℕ) (most : ℕ) → length outer + 1 ≤ most → IsNoDeeper most (scan_end expected end outer marks place room octets)
ended_deep expected end outer marks place zero octets most le = past_deep most
ended_deep expected end outer marks place (suc room) [] most le = between_deep end expected outer marks place most le
ended_deep expected end outer marks place (suc room) (octet ∷ octets) most le = fault_deep most

each_deep : (levels : ℕ) → 1 ≤ levels → (contents : Reader) → ReadsTo levels contents → (term : Term) (bound : ℕ) (end : ℕ) (outer : List Container) (marks : List Mark) (place room : ℕ) (octets : List ℕ) (most : ℕ) → length outer + 1 + levels ≤ most → IsNoDeeper most (scan_each (begun contents term) term bound end outer marks place room octets)
each_deep levels some contents reads term bound end outer marks place zero octets most le = past_deep most
each_deep levels some contents reads term zero end outer marks place (suc room) octets most le = between_deep end (Each term) outer marks place most (omega arith)
each_deep levels some contents reads term (suc bound) end outer marks place (suc room) octets most le =
    required_deep levels some contents reads term (Each term) (Each term) end outer marks place (suc room) octets _ most le
    (λ marks_then there rest. each_deep levels some contents reads term bound end outer marks_then there (end - there) rest most le)

mutual
  pub contents_deep : (term : Term) (start count : ℕ) (stack : List Container) (marks : List Mark) (octets : List ℕ) (most : ℕ) → length stack + depth term ≤ most → IsNoDeeper most (scan_contents term start count stack marks octets)
  contents_deep (Sequence fields) start count stack marks octets most le = fields_deep fields (start + count) stack (with_mark marks (Sequence fields) start count) start count octets most (omega arith)
  contents_deep (SequenceOf empty term) start count stack marks octets most le =
      each_deep (depth term) (depth_some term) (scan_contents term) (contents_deep term) term count (start + count) stack (with_mark marks (SequenceOf empty term) start count) start count octets most (omega arith)
  contents_deep (Tagged index term) start count stack marks octets most le =
      required_deep (depth term) (depth_some term) (scan_contents term) (contents_deep term) term _ _ (start + count) stack (with_mark marks (Tagged index term) start count) start count octets _ most (omega arith)
      (λ marks_then there rest. ended_deep (OneOf []) (start + count) stack marks_then there (start + count - there) rest most (omega arith))
  contents_deep (Application number term) start count stack marks octets most le =
      required_deep (depth term) (depth_some term) (scan_contents term) (contents_deep term) term _ _ (start + count) stack (with_mark marks (Application number term) start count) start count octets _ most (omega arith)
      (λ marks_then there rest. ended_deep (OneOf []) (start + count) stack marks_then there (start + count - there) rest most (omega arith))
  contents_deep other start count stack marks octets most le = leaf_deep other start count stack marks octets most le

  fields_deep : (fields : Fields) (end : ℕ) (outer : List Container) (marks : List Mark) (place room : ℕ) (octets : List ℕ) (most : ℕ) → length outer + 1 + depth_of_fields fields ≤ most → IsNoDeeper most (scan_fields fields end outer marks place room octets)
  fields_deep End end outer marks place room octets most le = ended_deep (Listed End) end outer marks place room octets most (omega arith)
  fields_deep (Required term fields) end outer marks place room octets most le =
      required_deep (depth term) (depth_some term) (scan_contents term) (contents_deep term) term _ _ end outer marks place room octets _ most (omega arith)
      (λ marks_then there rest. fields_deep fields end outer marks_then there (end - there) rest most (omega arith))
  fields_deep (Optional term fields) end outer marks place room octets most le =
      optional_deep (depth term) (depth_some term) (scan_contents term) (contents_deep term) term _ _ end outer marks place room octets _ _ most (omega arith)
      (λ marks_then there rest. fields_deep fields end outer marks_then there (end - there) rest most (omega arith))
      (fields_deep fields end outer marks place room octets most (omega arith))

one_of_deep : (terms : List Term) (expected : Expected) (end : ℕ) (outer : List Container) (marks : List Mark) (place room : ℕ) (octets : List ℕ) (most : ℕ) → length outer + 1 + greatest_depth terms ≤ most → IsNoDeeper most (scan_one_of terms expected end outer marks place room octets)
one_of_deep [] expected end outer marks place room octets most le = ended_deep expected end outer marks place room octets most (omega arith)
one_of_deep (term ∷ terms) expected end outer marks place zero octets most le = fault_deep most
one_of_deep (term ∷ terms) expected end outer marks place (suc room) octets most le =
    optional_deep (depth term) (depth_some term) (scan_contents term) (contents_deep term) term expected (OneOf []) end outer marks place (suc room) octets _ _ most (omega arith)
    (λ marks_then there rest. ended_deep (OneOf []) end outer marks_then there (end - there) rest most (omega arith))
    (one_of_deep terms expected end outer marks place (suc room) octets most (omega arith))

-- with the message counted, and an item whose length is being read
abbrev pub OpenAtMost : ℕ → Answer → Type 0
OpenAtMost most (Ongoing state) = levels_of state ≤ most
OpenAtMost most other = Unit {0}

-- Never more than thirteen lengths are open, of terms that nest no deeper.
pub scan_deep : (terms : List Term) → greatest_depth terms ≤ 13 → (n : ℕ) (octets : List ℕ) → OpenAtMost 14 (scan terms n octets)
scan_deep terms shallow n octets = by_seen (scan_message terms n octets) (one_of_deep terms (OneOf terms) n [] [] 0 n octets 14 (omega (arith, shallow)))
  where
    by_seen : (seen : PartScan) → IsNoDeeper 14 seen → OpenAtMost 14 (answer seen)
    by_seen (Within state) h = h.no_deeper
    by_seen other h = tt {0}

pub messages_shallow : (profile : Profile) → greatest_depth (messages profile) ≤ 13
messages_shallow profile = omega (arith, messages_nest profile)

nodes_nest : leb (greatest_depth nodes) 13 ≡ true
unfolding nodes
nodes_nest = refl

at_most : (terms : List Term) (node : ℕ) (absent : Term) (most : ℕ) → greatest_depth terms ≤ most → depth absent ≤ most → depth (get_or terms node absent) ≤ most
at_most [] node absent most le a = a
at_most (term ∷ terms) zero absent most le a = omega (arith, le)
at_most (term ∷ terms) (suc node) absent most le a = at_most terms node absent most (omega (arith, le)) a

pub node_shallow : (node : ℕ) → greatest_depth (term_at node ∷ []) ≤ 13
unfolding term_in
node_shallow node = omega (arith, at_most nodes node int32 13 (leb-true (greatest_depth nodes) 13 nodes_nest) (omega arith))
