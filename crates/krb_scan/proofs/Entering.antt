-- Items whose length is whole.
use Rattle.std.proofs.Common.{◌≡◌, ℕ, pos, ◌+◌, ◌-◌, ◌<◌, true, false, ◌&&◌, if◌then◌else◌, List, [], ◌∷◌, ◌++◌, refl, sym, ap, ◌∙◌, subst, arith}
use Rattle.std.proofs.lemmas.Bool.{lt-ltb, le-ltb}
use Rattle.krb_der.specs.Octets.{when, integer_value}
use Rattle.krb_der.specs.declared.why.Why.TheVariants as why
use Rattle.krb_der.specs.declared.verdict.Verdict.TheVariants as verdict
use Rattle.krb_msg.specs.Term.{Term, Integer, Text, Octets, Time, Bits, Sequence, SequenceOf, Tagged, Application}
use Rattle.krb_msg.specs.Judgement.{Open as OpenOutcome, Bad, Done, has_size, int_le}
use Rattle.krb_scan.specs.Scan as scan
use Rattle.krb_scan.specs.Scan.{Container, Mark as Marked, with_mark, container_of, state_of, leaf_outcome}
use Rattle.krb_msg.specs.Nodes.{term_at}
use Rattle.krb_msg.specs.Table.{IsNode}
use Rattle.krb_scan.specs.Expectations.{IsKnown, expected_of}
use Rattle.krb_scan.specs.State.{AreOpen, KeepsOf}
use Rattle.krb_scan.specs.inner.Machine.{settle, enter, in_leaf, leafed, opened, requires_item}
use Rattle.krb_scan.specs.inner.Outcomes.{IsLeaf, BeginsWith}
use Rattle.krb_scan.specs.inner.Paths.{IsStep}
use Rattle.krb_scan.specs.declared.expected.Expected.{Expected}
use Rattle.krb_scan.specs.declared.open.Open.{Open}
use Rattle.krb_scan.specs.declared.path.Path.{Path}
use Rattle.krb_scan.specs.declared.tip.Tip.TheVariants as tip
use Rattle.krb_scan.proofs.Containers.{open_push}

-- a leaf without contents
leaf_is_empty : (term : Term) (start : ℕ) (stack : List Container) (marks : List Marked) → IsLeaf term → has_size term 0 ≡ true → enter term start 0 stack marks ≡ settle stack (with_mark marks term start 0) start
leaf_is_empty (Integer low high) start stack marks h fits = absurd (cc fits)
leaf_is_empty (Text greatest) start stack marks h fits = let same : start + 0 ≡ start = omega arith in ap (λ place. settle stack (with_mark marks (Text greatest) start 0) place) same
leaf_is_empty Octets start stack marks h fits = let same : start + 0 ≡ start = omega arith in ap (λ place. settle stack (with_mark marks Octets start 0) place) same
leaf_is_empty Time start stack marks h fits = absurd (cc fits)
leaf_is_empty (Bits least) start stack marks h fits = absurd (cc fits)
leaf_is_empty other start stack marks h fits = absurd h

pub enter_empty_leaf : (term : Term) (len start : ℕ) (stack : List Container) (marks : List Marked) → IsLeaf term → has_size term len ≡ true → len ≡ 0 → enter term start len stack marks ≡ settle stack (with_mark marks term start 0) start
enter_empty_leaf term len start stack marks h fits none = ap (λ count. enter term start count stack marks) none ∙ leaf_is_empty term start stack marks h (rw none at fits)

-- contents of which no octet is present are open
pub open_at_first : (term : Term) (count : ℕ) → 0 < count → leaf_outcome term count [] ≡ OpenOutcome
open_at_first (Integer low high) count h = ap (λ b. if b then OpenOutcome else if int_le low (integer_value []) && int_le (integer_value []) high then Done count else Bad (count - 1) why.Range) (lt-ltb 0 count h)
open_at_first (Bits least) count h = refl
open_at_first other count h = ap (λ b. if b then OpenOutcome else Done count) (lt-ltb 0 count h)

none_kept : (term : Term) → KeepsOf term (pos 0) 0 []
none_kept (Integer low high) = (refl, refl)
none_kept other = (refl, refl)

leaf_enters : (term : Term) (start count : ℕ) (stack : List Container) (marks : List Marked) → IsLeaf term → enter term start count stack marks ≡ in_leaf term start count stack marks []
leaf_enters (Sequence fields) start count stack marks h = absurd h
leaf_enters (SequenceOf empty term) start count stack marks h = absurd h
leaf_enters (Tagged index term) start count stack marks h = absurd h
leaf_enters (Application number term) start count stack marks h = absurd h
leaf_enters other start count stack marks h = refl

leaf_begins : (term : Term) (start len : ℕ) (stack : List Container) (marks : List Marked) → IsLeaf term → 0 < len → enter term start len stack marks ≡ scan.Ongoing (state_of marks stack (scan.InLeaf term start len []))
leaf_begins term start len stack marks leaf some =
    leaf_enters term start len stack marks leaf ∙ ap (λ outcome. leafed outcome term start len stack marks []) (open_at_first term len some)

-- a leaf with contents
pub leaf_taken : (old : Path) (node len : ℕ) (stack : List Container) (marks : List Marked) → IsNode node → IsLeaf (term_at node) → 0 < len → AreOpen old.inner old.outer.items stack →
    IsStep old (record old { tip = tip.Leaf node (old.looked + 1) (old.looked + 1 + len) (pos 0) 0 }) verdict.Open (enter (term_at node) (old.looked + 1) len stack marks)
leaf_taken old node len stack marks here leaf some containers =
    subst (IsStep old _ verdict.Open) (sym (leaf_begins (term_at node) (old.looked + 1) len stack marks leaf some)) (record {
      steps = record {
        tip = (here, refl, refl, refl, none_kept (term_at node), omega arith);
        containers = containers;
      };
    })

enters_items : (term : Term) (expected : scan.Expected) (start count : ℕ) (stack : List Container) (marks : List Marked) → BeginsWith term expected → enter term start count stack marks ≡ opened term expected start count stack marks
enters_items (Sequence fields) expected start count stack marks h = ap (λ d. opened (Sequence fields) d start count stack marks) (sym h)
enters_items (SequenceOf empty term) expected start count stack marks h = ap (λ d. opened (SequenceOf empty term) d start count stack marks) (sym h)
enters_items (Tagged index term) expected start count stack marks h = ap (λ d. opened (Tagged index term) d start count stack marks) (sym h)
enters_items (Application number term) expected start count stack marks h = ap (λ d. opened (Application number term) d start count stack marks) (sym h)
enters_items other expected start count stack marks h = absurd h

opened_empty : (term : Term) (start : ℕ) (expected : scan.Expected) (stack : List Container) (marks : List Marked) → opened term expected start 0 stack marks ≡ when (requires_item expected) (λ _. scan.Refusing (start - 1) why.Missing) (λ _. settle stack (with_mark marks term start 0) start)
opened_empty term start expected stack marks =
    ap (λ b. when b (λ _. scan.Ongoing (state_of (with_mark marks term start 0) (container_of (start + 0) expected ∷ stack) (scan.Between start))) (λ _. when (requires_item expected) (λ _. scan.Refusing (start - 1) why.Missing) (λ _. settle stack (with_mark marks term start 0) start))) (le-ltb start (start + 0) (omega arith))

enters_none : (term : Term) (len start : ℕ) (expected : scan.Expected) (stack : List Container) (marks : List Marked) → BeginsWith term expected → len ≡ 0 → enter term start len stack marks ≡ when (requires_item expected) (λ _. scan.Refusing (start - 1) why.Missing) (λ _. settle stack (with_mark marks term start 0) start)
enters_none term len start expected stack marks h none =
    enters_items term expected start len stack marks h ∙ ap (λ count. opened term expected start count stack marks) none ∙ opened_empty term start expected stack marks

pub enter_empty : (term : Term) (len start : ℕ) (expected : scan.Expected) (stack : List Container) (marks : List Marked) → BeginsWith term expected → len ≡ 0 → requires_item expected ≡ false → enter term start len stack marks ≡ settle stack (with_mark marks term start 0) start
enter_empty term len start expected stack marks h none all =
    enters_none term len start expected stack marks h none ∙ ap (λ b. when b (λ _. scan.Refusing (start - 1) why.Missing) (λ _. settle stack (with_mark marks term start 0) start)) all

enters_some : (term : Term) (len start : ℕ) (expected : scan.Expected) (stack : List Container) (marks : List Marked) → BeginsWith term expected → 0 < len → enter term start len stack marks ≡ scan.Ongoing (state_of (with_mark marks term start len) (container_of (start + len) expected ∷ stack) (scan.Between start))
enters_some term len start expected stack marks h some =
    enters_items term expected start len stack marks h
    ∙ ap (λ b. when b (λ _. scan.Ongoing (state_of (with_mark marks term start len) (container_of (start + len) expected ∷ stack) (scan.Between start))) (λ _. when (requires_item expected) (λ _. scan.Refusing (start - 1) why.Missing) (λ _. settle stack (with_mark marks term start len) start))) (lt-ltb start (start + len) (omega arith))

-- the container that an item becomes
abbrev pub entered : Path → ℕ → Expected → Open
entered path len first = record { end = path.looked + 1 + len; expected = first }

-- an item with items
pub items_taken : (old new : Path) (node len : ℕ) (first : Expected) (stack : List Container) (marks : List Marked) → IsKnown first → BeginsWith (term_at node) (expected_of first) → 0 < len → AreOpen old.inner old.outer.items stack →
    new.tip ≡ tip.Between → new.inner ≡ entered old len first → new.outer.items ≡ old.outer.items ++ old.inner ∷ [] → IsStep old new verdict.Open (enter (term_at node) (old.looked + 1) len stack marks)
items_taken old new node len first stack marks listed h some containers at_tip inside outer =
    let container : Container = container_of (old.looked + 1 + len) (expected_of first) in
    subst (IsStep old new verdict.Open) (sym (enters_some (term_at node) len (old.looked + 1) (expected_of first) stack marks h some)) (record {
      steps = record {
        tip = rw at_tip refl;
        containers = subst (λ some. AreOpen new.inner some (container ∷ stack)) (sym outer) (subst (λ top. AreOpen top (old.outer.items ++ old.inner ∷ []) (container ∷ stack)) (sym inside)
            (open_push old.inner (entered old len first) old.outer.items stack container containers (record { end = refl; known = listed; expected = refl })));
      };
    })
