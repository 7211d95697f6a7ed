-- The octets present of a leaf, and one more.
use Rattle.std.proofs.Common.{◌≡◌, ℕ, suc, ne_eqb, ℤ, ◌+◌, ◌-◌, ◌<◌, ◌≤◌, Bool, true, ◌==◌, if◌then◌else◌, List, [], ◌∷◌, ◌++◌, length, refl, sym, ap, ◌∙◌, subst, arith}
use Rattle.std.proofs.lemmas.Bool.{eqb-true}
use Rattle.krb_der.specs.Octets.{integer_value}
use Rattle.krb_der.specs.declared.why.Why.TheVariants as why
use Rattle.krb_msg.specs.Term.{Term, Integer, Text, Octets, Time, Bits, Sequence, SequenceOf, Tagged, Application}
use Rattle.krb_msg.specs.Judgement.{Outcome, Open as OpenOutcome, Done, has_size, text_octet, time_octet}
use Rattle.krb_scan.specs.Scan as scan
use Rattle.krb_scan.specs.Scan.{leaf_outcome}
use Rattle.krb_scan.specs.inner.Numbers.{extended, in_range, integer_with, integer_next, each_next, bits_next, any_next, leaf_next}
use Rattle.krb_der.specs.declared.verdict.Verdict.{Verdict}
use Rattle.krb_scan.specs.declared.path.Path.{Path}
use Rattle.krb_scan.specs.declared.tip.Tip.{Tip as Kept}
use Rattle.krb_scan.specs.inner.Machine.{in_leaf, leafed}
use Rattle.krb_scan.specs.inner.Paths.{IsStep}
use Rattle.krb_scan.specs.inner.Outcomes.{LeafIs, LeafReads, LeafEnds}
use Rattle.krb_msg.specs.Nodes.{nodes, term_at}
use Rattle.krb_msg.specs.Table.{IsNode}
use Rattle.krb_scan.specs.State.{KeepsOf, TipIs, AreOpen}
use Rattle.krb_msg.specs.ValueOfDer.{first_or_zero}
use Rattle.krb_msg.specs.Table.{IsFormOf}
use Rattle.krb_msg.specs.declared.grammar.Slot.{Slot}
use Rattle.std.specs.Borrow.{Bor}
use Rattle.krb_msg.specs.declared.grammar.Form.TheVariants as form
use Rattle.krb_scan.specs.declared.leaf.Leaf.{Leaf}
use Rattle.krb_scan.specs.declared.tip.Tip.TheVariants as tip
use Rattle.krb_scan.proofs.Numbers.{length_push, value_push, leaf_next_right}
use Rattle.krb_scan.proofs.Stable.{Counts, leaf_counts}

-- what the octets of a leaf and one more decide, and what is kept of them
pub record GoesOn (term : Term) (count : ℕ) (octets : List ℕ) (octet : ℕ) (next : Leaf) (value : ℤ) (unused : ℕ) : Type 0 where
  pub decides : LeafIs next (leaf_outcome term count (octets ++ octet ∷ []))
  pub keeps : KeepsOf term value unused (octets ++ octet ∷ [])

-- by what is decided of one octet after others
goes_on : (term : Term) (count : ℕ) {value : ℤ} {unused : ℕ} (octet : ℕ) (octets : List ℕ) (next : Leaf) {with : ℤ} {first : ℕ} → LeafReads term count value unused octets → octet < 256 → LeafIs next (leaf_next term count (length octets) (integer_value octets) (first_or_zero octets) octet) → KeepsOf term with first (octets ++ octet ∷ []) → GoesOn term count octets octet next with first
goes_on term count octet octets next reads small h keeps = record { decides = subst (LeafIs next) (sym (leaf_next_right term count octets octet reads.are_octets small reads.open_still)) h; keeps = keeps }

-- an INTEGER
pub integer_reads : (term : Term) (low high : ℤ) (widest count seen : ℕ) (value with : ℤ) (unused octet : ℕ) (octets : List ℕ) (within : Bool) (next : Leaf) → IsFormOf nodes (form.Integer low high widest) term → LeafReads term count value unused octets → octet < 256 → seen ≡ length octets →
    with ≡ extended seen value octet → within ≡ in_range low high with → LeafIs next (integer_with within count seen value octet) → GoesOn term count octets octet next with unused
integer_reads (Integer from to) low high widest count seen value with unused octet octets within next is reads small at e f h =
    let number : with ≡ integer_value (octets ++ octet ∷ []) = e ∙ ap (λ k. extended k value octet) at ∙ ap (λ v. extended (length octets) v octet) reads.keeps.0 ∙ sym (value_push octets octet small) in
    goes_on (Integer from to) count octet octets next reads small
    (subst (λ v. LeafIs next (integer_next from to count (length octets) v octet)) reads.keeps.0
    (subst (λ k. LeafIs next (integer_next from to count k value octet)) at
    (subst (λ high_value. LeafIs next (integer_next from high_value count seen value octet)) is.1
    (subst (λ low_value. LeafIs next (integer_next low_value high count seen value octet)) is.0
    (subst (λ b. LeafIs next (integer_with b count seen value octet)) (f ∙ ap (in_range low high) e) h)))))
    (number, reads.keeps.1)
integer_reads other low high widest count seen value with unused octet octets within next is reads small at e f h = absurd is

-- a time
pub time_reads : (term : Term) (count seen : ℕ) (value : ℤ) (unused octet : ℕ) (octets : List ℕ) (next : Leaf) → IsFormOf nodes form.Time term → LeafReads term count value unused octets → octet < 256 → seen ≡ length octets → count ≡ 15 → LeafIs next (each_next time_octet why.Time 15 seen octet) → GoesOn term count octets octet next value unused
time_reads Time count seen value unused octet octets next is reads small at size h =
    goes_on Time count octet octets next reads small
    (subst (λ n. LeafIs next (each_next time_octet why.Time n (length octets) octet)) (sym size) (subst (λ k. LeafIs next (each_next time_octet why.Time 15 k octet)) at h)) reads.keeps
time_reads other count seen value unused octet octets next is reads small at size h = absurd is

first_push : (octets : List ℕ) (octet : ℕ) → (if length octets == 0 then octet else first_or_zero octets) ≡ first_or_zero (octets ++ octet ∷ [])
first_push [] octet = refl
first_push (first ∷ octets) octet = ap (λ b. if b then octet else first) (ne_eqb (suc (length octets)) 0 (λ e. omega arith))

-- a BIT STRING
pub bits_reads : (few : ℕ) (term : Term) (count seen : ℕ) (value : ℤ) (unused first octet : ℕ) (octets : List ℕ) (next : Leaf) → IsFormOf nodes (form.Bits few) term → LeafReads term count value unused octets → octet < 256 → seen ≡ length octets → first ≡ (if seen == 0 then octet else unused) → LeafIs next (bits_next few count seen unused octet) → GoesOn term count octets octet next value first
bits_reads few (Bits least) count seen value unused first octet octets next is reads small at e h =
    goes_on (Bits least) count octet octets next reads small
    (subst (λ fewest. LeafIs next (bits_next fewest count (length octets) (first_or_zero octets) octet)) is
    (subst (λ u. LeafIs next (bits_next few count (length octets) u octet)) reads.keeps.1 (subst (λ k. LeafIs next (bits_next few count k unused octet)) at h)))
    (reads.keeps.0, e ∙ ap (λ k. if k == 0 then octet else unused) at ∙ ap (λ u. if length octets == 0 then octet else u) reads.keeps.1 ∙ first_push octets octet)
bits_reads few other count seen value unused first octet octets next is reads small at e h = absurd is

-- a string
pub text_reads : (most : ℕ) (term : Term) (count seen : ℕ) (value : ℤ) (unused octet : ℕ) (octets : List ℕ) (next : Leaf) → IsFormOf nodes (form.Text most) term → LeafReads term count value unused octets → octet < 256 → seen ≡ length octets → LeafIs next (each_next (text_octet most) why.Charset count seen octet) → GoesOn term count octets octet next value unused
text_reads most (Text greatest) count seen value unused octet octets next is reads small at h =
    goes_on (Text greatest) count octet octets next reads small
    (subst (λ greatest. LeafIs next (each_next (text_octet greatest) why.Charset count (length octets) octet)) is (subst (λ k. LeafIs next (each_next (text_octet most) why.Charset count k octet)) at h)) reads.keeps
text_reads most other count seen value unused octet octets next is reads small at h = absurd is

-- a term whose contents may be any octets, or are items: those have no octets of their own, and this is what they would decide
abbrev pub IsAny : Term → Type 0
IsAny (Integer low high) = ⊥
IsAny (Text greatest) = ⊥
IsAny Time = ⊥
IsAny (Bits least) = ⊥
IsAny other = Unit {0}

pub any_reads : (term : Term) (count seen : ℕ) (value : ℤ) (unused octet : ℕ) (octets : List ℕ) (next : Leaf) → IsAny term → LeafReads term count value unused octets → octet < 256 → seen ≡ length octets → LeafIs next (any_next count seen) → GoesOn term count octets octet next value unused
any_reads (Integer low high) count seen value unused octet octets next is reads small at h = absurd is
any_reads (Text greatest) count seen value unused octet octets next is reads small at h = absurd is
any_reads Time count seen value unused octet octets next is reads small at h = absurd is
any_reads (Bits least) count seen value unused octet octets next is reads small at h = absurd is
any_reads other count seen value unused octet octets next is reads small at h = goes_on other count octet octets next reads small (subst (λ k. LeafIs next (any_next count k)) at h) reads.keeps

pub octets_any : (term : Term) → IsFormOf nodes form.Octets term → IsAny term
octets_any Octets h = tt {0}
octets_any other h = absurd h

pub items_any : (node : ℕ) (none : Bool) (term : Term) → IsFormOf nodes (form.Items node none) term → IsAny term
items_any node none (SequenceOf empty term) h = tt {0}
items_any node none other h = absurd h

pub item_any : (node : ℕ) (term : Term) → IsFormOf nodes (form.Item node) term → IsAny term
item_any node (Tagged index term) h = tt {0}
item_any node (Application number term) h = tt {0}
item_any node other h = absurd h

pub fields_any : (slots : Bor (List Slot)) (term : Term) → IsFormOf nodes (form.Fields slots) term → IsAny term
fields_any slots (Sequence fields) h = tt {0}
fields_any slots other h = absurd h

-- the number of octets of a time
pub time_size : (term : Term) (count : ℕ) → IsFormOf nodes form.Time term → has_size term count ≡ true → count ≡ 15
time_size Time count is h = eqb-true count 15 h
time_size other count is h = absurd is

-- if the octet completes a leaf, it ends there
reads_end : (term : Term) (start count scanned : ℕ) (octets : List ℕ) → has_size term count ≡ true → leaf_outcome term count octets ≡ OpenOutcome → (octet : ℕ) → scanned ≡ start + length octets + 1 → LeafEnds start count scanned (leaf_outcome term count (octets ++ octet ∷ []))
reads_end term start count scanned octets size still octet at =
    by_outcome (leaf_outcome term count (octets ++ octet ∷ [])) (leaf_counts term count (octets ++ octet ∷ []) size)
  where
    before : length octets < count
    before = subst (Counts count (length octets)) still (leaf_counts term count octets size)

    by_outcome : (outcome : Outcome) → Counts count (length (octets ++ octet ∷ [])) outcome → LeafEnds start count scanned outcome
    by_outcome (Done done) k = let le : count ≤ length (octets ++ octet ∷ []) = k in omega (arith, before, length_push octets octet)
    by_outcome other k = tt {0}

-- what is kept of them after the octet
tip_on : (node start end scanned : ℕ) (value there : ℤ) (unused : ℕ) (octets : List ℕ) (octet : ℕ) → there ≡ value → IsNode node → start ≤ end → scanned ≡ start + length octets + 1 → KeepsOf (term_at node) value unused (octets ++ octet ∷ []) →
    TipIs scanned (tip.Leaf node start end there unused) (scan.InLeaf (term_at node) start (end - start) (octets ++ octet ∷ []))
tip_on node start end scanned value there unused octets octet same known le at keeps = (known, refl, refl, omega arith, subst (λ v. KeepsOf (term_at node) v unused (octets ++ octet ∷ [])) (sym same) keeps, omega (arith, length_push octets octet))

-- the result of a step by what an octet decides of a leaf
abbrev pub LeafGoes : Path → Path → Verdict → Leaf → Kept → Type 0
LeafGoes old new result next partial =
    (stack : List scan.Container) (marks : List scan.Mark) (outcome : Outcome) (term : Term) (start count : ℕ) (octets : List ℕ) → AreOpen old.inner old.outer.items stack → LeafIs next outcome → LeafEnds start count (old.looked + 1) outcome →
    (outcome ≡ OpenOutcome → TipIs (old.looked + 1) partial (scan.InLeaf term start count octets)) → IsStep old new result (leafed outcome term start count stack marks octets)

pub goes_to : {old new : Path} {result : Verdict} {next : Leaf} {node start end : ℕ} {value there with : ℤ} {unused first octet : ℕ} {octets : List ℕ} {stack : List scan.Container} (marks : List scan.Mark) → LeafGoes old new result next (tip.Leaf node start end there first) →
    IsNode node → has_size (term_at node) (end - start) ≡ true → old.looked < end → AreOpen old.inner old.outer.items stack → LeafReads (term_at node) (end - start) value unused octets → old.looked ≡ start + length octets → there ≡ with →
    GoesOn (term_at node) (end - start) octets octet next with first → IsStep old new result (in_leaf (term_at node) start (end - start) stack marks (octets ++ octet ∷ []))
goes_to {old = old} {node = node} {start = start} {end = end} {there = there} {with = with} {first = first} {octet = octet} {octets = octets} {stack = stack} marks goes known size some containers reads at same on =
    goes stack marks _ (term_at node) start (end - start) _ containers on.decides (reads_end (term_at node) start (end - start) (old.looked + 1) octets size reads.open_still octet (omega (arith, at)))
    (λ still. tip_on node start end (old.looked + 1) with there first octets octet same known (omega (arith, at)) (omega (arith, at)) on.keeps)
