-- The machine goes on as the scan of the whole list does.
use Rattle.std.proofs.Common.{◌≡◌, ℕ, zero, suc, ◌+◌, ◌-◌, ◌<◌, ◌≤◌, Bool, true, false, ◌&&◌, ◌==◌, nat_lt, List, [], ◌∷◌, ◌++◌, length, take, drop, Some, None, refl, sym, ap, ◌∙◌, arith, append_assoc, append-nil, subst}
use Rattle.std.proofs.lemmas.List.{length-append, length-take}
use Rattle.std.proofs.Math.Seq.{take-append_seam, drop-append_seam, take-append-add}
use Rattle.std.proofs.lemmas.Bool.{ltb-true, ltb-false}
use Rattle.krb_der.specs.Octets.{when}
use Rattle.krb_der.specs.declared.why.Why.{Why}
use Rattle.krb_der.specs.declared.why.Why.TheVariants as why
use Rattle.krb_msg.specs.Term.{Term, Fields, Sequence, SequenceOf, Tagged, Application, End, Required, Optional, tag_of}
use Rattle.krb_msg.specs.Judgement.{Outcome, Open, Bad, Done, Head, Partial, Refused, Got, head, has_size}
use Rattle.krb_scan.specs.Scan.{Mark, Expected, Listed, Each, OneOf, Container, Tip, Between, InHead, InLeaf, State, PartScan, Within, Fault, Past, scan_then, limit, sole_in, container_of, mark_of, state_of, with_mark, leaf_outcome, leaf_value, of_leaf, scan_leaf, scan_after_head, scan_head, begun, between, scan_only, scan_each, scan_contents, scan_fields, scan_one_of, scan_message, Answer, Ongoing, Refusing, Whole, answer, scan}
use Rattle.krb_scan.specs.inner.Machine.{Pick, pick_field, pick_one_of, pick, requires_field, requires_item, settle, leafed, in_leaf, opened, enter, headed, tagged, picked, step_between, step_at, step, go_on, initial}
use Rattle.krb_scan.proofs.Basics.{enters_holds, when_holds, when_knows, when_same, then_same, then_assoc}
use Rattle.krb_scan.proofs.Progress.{ItemReader, ItemAdvances, begun_advances, contents_advance}
use Rattle.krb_scan.proofs.Stable.{SameOnce, head_stays, EndsAt, IsPartial, head_ends, Counts, leaf_counts, SameFault, leaf_fault}

-- the rest of a container's contents
abbrev pub scan_expected : Expected → ℕ → List Container → List Mark → ℕ → List ℕ → PartScan
scan_expected (Listed fields) end outer marks place octets = scan_fields fields end outer marks place (end - place) octets
scan_expected (Each term) end outer marks place octets = scan_each (begun (scan_contents term) term) term (end - place) end outer marks place (end - place) octets
scan_expected (OneOf terms) end outer marks place octets = scan_one_of terms (OneOf terms) end outer marks place (end - place) octets

-- the rest of the open containers' contents, from the inner to the outer
abbrev pub scan_rest : List Container → List Mark → ℕ → List ℕ → PartScan
scan_rest [] marks place octets = Past marks place octets
scan_rest (container ∷ outer) marks place octets = scan_then (scan_expected container.expected container.end outer marks place octets) (scan_rest outer)

abbrev pub resume_at : Tip → List Container → List Mark → List ℕ → PartScan
resume_at (Between place) stack marks octets = scan_rest stack marks place octets
resume_at (InHead term from present) stack marks octets = scan_then (scan_head (scan_contents term) term stack marks from (present ++ octets)) (scan_rest stack)
resume_at (InLeaf term start count present) stack marks octets = scan_then (scan_leaf term start count stack marks (present ++ octets)) (scan_rest stack)

-- the answer to further octets of a message, from a state
abbrev pub resume : State → List ℕ → Answer
resume state octets = answer (resume_at state.tip state.stack state.marks octets)

-- ---- the item that an octet begins

abbrev pub scan_pick : Pick → ℕ → List Container → List Mark → ℕ → List ℕ → PartScan
scan_pick None end outer marks place octets = Fault place why.Tag
scan_pick (Some choice) end outer marks place octets = scan_then (begun (scan_contents choice.0) choice.0 (container_of end choice.1 ∷ outer) marks place octets) (scan_expected choice.1 end outer)

pick_when : (b : Bool) (x y : Unit {0} → PartScan) (chosen other : Unit {0} → Pick) (end : ℕ) (outer : List Container) (marks : List Mark) (place : ℕ) (octets : List ℕ) →
    x tt ≡ scan_pick (chosen tt) end outer marks place octets → y tt ≡ scan_pick (other tt) end outer marks place octets → when b x y ≡ scan_pick (when b chosen other) end outer marks place octets
pick_when true x y chosen other end outer marks place octets e f = e
pick_when false x y chosen other end outer marks place octets e f = f

fields_pick : (fields : Fields) (end : ℕ) (outer : List Container) (marks : List Mark) (place room octet : ℕ) (octets : List ℕ) →
    scan_fields fields end outer marks place (suc room) (octet ∷ octets) ≡ scan_pick (pick_field octet fields) end outer marks place (octet ∷ octets)
fields_pick End end outer marks place room octet octets = refl
fields_pick (Required term fields) end outer marks place room octet octets =
    pick_when (octet == tag_of term) _ _ _ _ end outer marks place (octet ∷ octets) refl refl
fields_pick (Optional term fields) end outer marks place room octet octets =
    pick_when (octet == tag_of term) _ _ _ _ end outer marks place (octet ∷ octets) refl (fields_pick fields end outer marks place room octet octets)

one_of_pick : (terms : List Term) (expected : Expected) (end : ℕ) (outer : List Container) (marks : List Mark) (place room octet : ℕ) (octets : List ℕ) →
    scan_one_of terms expected end outer marks place (suc room) (octet ∷ octets) ≡ scan_pick (pick_one_of octet terms) end outer marks place (octet ∷ octets)
one_of_pick [] expected end outer marks place room octet octets = refl
one_of_pick (term ∷ terms) expected end outer marks place room octet octets =
    pick_when (octet == tag_of term) _ _ _ _ end outer marks place (octet ∷ octets) refl (one_of_pick terms expected end outer marks place room octet octets)

-- the item of a tag is one of one term
only_right : (term : Term) (end : ℕ) (outer : List Container) (marks : List Mark) (place room : ℕ) (octets : List ℕ) →
    scan_only (begun (scan_contents term) term) term end outer marks place room octets ≡ scan_one_of (term ∷ []) (OneOf (term ∷ [])) end outer marks place room octets
only_right term end outer marks place zero octets = refl
only_right term end outer marks place (suc room) [] = refl
only_right term end outer marks place (suc room) (octet ∷ octets) = refl

-- the bound on how many items there are does not matter
each_bound : (one : ItemReader) → ItemAdvances one → (term : Term) (b c : ℕ) (end : ℕ) (outer : List Container) (marks : List Mark) (place room : ℕ) (octets : List ℕ) →
    room ≡ end - place → room ≤ b → room ≤ c → scan_each one term b end outer marks place room octets ≡ scan_each one term c end outer marks place room octets
each_bound one h term zero c end outer marks place (suc room) octets e p q = absurd (omega arith)
each_bound one h term (suc b) zero end outer marks place (suc room) octets e p q = absurd (omega arith)
each_bound one h term (suc b) (suc c) end outer marks place (suc room) (octet ∷ octets) e p q =
    when_same (octet == tag_of term) _ _ _ _
    (then_same (suc place) (one (container_of end (Each term) ∷ outer) marks place (octet ∷ octets)) _ _ (h (container_of end (Each term) ∷ outer) marks place (octet ∷ octets))
    (λ marks_then there rest le. each_bound one h term b c end outer marks_then there (end - there) rest refl (omega arith) (omega arith)))
    refl
each_bound one h term other another end outer marks place third fourth e p q = refl

each_pick : (term : Term) (bound : ℕ) (end : ℕ) (outer : List Container) (marks : List Mark) (place room octet : ℕ) (octets : List ℕ) →
    room ≡ end - place → 0 < room → room ≤ bound →
    scan_each (begun (scan_contents term) term) term bound end outer marks place room (octet ∷ octets) ≡ scan_pick (pick octet (Each term)) end outer marks place (octet ∷ octets)
each_pick term bound end outer marks place zero octet octets e h p = absurd (omega arith)
each_pick term zero end outer marks place (suc room) octet octets e h p = absurd (omega arith)
each_pick term (suc bound) end outer marks place (suc room) octet octets e h p =
    let advances : ItemAdvances (begun (scan_contents term) term) = begun_advances (scan_contents term) (contents_advance term) term in
    pick_when (octet == tag_of term) _ _ _ _ end outer marks place (octet ∷ octets)
    (then_same (suc place) (begun (scan_contents term) term (container_of end (Each term) ∷ outer) marks place (octet ∷ octets)) _ _ (advances (container_of end (Each term) ∷ outer) marks place (octet ∷ octets))
    (λ marks_then there rest le. each_bound (begun (scan_contents term) term) advances term bound (end - there) end outer marks_then there (end - there) rest refl (omega arith) (omega arith)))
    refl

pub expected_pick : (expected : Expected) (end : ℕ) (outer : List Container) (marks : List Mark) (place octet : ℕ) (octets : List ℕ) → place < end →
    scan_expected expected end outer marks place (octet ∷ octets) ≡ scan_pick (pick octet expected) end outer marks place (octet ∷ octets)
expected_pick (Listed fields) end outer marks place octet octets h = by_room (end - place) (omega arith)
  where
    by_room : (room : ℕ) → 0 < room → scan_fields fields end outer marks place room (octet ∷ octets) ≡ scan_pick (pick_field octet fields) end outer marks place (octet ∷ octets)
    by_room zero p = absurd (omega arith)
    by_room (suc room) p = fields_pick fields end outer marks place room octet octets
expected_pick (Each term) end outer marks place octet octets h =
    each_pick term (end - place) end outer marks place (end - place) octet octets refl (omega arith) (omega arith)
expected_pick (OneOf terms) end outer marks place octet octets h = by_room (end - place) (omega arith)
  where
    by_room : (room : ℕ) → 0 < room → scan_one_of terms (OneOf terms) end outer marks place room (octet ∷ octets) ≡ scan_pick (pick_one_of octet terms) end outer marks place (octet ∷ octets)
    by_room zero p = absurd (omega arith)
    by_room (suc room) p = one_of_pick terms (OneOf terms) end outer marks place room octet octets

-- ---- containers that are full

fields_full : (fields : Fields) (end : ℕ) (outer : List Container) (marks : List Mark) (place : ℕ) (octets : List ℕ) →
    scan_fields fields end outer marks place zero octets ≡ when (requires_field fields) (λ _. Fault (place - 1) why.Missing) (λ _. Past marks place octets)
fields_full (Optional term fields) end outer marks place octets = fields_full fields end outer marks place octets
fields_full other end outer marks place octets = refl

one_of_full : (terms : List Term) (expected : Expected) (end : ℕ) (outer : List Container) (marks : List Mark) (place : ℕ) (octets : List ℕ) →
    scan_one_of terms expected end outer marks place zero octets ≡ when (requires_item (OneOf terms)) (λ _. Fault (place - 1) why.Missing) (λ _. Past marks place octets)
one_of_full [] expected end outer marks place octets = refl
one_of_full (term ∷ terms) expected end outer marks place octets = refl

expected_full : (expected : Expected) (end : ℕ) (outer : List Container) (marks : List Mark) (place : ℕ) (octets : List ℕ) → end ≤ place →
    scan_expected expected end outer marks place octets ≡ when (requires_item expected) (λ _. Fault (place - 1) why.Missing) (λ _. Past marks place octets)
expected_full (Listed fields) end outer marks place octets h = by_room (end - place) (omega arith)
  where
    by_room : (room : ℕ) → room ≡ 0 → scan_fields fields end outer marks place room octets ≡ when (requires_field fields) (λ _. Fault (place - 1) why.Missing) (λ _. Past marks place octets)
    by_room zero e = fields_full fields end outer marks place octets
    by_room (suc room) e = absurd (omega arith)
expected_full (Each term) end outer marks place octets h = by_room (end - place) (end - place) (omega arith)
  where
    by_room : (bound room : ℕ) → room ≡ 0 → scan_each (begun (scan_contents term) term) term bound end outer marks place room octets ≡ Past marks place octets
    by_room bound zero e = refl
    by_room bound (suc room) e = absurd (omega arith)
expected_full (OneOf terms) end outer marks place octets h = by_room (end - place) (omega arith)
  where
    by_room : (room : ℕ) → room ≡ 0 → scan_one_of terms (OneOf terms) end outer marks place room octets ≡ when (requires_item (OneOf terms)) (λ _. Fault (place - 1) why.Missing) (λ _. Past marks place octets)
    by_room zero e = one_of_full terms (OneOf terms) end outer marks place octets
    by_room (suc room) e = absurd (omega arith)

-- completing the full containers has the answer of the rest of those that are not complete
pub settle_right : (stack : List Container) (marks : List Mark) (place : ℕ) (octets : List ℕ) →
    answer (scan_rest stack marks place octets) ≡ go_on (settle stack marks place) (λ state. resume state octets)
settle_right [] marks place octets = refl
settle_right (container ∷ outer) marks place octets = by_room (nat_lt place (container.end)) refl (settle_right outer marks place octets)
  where
    by_requires : (b : Bool) → answer (scan_rest outer marks place octets) ≡ go_on (settle outer marks place) (λ state. resume state octets) →
        answer (scan_then (when b (λ _. Fault (place - 1) why.Missing) (λ _. Past marks place octets)) (scan_rest outer))
        ≡ go_on (when b (λ _. Refusing (place - 1) why.Missing) (λ _. settle outer marks place)) (λ state. resume state octets)
    by_requires true ih = refl
    by_requires false ih = ih

    by_room : (b : Bool) → nat_lt place (container.end) ≡ b → answer (scan_rest outer marks place octets) ≡ go_on (settle outer marks place) (λ state. resume state octets) →
        answer (scan_then (scan_expected container.expected container.end outer marks place octets) (scan_rest outer))
        ≡ go_on (when b (λ _. Ongoing (state_of marks (container ∷ outer) (Between place))) (λ _. when (requires_item container.expected) (λ _. Refusing (place - 1) why.Missing) (λ _. settle outer marks place))) (λ state. resume state octets)
    by_room true e ih = refl
    by_room false e ih =
        ap (λ seen. answer (scan_then seen (scan_rest outer))) (expected_full container.expected container.end outer marks place octets (ltb-false place (container.end) e)) ∙ by_requires (requires_item container.expected) ih

-- ---- an item's tag

tagged_right : (term : Term) (stack : List Container) (marks : List Mark) (from octet : ℕ) (octets : List ℕ) →
    answer (scan_then (begun (scan_contents term) term stack marks from (octet ∷ octets)) (scan_rest stack)) ≡ go_on (tagged term stack marks from octet) (λ state. resume state octets)
tagged_right term stack marks from octet octets = by_room (limit stack - from == 1)
  where
    by_room : (b : Bool) → answer (scan_then (when b (λ _. Fault from why.Overrun) (λ _. scan_head (scan_contents term) term stack marks from (octet ∷ octets))) (scan_rest stack))
        ≡ go_on (when b (λ _. Refusing from why.Overrun) (λ _. Ongoing (state_of marks stack (InHead term from (octet ∷ []))))) (λ state. resume state octets)
    by_room true = refl
    by_room false = refl

picked_right : (choice : Pick) (end : ℕ) (outer : List Container) (marks : List Mark) (place octet : ℕ) (octets : List ℕ) →
    answer (scan_then (scan_pick choice end outer marks place (octet ∷ octets)) (scan_rest outer)) ≡ go_on (picked choice end outer marks place octet) (λ state. resume state octets)
picked_right None end outer marks place octet octets = refl
picked_right (Some choice) end outer marks place octet octets =
    ap answer (then_assoc (begun (scan_contents choice.0) choice.0 (container_of end choice.1 ∷ outer) marks place (octet ∷ octets)) (scan_expected choice.1 end outer) (scan_rest outer))
    ∙ tagged_right choice.0 (container_of end choice.1 ∷ outer) marks place octet octets

then_past : (seen : PartScan) → answer (scan_then seen (scan_rest [])) ≡ answer seen
then_past (Within state) = refl
then_past (Fault place reason) = refl
then_past (Past marks place rest) = refl

-- ---- a leaf's contents

leaf_done : (term : Term) (start count present : ℕ) (stack : List Container) (marks : List Mark) (all octets rest : List ℕ) →
    leaf_outcome term count (take count all) ≡ Done present → take count all ≡ octets → drop count all ≡ rest →
    scan_leaf term start count stack marks all ≡ Past (marks ++ mark_of term start count (leaf_value term octets) ∷ []) (start + count) rest
leaf_done term start count present stack marks all octets rest e f g =
    ap (λ outcome. of_leaf outcome term start count stack marks all) e
    ∙ ap (λ known. Past (marks ++ mark_of term start count (leaf_value term known) ∷ []) (start + count) (drop count all)) f
    ∙ ap (λ left. Past (marks ++ mark_of term start count (leaf_value term octets) ∷ []) (start + count) left) g

take_within : (count : ℕ) (octets more : List ℕ) → length octets ≤ count → take count (octets ++ more) ≡ octets ++ take (count - length octets) more
take_within count octets more h =
    let e : length octets + (count - length octets) ≡ count = omega arith in
    let k : take (length octets + (count - length octets)) (octets ++ more) ≡ octets ++ take (count - length octets) more = take-append-add octets more (count - length octets) in
    rw e at k

leaf_right : (term : Term) (start count : ℕ) (stack : List Container) (marks : List Mark) (present octets : List ℕ) →
    has_size term count ≡ true → length present ≤ count →
    answer (scan_then (scan_leaf term start count stack marks (present ++ octets)) (scan_rest stack)) ≡ go_on (in_leaf term start count stack marks present) (λ state. resume state octets)
leaf_right term start count stack marks present octets size fits = by_outcome (leaf_outcome term count present) refl
  where
    by_outcome : (now : Outcome) → leaf_outcome term count present ≡ now →
        answer (scan_then (scan_leaf term start count stack marks (present ++ octets)) (scan_rest stack)) ≡ go_on (leafed now term start count stack marks present) (λ state. resume state octets)
    by_outcome Open e = refl
    by_outcome (Bad offset reason) e =
        let part : List ℕ = take (count - length present) octets in
        let here : take count (present ++ octets) ≡ present ++ part = take_within count present octets fits in
        let short : length (present ++ part) ≤ count = omega (arith, length-append present part, length-take (count - length present) octets) in
        let same : SameFault (leaf_outcome term count present) (leaf_outcome term count (present ++ part)) = leaf_fault term count present part short in
        let there : leaf_outcome term count (present ++ part) ≡ Bad offset reason = rw e at same in
        ap (λ outcome. answer (scan_then (of_leaf outcome term start count stack marks (present ++ octets)) (scan_rest stack))) (ap (leaf_outcome term count) here ∙ there)
    by_outcome (Done total) e =
        let counts : Counts count (length present) (leaf_outcome term count present) = leaf_counts term count present size in
        let enough : count ≤ length present = rw e at counts in
        let exact : length present ≡ count = omega arith in
        let prefix : take (length present) (present ++ octets) ≡ present = take-append_seam present octets in
        let prefix_at : take count (present ++ octets) ≡ present = rw exact at prefix in
        let back : drop (length present) (present ++ octets) ≡ octets = drop-append_seam present octets in
        let back_at : drop count (present ++ octets) ≡ octets = rw exact at back in
        ap (λ seen. answer (scan_then seen (scan_rest stack))) (leaf_done term start count total stack marks (present ++ octets) present octets (ap (leaf_outcome term count) prefix_at ∙ e) prefix_at back_at)
        ∙ settle_right stack (marks ++ mark_of term start count (leaf_value term present) ∷ []) (start + count) octets

-- ---- an item's contents

add_back : (start count : ℕ) → start + count - start ≡ count
add_back start count = omega arith

-- the contents of a tag
tag_right : (tag term : Term) (start count : ℕ) (stack : List Container) (marks : List Mark) (octets : List ℕ) →
    answer (scan_then (scan_only (begun (scan_contents term) term) term (start + count) stack (with_mark marks tag start count) start count octets) (scan_rest stack))
    ≡ go_on (opened tag (OneOf (term ∷ [])) start count stack marks) (λ state. resume state octets)
tag_right tag term start count stack marks octets =
    ap (λ seen. answer (scan_then seen (scan_rest stack))) (only_right term (start + count) stack (with_mark marks tag start count) start count octets)
    ∙ subst (λ room. answer (scan_then (scan_one_of (term ∷ []) (OneOf (term ∷ [])) (start + count) stack (with_mark marks tag start count) start room octets) (scan_rest stack)) ≡ go_on (opened tag (OneOf (term ∷ [])) start count stack marks) (λ state. resume state octets))
    (add_back start count) (settle_right (container_of (start + count) (OneOf (term ∷ [])) ∷ stack) (with_mark marks tag start count) start octets)

pub enter_right : (term : Term) (start count : ℕ) (stack : List Container) (marks : List Mark) (octets : List ℕ) → has_size term count ≡ true →
    answer (scan_then (scan_contents term start count stack marks octets) (scan_rest stack)) ≡ go_on (enter term start count stack marks) (λ state. resume state octets)
enter_right (Sequence fields) start count stack marks octets size =
    subst (λ room. answer (scan_then (scan_fields fields (start + count) stack (with_mark marks (Sequence fields) start count) start room octets) (scan_rest stack)) ≡ go_on (enter (Sequence fields) start count stack marks) (λ state. resume state octets))
    (add_back start count) (settle_right (container_of (start + count) (Listed fields) ∷ stack) (with_mark marks (Sequence fields) start count) start octets)
enter_right (SequenceOf empty term) start count stack marks octets size =
    subst (λ room. answer (scan_then (scan_each (begun (scan_contents term) term) term room (start + count) stack (with_mark marks (SequenceOf empty term) start count) start room octets) (scan_rest stack)) ≡ go_on (enter (SequenceOf empty term) start count stack marks) (λ state. resume state octets))
    (add_back start count) (settle_right (container_of (start + count) (Each term) ∷ stack) (with_mark marks (SequenceOf empty term) start count) start octets)
enter_right (Tagged index term) start count stack marks octets size = tag_right (Tagged index term) term start count stack marks octets
enter_right (Application number term) start count stack marks octets size = tag_right (Application number term) term start count stack marks octets
enter_right other start count stack marks octets size = leaf_right other start count stack marks [] octets size (omega arith)

-- an item's header that is longer by an octet
headed_right : (term : Term) (stack : List Container) (marks : List Mark) (from : ℕ) (present octets : List ℕ) →
    EndsAt (length present) (head (limit stack - from) present) →
    answer (scan_then (scan_head (scan_contents term) term stack marks from (present ++ octets)) (scan_rest stack))
    ≡ go_on (headed (head (limit stack - from) present) term stack marks from present) (λ state. resume state octets)
headed_right term stack marks from present octets ends =
    by_head (head (limit stack - from) present) (head_stays (limit stack - from) present octets) ends
  where
    by_size : (b : Bool) (header count : ℕ) → has_size term count ≡ b → header ≡ length present →
        answer (scan_then (when b (λ _. scan_contents term (from + header) count stack marks (drop header (present ++ octets))) (λ _. Fault (from + header - 1) why.Size)) (scan_rest stack))
        ≡ go_on (when b (λ _. enter term (from + header) count stack marks) (λ _. Refusing (from + header - 1) why.Size)) (λ state. resume state octets)
    by_size true header count e f =
        let back : drop (length present) (present ++ octets) ≡ octets = drop-append_seam present octets in
        let back_at : drop header (present ++ octets) ≡ octets = rw f back in
        ap (λ left. answer (scan_then (scan_contents term (from + header) count stack marks left) (scan_rest stack))) back_at ∙ enter_right term (from + header) count stack marks octets e
    by_size false header count e f = refl

    by_loose : (b : Bool) (header count : ℕ) → header ≡ length present →
        answer (scan_then (when b (λ _. Fault (from + header - 1) why.Loose) (λ _. when (has_size term count) (λ _. scan_contents term (from + header) count stack marks (drop header (present ++ octets))) (λ _. Fault (from + header - 1) why.Size))) (scan_rest stack))
        ≡ go_on (when b (λ _. Refusing (from + header - 1) why.Loose) (λ _. when (has_size term count) (λ _. enter term (from + header) count stack marks) (λ _. Refusing (from + header - 1) why.Size))) (λ state. resume state octets)
    by_loose true header count f = refl
    by_loose false header count f = by_size (has_size term count) header count refl f

    along : (later now : Head) → later ≡ now → (given : Answer) →
        answer (scan_then (scan_after_head now (scan_contents term) term stack marks from (present ++ octets)) (scan_rest stack)) ≡ given →
        answer (scan_then (scan_after_head later (scan_contents term) term stack marks from (present ++ octets)) (scan_rest stack)) ≡ given
    along later now e given h = ap (λ got. answer (scan_then (scan_after_head got (scan_contents term) term stack marks from (present ++ octets)) (scan_rest stack))) e ∙ h

    by_head : (now : Head) → SameOnce now (head (limit stack - from) (present ++ octets)) → EndsAt (length present) now →
        answer (scan_then (scan_after_head (head (limit stack - from) (present ++ octets)) (scan_contents term) term stack marks from (present ++ octets)) (scan_rest stack))
        ≡ go_on (headed now term stack marks from present) (λ state. resume state octets)
    by_head Partial same f = refl
    by_head (Refused offset reason) same f = along _ (Refused offset reason) same _ refl
    by_head (Got header count) same f = along _ (Got header count) same _ (by_loose (sole_in stack && nat_lt (header + count) (limit stack - from)) header count f)

-- ---- states that the machine reaches

abbrev pub HasRoom : ℕ → List Container → Type 0
HasRoom place [] = ⊥
HasRoom place (container ∷ outer) = place < container.end

abbrev pub IsReached : Tip → List Container → List Mark → Type 0
IsReached (Between place) stack marks = HasRoom place stack
IsReached (InHead term from octets) stack marks = head (limit stack - from) octets ≡ Partial
IsReached (InLeaf term start count octets) stack marks = (has_size term count ≡ true) × (leaf_outcome term count octets ≡ Open)

-- a state in which an octet is expected
pub record Reached (state : State) : Type 0 where
  pub at : IsReached state.tip state.stack state.marks

abbrev pub IsReachedAnswer : Answer → Type 0
IsReachedAnswer (Ongoing state) = Reached state
IsReachedAnswer other = Unit {0}

pub record ReachedAnswer (given : Answer) : Type 0 where
  pub reached : IsReachedAnswer given

pub ongoing_reached : (state : State) → Reached state → ReachedAnswer (Ongoing state)
ongoing_reached state h = record { reached = h }

refusing_reached : (place : ℕ) (reason : Why) → ReachedAnswer (Refusing place reason)
refusing_reached place reason = record { reached = tt {0} }

pub settle_reached : (stack : List Container) (marks : List Mark) (place : ℕ) → ReachedAnswer (settle stack marks place)
settle_reached [] marks place = record { reached = tt {0} }
settle_reached (container ∷ outer) marks place =
    when_knows ReachedAnswer (nat_lt place (container.end)) _ _
    (λ e. ongoing_reached (state_of marks (container ∷ outer) (Between place)) (record { at = ltb-true place (container.end) e }))
    (λ e. when_holds ReachedAnswer (requires_item container.expected) _ _ (refusing_reached (place - 1) why.Missing) (settle_reached outer marks place))

in_leaf_reached : (term : Term) (start count : ℕ) (stack : List Container) (marks : List Mark) (octets : List ℕ) → has_size term count ≡ true → ReachedAnswer (in_leaf term start count stack marks octets)
in_leaf_reached term start count stack marks octets size = by_outcome (leaf_outcome term count octets) refl
  where
    by_outcome : (now : Outcome) → leaf_outcome term count octets ≡ now → ReachedAnswer (leafed now term start count stack marks octets)
    by_outcome Open e = ongoing_reached (state_of marks stack (InLeaf term start count octets)) (record { at = (size, e) })
    by_outcome (Bad offset reason) e = refusing_reached (start + offset) reason
    by_outcome (Done total) e = settle_reached stack _ (start + count)

enter_reached : (term : Term) (start count : ℕ) (stack : List Container) (marks : List Mark) → has_size term count ≡ true → ReachedAnswer (enter term start count stack marks)
enter_reached term start count stack marks size =
    enters_holds ReachedAnswer term start count stack marks (in_leaf_reached term start count stack marks [] size) (λ expected. settle_reached (container_of (start + count) expected ∷ stack) (with_mark marks term start count) start)

headed_reached : (term : Term) (stack : List Container) (marks : List Mark) (from : ℕ) (octets : List ℕ) → ReachedAnswer (headed (head (limit stack - from) octets) term stack marks from octets)
headed_reached term stack marks from octets = by_head (head (limit stack - from) octets) refl
  where
    by_head : (now : Head) → head (limit stack - from) octets ≡ now → ReachedAnswer (headed now term stack marks from octets)
    by_head Partial e = ongoing_reached (state_of marks stack (InHead term from octets)) (record { at = e })
    by_head (Refused offset reason) e = refusing_reached (from + offset) reason
    by_head (Got header count) e =
        when_holds ReachedAnswer (sole_in stack && nat_lt (header + count) (limit stack - from)) _ _ (refusing_reached (from + header - 1) why.Loose)
        (when_knows ReachedAnswer (has_size term count) _ _ (λ size. enter_reached term (from + header) count stack marks size) (λ size. refusing_reached (from + header - 1) why.Size))

tagged_reached : (term : Term) (stack : List Container) (marks : List Mark) (from octet : ℕ) → ReachedAnswer (tagged term stack marks from octet)
tagged_reached term stack marks from octet =
    when_holds ReachedAnswer (limit stack - from == 1) _ _ (refusing_reached from why.Overrun) (ongoing_reached (state_of marks stack (InHead term from (octet ∷ []))) (record { at = refl }))

pub step_reached : (state : State) (octet : ℕ) → Reached state → ReachedAnswer (step state octet)
step_reached state octet h = by_tip state.tip h.at
  where
    by_choice : (choice : Pick) (container : Container) (outer : List Container) (place : ℕ) → ReachedAnswer (picked choice container.end outer state.marks place octet)
    by_choice None container outer place = refusing_reached place why.Tag
    by_choice (Some choice) container outer place = tagged_reached choice.0 (container_of container.end choice.1 ∷ outer) state.marks place octet

    by_stack : (stack : List Container) (place : ℕ) → ReachedAnswer (step_between stack state.marks place octet)
    by_stack [] place = record { reached = tt {0} }
    by_stack (container ∷ outer) place = by_choice (pick octet container.expected) container outer place

    by_tip : (tip : Tip) → IsReached tip state.stack state.marks → ReachedAnswer (step_at tip state.stack state.marks octet)
    by_tip (Between place) k = by_stack state.stack place
    by_tip (InHead term from octets) k = headed_reached term state.stack state.marks from (octets ++ octet ∷ [])
    by_tip (InLeaf term start count octets) k = in_leaf_reached term start count state.stack state.marks (octets ++ octet ∷ []) k.0

-- ---- the machine and the scan

-- a step by an octet
step_right : (state : State) (octet : ℕ) (octets : List ℕ) → Reached state →
    resume state (octet ∷ octets) ≡ go_on (step state octet) (λ then_state. resume then_state octets)
step_right state octet octets h = by_tip state.tip h.at
  where
    shift : (present : List ℕ) → present ++ octet ∷ octets ≡ (present ++ octet ∷ []) ++ octets
    shift present = sym (append_assoc present (octet ∷ []) octets)

    by_stack : (stack : List Container) (place : ℕ) → HasRoom place stack →
        answer (scan_rest stack state.marks place (octet ∷ octets)) ≡ go_on (step_between stack state.marks place octet) (λ then_state. resume then_state octets)
    by_stack [] place k = absurd k
    by_stack (container ∷ outer) place k =
        ap (λ seen. answer (scan_then seen (scan_rest outer))) (expected_pick container.expected container.end outer state.marks place octet octets k)
        ∙ picked_right (pick octet container.expected) container.end outer state.marks place octet octets

    by_tip : (tip : Tip) → IsReached tip state.stack state.marks →
        answer (resume_at tip state.stack state.marks (octet ∷ octets)) ≡ go_on (step_at tip state.stack state.marks octet) (λ then_state. resume then_state octets)
    by_tip (Between place) k = by_stack state.stack place k
    by_tip (InHead term from present) k =
        let partial : IsPartial (head (limit state.stack - from) present) = rw k (tt {0}) in
        ap (λ all. answer (scan_then (scan_head (scan_contents term) term state.stack state.marks from all) (scan_rest state.stack))) (shift present)
        ∙ headed_right term state.stack state.marks from (present ++ octet ∷ []) octets (head_ends (limit state.stack - from) present octet partial)
    by_tip (InLeaf term start count present) k =
        let counts : Counts count (length present) (leaf_outcome term count present) = leaf_counts term count present k.0 in
        let open_counts : length present < count = rw k.1 at counts in
        ap (λ all. answer (scan_then (scan_leaf term start count state.stack state.marks all) (scan_rest state.stack))) (shift present)
        ∙ leaf_right term start count state.stack state.marks (present ++ octet ∷ []) octets k.0 (omega (arith, length-append present (octet ∷ [])))

fields_none : (fields : Fields) (end : ℕ) (outer : List Container) (marks : List Mark) (place room : ℕ) → scan_fields fields end outer marks place (suc room) [] ≡ between (Listed fields) end outer marks place
fields_none End end outer marks place room = refl
fields_none (Required term fields) end outer marks place room = refl
fields_none (Optional term fields) end outer marks place room = refl

one_of_none : (terms : List Term) (expected : Expected) (end : ℕ) (outer : List Container) (marks : List Mark) (place room : ℕ) → scan_one_of terms expected end outer marks place (suc room) [] ≡ between expected end outer marks place
one_of_none [] expected end outer marks place room = refl
one_of_none (term ∷ terms) expected end outer marks place room = refl

expected_none : (expected : Expected) (end : ℕ) (outer : List Container) (marks : List Mark) (place : ℕ) → place < end → scan_expected expected end outer marks place [] ≡ between expected end outer marks place
expected_none (Listed fields) end outer marks place h = by_room (end - place) (omega arith)
  where
    by_room : (room : ℕ) → 0 < room → scan_fields fields end outer marks place room [] ≡ between (Listed fields) end outer marks place
    by_room zero p = absurd (omega arith)
    by_room (suc room) p = fields_none fields end outer marks place room
expected_none (Each term) end outer marks place h = by_room (end - place) (omega arith)
  where
    by_room : (room : ℕ) → 0 < room → scan_each (begun (scan_contents term) term) term room end outer marks place room [] ≡ between (Each term) end outer marks place
    by_room zero p = absurd (omega arith)
    by_room (suc room) p = refl
expected_none (OneOf terms) end outer marks place h = by_room (end - place) (omega arith)
  where
    by_room : (room : ℕ) → 0 < room → scan_one_of terms (OneOf terms) end outer marks place room [] ≡ between (OneOf terms) end outer marks place
    by_room zero p = absurd (omega arith)
    by_room (suc room) p = one_of_none terms (OneOf terms) end outer marks place room

take_past : (count : ℕ) (octets : List ℕ) → length octets ≤ count → take count octets ≡ octets
take_past zero (octet ∷ octets) le = absurd (omega arith)
take_past (suc count) (octet ∷ octets) le = ap (λ rest. octet ∷ rest) (take_past count octets (omega arith))
take_past zero [] le = refl
take_past (suc count) [] le = refl

-- no octet
pub resume_none : (state : State) → Reached state → resume state [] ≡ Ongoing state
resume_none state h = by_tip state.tip state.stack state.marks h.at
  where
    by_tip : (tip : Tip) (stack : List Container) (marks : List Mark) → IsReached tip stack marks → answer (resume_at tip stack marks []) ≡ Ongoing (state_of marks stack tip)
    by_tip (Between place) [] marks k = absurd k
    by_tip (Between place) (container ∷ outer) marks k = ap (λ seen. answer (scan_then seen (scan_rest outer))) (expected_none container.expected container.end outer marks place k)
    by_tip (InHead term from present) stack marks k =
        ap (λ all. answer (scan_then (scan_head (scan_contents term) term stack marks from all) (scan_rest stack))) (append-nil present)
        ∙ ap (λ got. answer (scan_then (scan_after_head got (scan_contents term) term stack marks from present) (scan_rest stack))) k
    by_tip (InLeaf term start count present) stack marks k =
        let counts : Counts count (length present) (leaf_outcome term count present) = leaf_counts term count present k.0 in
        let open_counts : length present < count = rw k.1 at counts in
        ap (λ all. answer (scan_then (scan_leaf term start count stack marks all) (scan_rest stack))) (append-nil present)
        ∙ ap (λ outcome. answer (scan_then (of_leaf outcome term start count stack marks present) (scan_rest stack))) (ap (leaf_outcome term count) (take_past count present (omega arith)) ∙ k.1)

-- the machine's answer after a list of octets
abbrev pub run : State → List ℕ → Answer
run state [] = Ongoing state
run state (octet ∷ octets) = go_on (step state octet) (λ then_state. run then_state octets)

pub go_on_same : (given : Answer) (f g : State → Answer) → ReachedAnswer given → ((state : State) → Reached state → f state ≡ g state) → go_on given f ≡ go_on given g
go_on_same (Ongoing state) f g h e = e state h.reached
go_on_same other f g h e = refl

pub go_on_each : (given : Answer) (f g : State → Answer) → ((state : State) → f state ≡ g state) → go_on given f ≡ go_on given g
go_on_each (Ongoing state) f g e = e state
go_on_each other f g e = refl

pub go_on_assoc : (given : Answer) (f g : State → Answer) → go_on (go_on given f) g ≡ go_on given (λ state. go_on (f state) g)
go_on_assoc (Ongoing state) f g = refl
go_on_assoc (Refusing place reason) f g = refl
go_on_assoc (Whole marks) f g = refl

pub go_on_none : (given : Answer) → go_on given (λ state. Ongoing state) ≡ given
go_on_none (Ongoing state) = refl
go_on_none (Refusing place reason) = refl
go_on_none (Whole marks) = refl

pub run_right : (state : State) (octets : List ℕ) → Reached state → resume state octets ≡ run state octets
run_right state [] h = resume_none state h
run_right state (octet ∷ octets) h =
    step_right state octet octets h
    ∙ go_on_same (step state octet) _ _ (step_reached state octet h) (λ then_state k. run_right then_state octets k)

pub run_more : (state : State) (octets : List ℕ) (octet : ℕ) → run state (octets ++ octet ∷ []) ≡ go_on (run state octets) (λ then_state. step then_state octet)
run_more state [] octet = go_on_none (step state octet)
run_more state (first ∷ octets) octet =
    go_on_each (step state first) _ _ (λ then_state. run_more then_state octets octet)
    ∙ sym (go_on_assoc (step state first) (λ then_state. run then_state octets) (λ then_state. step then_state octet))

pub initial_reached : (terms : List Term) (n : ℕ) → 0 < n → Reached (initial terms n)
initial_reached terms n h = record { at = h }

pub run_scan : (terms : List Term) (n : ℕ) (octets : List ℕ) → 0 < n → scan terms n octets ≡ run (initial terms n) octets
run_scan terms n octets h =
    sym (then_past (scan_message terms n octets))
    ∙ ap (λ room. answer (scan_then (scan_one_of terms (OneOf terms) n [] [] 0 room octets) (scan_rest []))) room
    ∙ run_right (initial terms n) octets (initial_reached terms n h)
  where
    room : n ≡ n - 0
    room = omega arith

-- The scan of one octet more is a step of the machine from the scan without it.
pub scan_step : (terms : List Term) (n : ℕ) (octets : List ℕ) (octet : ℕ) → 0 < n → scan terms n (octets ++ octet ∷ []) ≡ go_on (scan terms n octets) (λ state. step state octet)
scan_step terms n octets octet h =
    run_scan terms n (octets ++ octet ∷ []) h
    ∙ run_more (initial terms n) octets octet
    ∙ ap (λ given. go_on given (λ state. step state octet)) (sym (run_scan terms n octets h))
