-- Facts of a path that has scanned octets.
use Rattle.std.proofs.Common.{◌≡◌, ℕ, suc, ℤ, pos, negsuc, ◌+◌, ◌-◌, ◌*◌, ◌<◌, ◌≤◌, ◌^◌, ◌≤ℤ◌, ◌<ℤ◌, Bool, true, false, ◌||◌, nat_lt, nat_le, max, if◌then◌else◌, List, [], ◌∷◌, ◌++◌, length, refl, sym, ap, ◌∙◌, subst, arith, rules, FitsSigned, w64}
use Rattle.std.proofs.lemmas.Bool.{ltb-false, leb-true, and_parts}
use Rattle.std.proofs.lemmas.Int.{ints}
use Rattle.krb_der.specs.inner.Numbers.{AreOctets-complement}
use Rattle.krb_der.proofs.Sizes.{length-complement}
use Rattle.krb_der.specs.Octets.{AreOctets, number, complement, integer_octets, integer_value}
use Rattle.krb_der.specs.inner.Numbers.{AreOctets-complement}
use Rattle.krb_der.proofs.Sizes.{length-complement}
use Rattle.krb_msg.specs.Term.{Term, Integer, Bits}
use Rattle.krb_msg.specs.Judgement.{Head, Partial, Refused, Got, Open as OpenOutcome, head, has_size, bits_contents}
use Rattle.krb_scan.specs.Scan as scan
use Rattle.krb_scan.specs.Scan.{Container, Mark as Marked, Tip, Between, InHead, InLeaf, Ongoing, limit, leaf_outcome}
use Rattle.krb_scan.specs.inner.Machine.{step, step_at, go_on}
use Rattle.krb_scan.specs.inner.Outcomes.{HeadIs, HeadEnds, IsShort, LeafReads}
use Rattle.krb_msg.specs.Nodes.{term_at}
use Rattle.krb_msg.specs.Table.{IsNode}
use Rattle.krb_scan.specs.State.{AreOpen, TipIs, KeepsOf}
use Rattle.krb_msg.specs.ValueOfDer.{first_or_zero}
use Rattle.krb_msg.specs.Nodes.{nodes}
use Rattle.krb_msg.specs.Table.{IsFormOf}
use Rattle.krb_msg.specs.declared.grammar.Form.{Form}
use Rattle.krb_msg.specs.declared.grammar.Form.TheVariants as form
use Rattle.krb_scan.specs.inner.Paths.{IsPathOf}
use Rattle.krb_scan.specs.declared.head.Head.{Head as Found}
use Rattle.krb_scan.specs.declared.head.Head.TheVariants as found
use Rattle.krb_scan.specs.declared.path.Path.{Path}
use Rattle.krb_scan.specs.declared.tip.Tip.TheVariants as tip
use Rattle.krb_scan.proofs.Chunk.{scan_reached}
use Rattle.krb_scan.proofs.Containers.{open_length}
use Rattle.krb_scan.proofs.Levels.{OpenAtMost, scan_deep, levels_at}
use Rattle.krb_scan.proofs.Numbers.{IsHeadFaultAt, head_fault_at, bits_open}
use Rattle.krb_scan.proofs.Outcome.{HeadFits, head_fits}
use Rattle.krb_scan.proofs.Partial.{KeepsOctets, octets_of, scan_octets}
use Rattle.krb_scan.proofs.Resume.{IsReached, ReachedAnswer, scan_step}
use Rattle.krb_scan.proofs.Room.{AnswerIsRoomy, IsNested, IsRoomyTip, limit_within, scan_roomy, open_short}
use Rattle.krb_scan.proofs.Stable.{IsPartial}

-- the facts of a path that has scanned octets, at this tip
pub record AtTip (terms : List Term) (path : Path) (octets : List ℕ) (given : Tip) : Type 0 where
  pub stack : List Container
  pub marks : List Marked
  pub reads : scan.scan terms path.size octets ≡ Ongoing (scan.state_of marks stack given)
  pub containers : AreOpen path.inner path.outer.items stack
  pub reached : IsReached given stack marks
  pub nested : IsNested path.size stack
  pub roomy : IsRoomyTip given stack
  pub deep : levels_at given (length stack) ≤ 14
  pub are_octets : AreOctets (octets_of given)
  pub some : 0 < path.size
  pub near : path.looked + 1 < 2 ^ 31
  pub short : path.size < 2 ^ 31
  pub tip_is : TipIs path.looked path.tip given

pub at_tip : {terms : List Term} (path : Path) (octets : List ℕ) (s : IsPathOf terms path octets) → AtTip terms path octets s.state.tip
at_tip {terms = terms} path octets s =
    let reached : ReachedAnswer (Ongoing s.state) = subst ReachedAnswer s.reads (scan_reached terms path.size octets s.some) in
    let roomy : AnswerIsRoomy path.size (Ongoing s.state) = subst (AnswerIsRoomy path.size) s.reads (scan_roomy terms path.size octets s.some) in
    let deep : OpenAtMost 14 (Ongoing s.state) = subst (OpenAtMost 14) s.reads (scan_deep terms s.shallow path.size octets) in
    let partial : KeepsOctets (Ongoing s.state) = subst KeepsOctets s.reads (scan_octets terms path.size octets s.some s.are_octets) in
    let before : length octets < path.size = open_short terms path.size octets s.state s.some s.reads in
    record {
      stack = s.state.stack;
      marks = s.state.marks;
      reads = s.reads;
      containers = s.holds.containers;
      reached = reached.reached.at;
      nested = roomy.roomy.nested;
      roomy = roomy.roomy.tip;
      deep = deep;
      are_octets = partial.keeps;
      some = s.some;
      near = omega (arith, s.looked, s.short);
      short = s.short;
      tip_is = s.holds.tip;
    }

-- one octet more is a step
pub stepped : {terms : List Term} {path : Path} {octets : List ℕ} {given : Tip} (a : AtTip terms path octets given) (octet : ℕ) → scan.scan terms path.size (octets ++ octet ∷ []) ≡ step_at given a.stack a.marks octet
stepped {terms = terms} {path = path} {octets = octets} a octet = scan_step terms path.size octets octet a.some ∙ ap (λ answer. go_on answer (λ state. step state octet)) a.reads

-- ---- each tip

pub record BetweenAt (terms : List Term) (path : Path) (octets : List ℕ) : Type 0 where
  pub at : AtTip terms path octets (Between path.looked)

pub record TaggedAt (terms : List Term) (path : Path) (octets : List ℕ) (node : ℕ) : Type 0 where
  pub from : ℕ
  pub tag : ℕ
  pub at : AtTip terms path octets (InHead (term_at node) from (tag ∷ []))
  pub known : IsNode node
  pub looked : path.looked ≡ from + 1

pub record LongAt (terms : List Term) (path : Path) (octets : List ℕ) (node digits seen value : ℕ) : Type 0 where
  pub from : ℕ
  pub tag : ℕ
  pub first : ℕ
  pub present : List ℕ
  pub at : AtTip terms path octets (InHead (term_at node) from (tag ∷ first ∷ present))
  pub known : IsNode node
  pub digits_are : digits ≡ first - 0x80
  pub seen_are : seen ≡ length present
  pub value_is : value ≡ number present
  pub looked : path.looked ≡ from + 2 + seen

pub record LeafAt (terms : List Term) (path : Path) (octets : List ℕ) (node start end : ℕ) (value : ℤ) (unused : ℕ) : Type 0 where
  pub count : ℕ
  pub present : List ℕ
  pub at : AtTip terms path octets (InLeaf (term_at node) start count present)
  pub known : IsNode node
  pub ends : end ≡ start + count
  pub keeps : KeepsOf (term_at node) value unused present
  pub looked : path.looked ≡ start + length present

pub between_at : {terms : List Term} {path : Path} {octets : List ℕ} → IsPathOf terms path octets → path.tip ≡ tip.Between → BetweenAt terms path octets
between_at {terms = terms} {path = path} {octets = octets} s e = by_tip s.state.tip (at_tip path octets s) (subst (λ kept. TipIs path.looked kept s.state.tip) e s.holds.tip)
  where
    by_tip : (given : Tip) → AtTip terms path octets given → TipIs path.looked tip.Between given → BetweenAt terms path octets
    by_tip (Between place) a h = record { at = subst (λ k. AtTip terms path octets (Between k)) (sym h) a }
    by_tip other a h = absurd h

pub tagged_at : {terms : List Term} {path : Path} {octets : List ℕ} {node : ℕ} → IsPathOf terms path octets → path.tip ≡ tip.Tagged node → TaggedAt terms path octets node
tagged_at {terms = terms} {path = path} {octets = octets} {node = node} s e = by_tip s.state.tip (at_tip path octets s) (subst (λ kept. TipIs path.looked kept s.state.tip) e s.holds.tip)
  where
    by_tip : (given : Tip) → AtTip terms path octets given → TipIs path.looked (tip.Tagged node) given → TaggedAt terms path octets node
    by_tip (Between place) a h = absurd h
    by_tip (InHead term from []) a h = absurd h
    by_tip (InHead term from (tag ∷ [])) a h = record { from = from; tag = tag; at = subst (λ t. AtTip terms path octets (InHead t from (tag ∷ []))) (sym h.1) a; known = h.0; looked = h.2 }
    by_tip (InHead term from (tag ∷ first ∷ present)) a h = absurd h
    by_tip (InLeaf term start count present) a h = absurd h

pub long_at : {terms : List Term} {path : Path} {octets : List ℕ} {node digits seen value : ℕ} → IsPathOf terms path octets → path.tip ≡ tip.Long node digits seen value → LongAt terms path octets node digits seen value
long_at {terms = terms} {path = path} {octets = octets} {node = node} {digits = digits} {seen = seen} {value = value} s e = by_tip s.state.tip (at_tip path octets s) (subst (λ kept. TipIs path.looked kept s.state.tip) e s.holds.tip)
  where
    by_tip : (given : Tip) → AtTip terms path octets given → TipIs path.looked (tip.Long node digits seen value) given → LongAt terms path octets node digits seen value
    by_tip (Between place) a h = absurd h
    by_tip (InHead term from []) a h = absurd h
    by_tip (InHead term from (tag ∷ [])) a h = absurd h
    by_tip (InHead term from (tag ∷ first ∷ present)) a h = record {
      from = from;
      tag = tag;
      first = first;
      present = present;
      at = subst (λ t. AtTip terms path octets (InHead t from (tag ∷ first ∷ present))) (sym h.1) a;
      known = h.0;
      digits_are = h.2;
      seen_are = h.3;
      value_is = h.4;
      looked = h.5;
    }
    by_tip (InLeaf term start count present) a h = absurd h

pub leaf_at : {terms : List Term} {path : Path} {octets : List ℕ} {node start end : ℕ} {value : ℤ} {unused : ℕ} → IsPathOf terms path octets → path.tip ≡ tip.Leaf node start end value unused → LeafAt terms path octets node start end value unused
leaf_at {terms = terms} {path = path} {octets = octets} {node = node} {start = start} {end = end} {value = value} {unused = unused} s e = by_tip s.state.tip (at_tip path octets s) (subst (λ kept. TipIs path.looked kept s.state.tip) e s.holds.tip)
  where
    by_tip : (given : Tip) → AtTip terms path octets given → TipIs path.looked (tip.Leaf node start end value unused) given → LeafAt terms path octets node start end value unused
    by_tip (InLeaf term begin count present) a h = record {
      count = count;
      present = present;
      at = subst (λ k. AtTip terms path octets (InLeaf (term_at node) k count present)) (sym h.2) (subst (λ t. AtTip terms path octets (InLeaf t begin count present)) (sym h.1) a);
      known = h.0;
      ends = h.3 ∙ ap (λ k. k + count) (sym h.2);
      keeps = subst (λ t. KeepsOf t value unused present) (sym h.1) h.4;
      looked = h.5 ∙ ap (λ k. k + length present) (sym h.2);
    }
    by_tip other a h = absurd h

-- ---- length octets

pub head_ends : {terms : List Term} {path : Path} {octets : List ℕ} {term : Term} {from : ℕ} {present : List ℕ} (a : AtTip terms path octets (InHead term from present)) (octet : ℕ) → path.looked ≡ from + length present →
    HeadEnds from (path.looked + 1) (limit a.stack) (head (limit a.stack - from) (present ++ octet ∷ []))
head_ends {path = path} {from = from} {present = present} a octet at =
    by_head (head (limit a.stack - from) (present ++ octet ∷ []))
    (head_fault_at (limit a.stack - from) present octet a.roomy.1 (subst IsPartial (sym a.reached) (tt {0})))
    (head_fits (limit a.stack - from) (present ++ octet ∷ []))
  where
    by_head : (got : Head) → IsHeadFaultAt (length present) got → HeadFits (limit a.stack - from) got → HeadEnds from (path.looked + 1) (limit a.stack) got
    by_head (Got header count) f g =
        let ends : header ≡ length present + 1 = f.at in
        let le : header + count ≤ limit a.stack - from = g.fits.1 in
        let room : from + length present < limit a.stack = a.roomy.0 in
        (omega arith, omega arith)
    by_head other f g = tt {0}

pub is_short : {terms : List Term} {path : Path} {octets : List ℕ} {term : Term} {from : ℕ} {present : List ℕ} (a : AtTip terms path octets (InHead term from present)) (kept : Found) (got : Head) → HeadIs kept got → HeadEnds from (path.looked + 1) (limit a.stack) got → IsShort (path.looked + 1) kept
is_short a found.Partial got is ends = tt {0}
is_short a (found.Refused why) got is ends = tt {0}
is_short a (found.Got size) Partial is ends = absurd is
is_short a (found.Got size) (Refused offset reason) is ends = absurd is
is_short {path = path} a (found.Got size) (Got header count) is ends =
    let same : size ≡ count = is in
    let le : path.looked + 1 + count ≤ limit a.stack = ends.1 in
    let whole : limit a.stack ≤ path.size = limit_within path.size a.stack a.nested in
    let short : path.size < 2 ^ 31 = a.short in
    omega arith

pub has_place : {terms : List Term} {path : Path} {octets : List ℕ} {term : Term} {from : ℕ} {present : List ℕ} → AtTip terms path octets (InHead term from present) → length path.outer.items < 13
has_place {path = path} a =
    let size : length a.stack ≡ suc (length path.outer.items) = open_length path.inner path.outer.items a.stack a.containers in
    let deep : length a.stack + 1 ≤ 14 = a.deep in
    omega arith

-- ---- small numbers

pub small_number : (octets : List ℕ) → AreOctets octets → length octets ≤ 3 → number octets < 2 ^ 24
small_number [] a le = omega arith
small_number (p ∷ []) a le = omega (arith, a.0)
small_number (p ∷ q ∷ []) a le = omega (arith, a.0, a.1.0)
small_number (p ∷ q ∷ r ∷ []) a le = omega (arith, a.0, a.1.0, a.1.1.0)
small_number (p ∷ q ∷ r ∷ s ∷ octets) a le = absurd (omega arith)

small_number32 : (octets : List ℕ) → AreOctets octets → length octets ≤ 4 → number octets < 2 ^ 32
small_number32 [] a le = omega arith
small_number32 (p ∷ []) a le = omega (arith, a.0)
small_number32 (p ∷ q ∷ []) a le = omega (arith, a.0, a.1.0)
small_number32 (p ∷ q ∷ r ∷ []) a le = omega (arith, a.0, a.1.0, a.1.1.0)
small_number32 (p ∷ q ∷ r ∷ s ∷ []) a le = omega (arith, a.0, a.1.0, a.1.1.0, a.1.1.1.0)
small_number32 (p ∷ q ∷ r ∷ s ∷ t ∷ octets) a le = absurd (omega arith)

abbrev pub IsSmall : ℤ → Type 0
IsSmall value = (negsuc 549755813887 ≤ℤ value) × (value <ℤ pos 549755813888)

small_integer : (octets : List ℕ) → AreOctets octets → length octets ≤ 4 → IsSmall (integer_value octets)
small_integer [] a le = (omega (arith, ints), omega (arith, ints))
small_integer (first ∷ octets) a le =
    by_sign (nat_lt first 128) (number (first ∷ octets)) (number (complement (first ∷ octets))) (small_number32 (first ∷ octets) a le)
    (small_number32 (complement (first ∷ octets)) (AreOctets-complement (first ∷ octets)) (omega (arith, length-complement (first ∷ octets))))
  where
    by_sign : (b : Bool) (n m : ℕ) → n < 2 ^ 32 → m < 2 ^ 32 → IsSmall (if b then pos n else negsuc m)
    by_sign true n m h k = (omega (arith, ints), omega (arith, ints))
    by_sign false n m h k = (omega (arith, ints), omega (arith, ints))

none_small : (value : ℤ) → value ≡ pos 0 → IsSmall value
none_small value e = subst IsSmall (sym e) (omega (arith, ints), omega (arith, ints))

narrow : (given : Form) (low high : ℤ) → IsFormOf nodes given (Integer low high) → max (length (integer_octets low)) (length (integer_octets high)) ≤ 5
narrow (form.Integer from to widest) low high h = omega (arith, h.2, h.3)
narrow other low high h = absurd h

value_small : (given : Form) (term : Term) (count : ℕ) (value : ℤ) (unused : ℕ) (present : List ℕ) → IsFormOf nodes given term → has_size term count ≡ true → KeepsOf term value unused present → AreOctets present → length present < count → IsSmall value
value_small given (Integer low high) count value unused present is size keeps a lt =
    let le : count ≤ max (length (integer_octets low)) (length (integer_octets high)) = leb-true count (max (length (integer_octets low)) (length (integer_octets high))) (and_parts (nat_lt 0 count) (nat_le count (max (length (integer_octets low)) (length (integer_octets high)))) size).1 in
    let five : max (length (integer_octets low)) (length (integer_octets high)) ≤ 5 = narrow given low high is in
    subst IsSmall (sym keeps.0) (small_integer present a (omega arith))
value_small given other count value unused present is size keeps a lt = none_small value keeps.0

either_false : (a b : Bool) → (a || b) ≡ false → a ≡ false
either_false true b e = e
either_false false b e = refl

bits_few : (least count unused : ℕ) (present : List ℕ) → unused ≡ first_or_zero present → bits_contents least count present ≡ OpenOutcome → unused < 8
bits_few least count unused [] e h = omega arith
bits_few least count unused (first ∷ present) e h =
    let le : first ≤ 7 = ltb-false 7 first (either_false (nat_lt 7 first) (nat_lt (8 * (count - 1)) (least + first)) (bits_open least count first present h)) in
    omega arith

unused_few : (term : Term) (count : ℕ) (value : ℤ) (unused : ℕ) (present : List ℕ) → KeepsOf term value unused present → leaf_outcome term count present ≡ OpenOutcome → unused < 8
unused_few (Bits least) count value unused present keeps h = bits_few least count unused present keeps.1 h
unused_few other count value unused present keeps h = omega (arith, keeps.1)

-- the conditions of a step in the contents of a leaf
pub record LeafReady (path : Path) (node start end : ℕ) (value : ℤ) (unused : ℕ) : Type 0 where
  pub known : IsNode node
  pub begun : start ≤ path.looked
  pub some : path.looked < end
  pub near : end < 2 ^ 31
  pub fits : has_size (term_at node) (end - start) ≡ true
  pub small : IsSmall value
  pub few : unused < 8

pub leaf_ready : {terms : List Term} {path : Path} {octets : List ℕ} {node start end : ℕ} {value : ℤ} {unused : ℕ} (given : Form) → IsFormOf nodes given (term_at node) → LeafAt terms path octets node start end value unused → LeafReady path node start end value unused
leaf_ready {path = path} {node = node} {start = start} {end = end} {value = value} {unused = unused} given are leaf =
    let room : start + leaf.count ≤ limit leaf.at.stack = leaf.at.roomy.0 in
    let lt : length leaf.present < leaf.count = leaf.at.roomy.1 in
    let whole : limit leaf.at.stack ≤ path.size = limit_within path.size leaf.at.stack leaf.at.nested in
    let same : leaf.count ≡ end - start = omega (arith, leaf.ends) in
    record {
      known = leaf.known;
      begun = omega (arith, leaf.looked);
      some = omega (arith, leaf.looked, leaf.ends);
      near = omega (arith, leaf.ends, leaf.at.short);
      fits = subst (λ count. has_size (term_at node) count ≡ true) same leaf.at.reached.0;
      small = value_small given (term_at node) leaf.count value unused leaf.present are leaf.at.reached.0 leaf.keeps leaf.at.are_octets lt;
      few = unused_few (term_at node) leaf.count value unused leaf.present leaf.keeps leaf.at.reached.1;
    }

pub leaf_reads : {terms : List Term} {path : Path} {octets : List ℕ} {node start end : ℕ} {value : ℤ} {unused : ℕ} (leaf : LeafAt terms path octets node start end value unused) → LeafReads (term_at node) (end - start) value unused leaf.present
leaf_reads {node = node} {start = start} {end = end} leaf =
    let same : leaf.count ≡ end - start = omega (arith, leaf.ends) in
    record { are_octets = leaf.at.are_octets; open_still = subst (λ count. leaf_outcome (term_at node) count leaf.present ≡ OpenOutcome) same leaf.at.reached.1; keeps = leaf.keeps }

pub small_fits : {value : ℤ} → IsSmall value → FitsSigned w64 value
small_fits h = search (rules, h.0, h.1)
