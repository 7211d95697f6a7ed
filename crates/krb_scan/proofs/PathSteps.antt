-- The step of a path that has scanned octets.
use Rattle.std.proofs.Math.Logic.{∥∥₁_elim, ∥∥₁_map}
use Rattle.std.proofs.Common.{◌≡◌, ℕ, ℤ, ◌^◌, ◌+◌, ◌-◌, ◌*◌, ◌<◌, ◌≤◌, List, [], ◌∷◌, ◌++◌, length, refl, sym, ap, ◌∙◌, subst, arith}
use Rattle.std.specs.Coded.{le_prop, Unit-prop}
use Rattle.krb_der.specs.Octets.{AreOctets, number}
use Rattle.krb_der.specs.declared.verdict.Verdict.{Verdict}
use Rattle.krb_msg.specs.Judgement.{Head, Partial, head}
use Rattle.krb_msg.specs.Term.{Term}
use Rattle.krb_scan.specs.Scan as scan
use Rattle.krb_scan.specs.Scan.{Container, Mark as Marked, InHead, limit}
use Rattle.krb_scan.specs.inner.Machine.{step_between, headed, in_leaf}
use Rattle.krb_scan.specs.inner.Numbers.{first_head, next_head}
use Rattle.krb_scan.specs.inner.Outcomes.{HasContainers, HeadIs, HeadEnds, IsShort, LeafReads}
use Rattle.krb_msg.specs.Nodes.{term_at}
use Rattle.krb_scan.specs.State.{AreOpen, TipIs}
use Rattle.krb_scan.specs.inner.Paths.{IsStep, IsReached}
use Rattle.krb_scan.specs.declared.head.Head.{Head as Found}
use Rattle.krb_scan.specs.declared.head.Head.TheVariants as found
use Rattle.krb_scan.specs.declared.path.Path.{Path}
use Rattle.krb_scan.specs.declared.tip.Tip.{Tip as Kept}
use Rattle.krb_scan.specs.declared.tip.Tip.TheVariants as tip
use Rattle.krb_scan.proofs.Numbers.{length_push, number_push, first_head_right, next_head_right, partial_long}
use Rattle.krb_scan.proofs.Stable.{IsPartial}
use Rattle.krb_scan.proofs.Containers.{limit_is}
use Rattle.krb_scan.proofs.PathFacts.{BetweenAt, TaggedAt, LongAt, LeafAt, between_at, tagged_at, long_at, leaf_at, stepped, head_ends, is_short, leaf_reads, small_number}

pub between_taken : {terms : List Term} {old new : Path} {octets : List ℕ} (octet : ℕ) {decided : Verdict} → BetweenAt terms old octets →
    ((stack : List Container) (marks : List Marked) → AreOpen old.inner old.outer.items stack → IsStep old new decided (step_between stack marks old.looked octet)) →
    IsStep old new decided (scan.scan terms old.size (octets ++ octet ∷ []))
between_taken {old = old} {new = new} octet {decided = decided} s goes = subst (IsStep old new decided) (sym (stepped s.at octet)) (goes s.at.stack s.at.marks s.at.containers)

-- the result of a step by the head after it
abbrev pub HeadGoes : Path → Path → Verdict → Found → Kept → ℕ → Type 0
HeadGoes old new result kept partial node =
    (stack : List Container) (marks : List Marked) (got : Head) (from : ℕ) (octets : List ℕ) → AreOpen old.inner old.outer.items stack → HeadIs kept got → HeadEnds from (old.looked + 1) (limit stack) got →
    (got ≡ Partial → TipIs (old.looked + 1) partial (InHead (term_at node) from octets)) → IsStep old new result (headed got (term_at node) stack marks from octets)

tagged_is : {terms : List Term} {path : Path} {octets : List ℕ} {node : ℕ} (octet : ℕ) (t : TaggedAt terms path octets node) (kept : Found) → HeadIs kept (first_head (path.inner.end - path.looked + 1) octet) → HeadIs kept (head (limit t.at.stack - t.from) (t.tag ∷ octet ∷ []))
tagged_is {path = path} octet t kept h =
    let lt : t.from + 1 < limit t.at.stack = t.at.roomy.0 in
    let same : path.inner.end - path.looked + 1 ≡ limit t.at.stack - t.from = omega (arith, t.looked, limit_is path.inner path.outer.items t.at.stack t.at.containers) in
    subst (HeadIs kept) (ap (λ r. first_head r octet) same ∙ sym (first_head_right (limit t.at.stack - t.from) t.tag octet)) h

pub tagged_taken : {terms : List Term} {old new : Path} {octets : List ℕ} {node digits : ℕ} {result : Verdict} (octet : ℕ) (kept : Found) → TaggedAt terms old octets node → HeadIs kept (first_head (old.inner.end - old.looked + 1) octet) → digits ≡ octet - 0x80 →
    HeadGoes old new result kept (tip.Long node digits 0 0) node → IsStep old new result (scan.scan terms old.size (octets ++ octet ∷ []))
tagged_taken {old = old} {new = new} {result = result} octet kept t is e goes =
    subst (IsStep old new result) (sym (stepped t.at octet))
    (goes t.at.stack t.at.marks (head (limit t.at.stack - t.from) (t.tag ∷ octet ∷ [])) t.from (t.tag ∷ octet ∷ []) t.at.containers (tagged_is octet t kept is) (head_ends t.at octet t.looked) (λ partial. (t.known, refl, e, refl, refl, omega (arith, t.looked))))

long_is : {terms : List Term} {path : Path} {octets : List ℕ} {node digits seen value : ℕ} (octet : ℕ) (t : LongAt terms path octets node digits seen value) (kept : Found) → HeadIs kept (next_head (path.inner.end - path.looked + (2 + seen)) digits seen value octet) →
    HeadIs kept (head (limit t.at.stack - t.from) (t.tag ∷ t.first ∷ t.present ++ octet ∷ []))
long_is {path = path} {digits = digits} {seen = seen} {value = value} octet t kept h =
    let lt : t.from + length (t.tag ∷ t.first ∷ t.present) < limit t.at.stack = t.at.roomy.0 in
    let same : path.inner.end - path.looked + (2 + seen) ≡ limit t.at.stack - t.from = omega (arith, t.looked, t.seen_are, limit_is path.inner path.outer.items t.at.stack t.at.containers) in
    subst (HeadIs kept)
    (ap (λ r. next_head r digits seen value octet) same ∙ ap (λ k. next_head (limit t.at.stack - t.from) k seen value octet) t.digits_are
    ∙ ap (λ k. next_head (limit t.at.stack - t.from) (t.first - 0x80) k value octet) t.seen_are ∙ ap (λ v. next_head (limit t.at.stack - t.from) (t.first - 0x80) (length t.present) v octet) t.value_is
    ∙ sym (next_head_right (limit t.at.stack - t.from) t.tag t.first t.present octet (subst IsPartial (sym t.at.reached) (tt {0})))) h

pub long_taken : {terms : List Term} {old new : Path} {octets : List ℕ} {node digits seen value seen_next value_next : ℕ} {result : Verdict} (octet : ℕ) (kept : Found) → LongAt terms old octets node digits seen value → HeadIs kept (next_head (old.inner.end - old.looked + (2 + seen)) digits seen value octet) →
    seen_next ≡ seen + 1 → value_next ≡ value * 256 + octet → HeadGoes old new result kept (tip.Long node digits seen_next value_next) node → IsStep old new result (scan.scan terms old.size (octets ++ octet ∷ []))
long_taken {old = old} {new = new} {result = result} octet kept t is e f goes =
    let present : List ℕ = t.tag ∷ t.first ∷ t.present in
    subst (IsStep old new result) (sym (stepped t.at octet))
    (goes t.at.stack t.at.marks (head (limit t.at.stack - t.from) (present ++ octet ∷ [])) t.from (present ++ octet ∷ []) t.at.containers (long_is octet t kept is) (head_ends t.at octet (omega (arith, t.looked, t.seen_are)))
    (λ partial. (t.known, refl, t.digits_are, omega (arith, t.seen_are, length_push t.present octet), f ∙ ap (λ v. v * 256 + octet) t.value_is ∙ sym (number_push 0 t.present octet), omega (arith, t.looked))))

pub leaf_taken : {terms : List Term} {old new : Path} {octets : List ℕ} {node start end : ℕ} {value : ℤ} {unused : ℕ} {decided : Verdict} (octet : ℕ) → LeafAt terms old octets node start end value unused →
    ((stack : List Container) (marks : List Marked) (present : List ℕ) → AreOpen old.inner old.outer.items stack → LeafReads (term_at node) (end - start) value unused present → old.looked ≡ start + length present →
    IsStep old new decided (in_leaf (term_at node) start (end - start) stack marks (present ++ octet ∷ []))) →
    IsStep old new decided (scan.scan terms old.size (octets ++ octet ∷ []))
leaf_taken {old = old} {new = new} {node = node} {start = start} {end = end} {decided = decided} octet leaf goes =
    let same : leaf.count ≡ end - start = omega (arith, leaf.ends) in
    subst (IsStep old new decided) (sym (stepped leaf.at octet))
    (subst (λ count. IsStep old new decided (in_leaf (term_at node) start count leaf.at.stack leaf.at.marks (leaf.present ++ octet ∷ []))) (sym same)
    (goes leaf.at.stack leaf.at.marks leaf.present leaf.at.containers (leaf_reads leaf) leaf.looked))

-- the conditions of a step in a long length
pub record LongReady (path : Path) (digits seen value : ℕ) : Type 0 where
  pub narrow : digits ≤ 4
  pub some : seen < digits
  pub spelled : value < 2 ^ 24
  pub within : path.looked ≤ path.inner.end

pub long_ready : {terms : List Term} {path : Path} {octets : List ℕ} {node digits seen value : ℕ} → LongAt terms path octets node digits seen value → LongReady path digits seen value
long_ready {path = path} t =
    let long : (length t.present < t.first - 0x80) × (t.first ≤ 0x84) × (2 + (t.first - 0x80) ≤ limit t.at.stack - t.from) = partial_long (limit t.at.stack - t.from) t.tag t.first t.present (subst IsPartial (sym t.at.reached) (tt {0})) in
    let few : t.first ≤ 0x84 = long.1 in
    let lt : length t.present < t.first - 0x80 = long.0 in
    let present_octets : AreOctets t.present = t.at.are_octets.1.1 in
    let small : number t.present < 2 ^ 24 = small_number t.present present_octets (omega arith) in
    let room : t.from + length (t.tag ∷ t.first ∷ t.present) < limit t.at.stack = t.at.roomy.0 in
    record {
      narrow = omega (arith, t.digits_are);
      some = omega (arith, t.digits_are, t.seen_are);
      spelled = omega (arith, t.value_is);
      within = omega (arith, t.looked, t.seen_are, limit_is path.inner path.outer.items t.at.stack t.at.containers);
    }

pub tagged_within : {terms : List Term} {path : Path} {octets : List ℕ} {node : ℕ} → TaggedAt terms path octets node → path.looked ≤ path.inner.end
tagged_within {path = path} t =
    let room : t.from + 1 < limit t.at.stack = t.at.roomy.0 in
    omega (arith, t.looked, limit_is path.inner path.outer.items t.at.stack t.at.containers)

pub tagged_short : {terms : List Term} {path : Path} {octets : List ℕ} {node : ℕ} (octet : ℕ) → TaggedAt terms path octets node → (kept : Found) → HeadIs kept (first_head (path.inner.end - path.looked + 1) octet) → IsShort (path.looked + 1) kept
tagged_short octet t kept is = is_short t.at kept _ (tagged_is octet t kept is) (head_ends t.at octet t.looked)

pub long_short : {terms : List Term} {path : Path} {octets : List ℕ} {node digits seen value : ℕ} (octet : ℕ) → LongAt terms path octets node digits seen value → (kept : Found) → HeadIs kept (next_head (path.inner.end - path.looked + (2 + seen)) digits seen value octet) → IsShort (path.looked + 1) kept
long_short octet t kept is = is_short t.at kept _ (long_is octet t kept is) (head_ends t.at octet (omega (arith, t.looked, t.seen_are)))

pub short-prop : (scanned : ℕ) (kept : Found) → IsProp (IsShort scanned kept)
short-prop scanned (found.Got size) = le_prop
short-prop scanned other = Unit-prop

-- ---- a proposition that follows from what a path has scanned, whatever that was
pub has_containers : {path : Path} → IsReached path → HasContainers path.inner path.outer.items
has_containers h = ∥∥₁_map h (λ r. (r.2.state.stack, r.2.holds.containers))

pub if_between : {P : Type 0} {path : Path} → IsProp P → IsReached path → path.tip ≡ tip.Between → ((terms : List Term) (octets : List ℕ) → BetweenAt terms path octets → P) → P
if_between prop h is goes = ∥∥₁_elim h prop (λ r. goes r.1 r.0 (between_at r.2 is))

pub if_tagged : {P : Type 0} {path : Path} {node : ℕ} → IsProp P → IsReached path → path.tip ≡ tip.Tagged node → ((terms : List Term) (octets : List ℕ) → TaggedAt terms path octets node → P) → P
if_tagged prop h is goes = ∥∥₁_elim h prop (λ r. goes r.1 r.0 (tagged_at r.2 is))

pub if_long : {P : Type 0} {path : Path} {node digits seen value : ℕ} → IsProp P → IsReached path → path.tip ≡ tip.Long node digits seen value → ((terms : List Term) (octets : List ℕ) → LongAt terms path octets node digits seen value → P) → P
if_long prop h is goes = ∥∥₁_elim h prop (λ r. goes r.1 r.0 (long_at r.2 is))

pub if_leaf : {P : Type 0} {path : Path} {node start end : ℕ} {value : ℤ} {unused : ℕ} → IsProp P → IsReached path → path.tip ≡ tip.Leaf node start end value unused → ((terms : List Term) (octets : List ℕ) → LeafAt terms path octets node start end value unused → P) → P
if_leaf prop h is goes = ∥∥₁_elim h prop (λ r. goes r.1 r.0 (leaf_at r.2 is))
