-- What an octet does to the marks.
use Rattle.std.proofs.Common.{◌≡◌, ℕ, ℤ, pos, ◌+◌, ◌-◌, ◌*◌, ◌<◌, ◌≤◌, ◌&&◌, ◌||◌, ◌==◌, nat_lt, Bool, true, false, if◌then◌else◌, List, [], ◌∷◌, ◌++◌, length, take, Some, None, refl, sym, ap, ◌∙◌, subst, arith}
use Rattle.std.proofs.lemmas.Bool.{lt-ltb, le-ltb}
use Rattle.krb_der.specs.declared.why.Why.TheVariants as why
use Rattle.krb_msg.specs.Term.{Term, Integer}
use Rattle.krb_msg.specs.Judgement.{Outcome, Open, Bad, Done, Head, Partial, Refused, Got, head, has_size, fitting}
use Rattle.krb_scan.specs.Scan as scan
use Rattle.krb_scan.specs.Scan.{Mark, Expected, Container, Tip, limit, sole_in, container_of, mark_of, with_mark, leaf_outcome, leaf_value, marks_at, Answer, Ongoing, Refusing, Whole}
use Rattle.krb_msg.specs.Nodes.{term_at}
use Rattle.krb_scan.specs.State.{KeepsOf}
use Rattle.krb_scan.specs.Scanned.{marks_by, marks_from}
use Rattle.krb_scan.specs.inner.Machine.{Pick, pick, requires_item, settle, leafed, opened, enter, headed, picked, step_between, step_at}
use Rattle.krb_scan.specs.inner.Numbers.{extended, first_head, next_head}
use Rattle.krb_scan.specs.inner.Paths.{Changes, ChangesTo, IsLengthOf, number_with}
use Rattle.krb_scan.specs.declared.event.Event.{Event}
use Rattle.krb_scan.specs.declared.event.Event.TheVariants as event
use Rattle.krb_scan.specs.declared.path.Path.{Path}
use Rattle.krb_scan.proofs.Basics.{enters_holds, when_holds}
use Rattle.krb_scan.proofs.Numbers.{first_head_right, next_head_right, value_push, length_push}
use Rattle.krb_scan.proofs.Stable.{IsPartial, Counts, leaf_counts}
use Rattle.krb_scan.proofs.PathFacts.{AtTip, BetweenAt, TaggedAt, LongAt, LeafAt, stepped}

-- the marks after an octet, if it is not refused
abbrev pub HasMarks : List Mark → Answer → Type 0
HasMarks marks (Ongoing state) = scan.marks_of state ≡ marks
HasMarks marks (Whole all) = all ≡ marks
HasMarks marks (Refusing place reason) = Unit {0}

changes_to : (e : Event) (before after : List Mark) (given : Answer) → HasMarks after given → Changes e before after → ChangesTo e before given
changes_to e before after (Refusing place reason) h c = tt {0}
changes_to e before after other h c = subst (Changes e before) (sym h) c

-- by the tip of a path
changes_at : {terms : List Term} {path : Path} {octets : List ℕ} {given : Tip} (a : AtTip terms path octets given) (octet : ℕ) (e : Event) (after : List Mark) → HasMarks after (step_at given a.stack a.marks octet) → Changes e (marks_at given a.marks) after →
    ChangesTo e (marks_by terms path.size octets) (scan.scan terms path.size (octets ++ octet ∷ []))
changes_at {terms = terms} {path = path} {octets = octets} {given = given} a octet e after h c =
    let before : marks_by terms path.size octets ≡ marks_at given a.marks = ap (λ answer. marks_from answer (λ place. scan.scan terms path.size (take place octets))) a.reads in
    subst (ChangesTo e (marks_by terms path.size octets)) (sym (stepped a octet))
    (subst (λ marks. ChangesTo e marks (step_at given a.stack a.marks octet)) (sym before) (changes_to e (marks_at given a.marks) after (step_at given a.stack a.marks octet) h c))

settle_marks : (stack : List Container) (marks : List Mark) (place : ℕ) → HasMarks marks (settle stack marks place)
settle_marks [] marks place = refl
settle_marks (container ∷ outer) marks place =
    when_holds (HasMarks marks) (nat_lt place container.end) _ _ refl (when_holds (HasMarks marks) (requires_item container.expected) _ _ (tt {0}) (settle_marks outer marks place))

-- ---- an identifier octet
picked_marks : (choice : Pick) (end : ℕ) (outer : List Container) (marks : List Mark) (place octet : ℕ) → HasMarks marks (picked choice end outer marks place octet)
picked_marks None end outer marks place octet = tt {0}
picked_marks (Some choice) end outer marks place octet = when_holds (HasMarks marks) (end - place == 1) _ _ (tt {0}) refl

between_marks : (stack : List Container) (marks : List Mark) (place octet : ℕ) → HasMarks marks (step_between stack marks place octet)
between_marks [] marks place octet = refl
between_marks (container ∷ outer) marks place octet = picked_marks (pick octet container.expected) container.end outer marks place octet

pub between_changes : {terms : List Term} {path : Path} {octets : List ℕ} (octet : ℕ) → BetweenAt terms path octets → ChangesTo event.None (marks_by terms path.size octets) (scan.scan terms path.size (octets ++ octet ∷ []))
between_changes {path = path} octet b = changes_at b.at octet event.None b.at.marks (between_marks b.at.stack b.at.marks path.looked octet) refl

-- ---- a length octet
-- no length is whole
abbrev pub IsNone : Head → Type 0
IsNone (Got header count) = ⊥
IsNone other = Unit {0}

-- this length is whole, if nothing is refused
abbrev pub IsOf : ℕ → ℕ → Head → Type 0
IsOf header count Partial = ⊥
IsOf header count (Refused offset reason) = Unit {0}
IsOf header count (Got other size) = (other ≡ header) × (size ≡ count)

none_value : (term : Term) → leaf_value term [] ≡ pos 0
none_value (Integer low high) = refl
none_value other = refl

first_marks : (outcome : Outcome) (term : Term) (start count : ℕ) (stack : List Container) (marks : List Mark) → HasMarks (with_mark marks term start count) (leafed outcome term start count stack marks [])
first_marks Open term start count stack marks = refl
first_marks (Bad offset reason) term start count stack marks = tt {0}
first_marks (Done total) term start count stack marks =
    subst (λ value. HasMarks (marks ++ mark_of term start count value ∷ []) (leafed (Done total) term start count stack marks [])) (none_value term) (settle_marks stack (marks ++ mark_of term start count (leaf_value term []) ∷ []) (start + count))

opened_marks : (term : Term) (expected : Expected) (start count : ℕ) (stack : List Container) (marks : List Mark) → HasMarks (with_mark marks term start count) (opened term expected start count stack marks)
opened_marks term expected start count stack marks = settle_marks (container_of (start + count) expected ∷ stack) (with_mark marks term start count) start

enter_marks : (term : Term) (start count : ℕ) (stack : List Container) (marks : List Mark) → HasMarks (with_mark marks term start count) (enter term start count stack marks)
enter_marks term start count stack marks =
    enters_holds (HasMarks (with_mark marks term start count)) term start count stack marks (first_marks (leaf_outcome term count []) term start count stack marks) (λ expected. opened_marks term expected start count stack marks)

none_marks : (got : Head) (term : Term) (stack : List Container) (marks : List Mark) (from : ℕ) (octets : List ℕ) → IsNone got → HasMarks marks (headed got term stack marks from octets)
none_marks Partial term stack marks from octets h = refl
none_marks (Refused offset reason) term stack marks from octets h = tt {0}
none_marks (Got header count) term stack marks from octets h = absurd h

got_marks : (got : Head) (header size start : ℕ) (term : Term) (stack : List Container) (marks : List Mark) (from : ℕ) (octets : List ℕ) → start ≡ from + header → IsOf header size got → HasMarks (with_mark marks term start size) (headed got term stack marks from octets)
got_marks Partial header size start term stack marks from octets e h = absurd h
got_marks (Refused offset reason) header size start term stack marks from octets e h = tt {0}
got_marks (Got other count) header size start term stack marks from octets e h =
    let at : start ≡ from + other = omega (arith, e, h.0) in
    subst (λ k. HasMarks (with_mark marks term start k) (headed (Got other count) term stack marks from octets)) h.1
    (subst (λ k. HasMarks (with_mark marks term k count) (headed (Got other count) term stack marks from octets)) (sym at)
    (when_holds (HasMarks (with_mark marks term (from + other) count)) (sole_in stack && nat_lt (other + count) (limit stack - from)) _ _ (tt {0})
    (when_holds (HasMarks (with_mark marks term (from + other) count)) (has_size term count) _ _ (enter_marks term (from + other) count stack marks) (tt {0}))))

length_changes : (e : Event) (term : Term) (start count : ℕ) (before : List Mark) → IsLengthOf e term start count → Changes e before (with_mark before term start count)
length_changes (event.Length mark) term start count before h = (h.known, ap (λ m. before ++ m ∷ []) (sym h.is))
length_changes other term start count before h = absurd h

fitting_is : (room header size : ℕ) → IsOf header size (fitting room header size)
fitting_is room header size = by_fit (nat_lt room (header + size))
  where
    by_fit : (b : Bool) → IsOf header size (if b then Refused (header - 1) why.Overrun else Got header size)
    by_fit true = tt {0}
    by_fit false = (refl, refl)

first_is : (room octet : ℕ) → octet < 128 → IsOf 2 octet (first_head room octet)
first_is room octet h = rw (lt-ltb octet 0x80 h) (fitting_is room 2 octet)

first_none : (room octet : ℕ) → 128 ≤ octet → IsNone (first_head room octet)
first_none room octet h = rw (le-ltb octet 0x80 h) (by_octet (octet == 0x80) (nat_lt 0x84 octet) (nat_lt room (2 + (octet - 0x80))))
  where
    by_octet : (a b c : Bool) → IsNone (if a then Refused 1 why.Indefinite else if b then Refused 1 why.LengthWide else if c then Refused 1 why.Overrun else Partial)
    by_octet true b c = tt {0}
    by_octet false true c = tt {0}
    by_octet false false true = tt {0}
    by_octet false false false = tt {0}

next_is : (room k seen value octet : ℕ) → k ≤ seen + 1 → IsOf (2 + k) (value * 256 + octet) (next_head room k seen value octet)
next_is room k seen value octet h = rw (le-ltb (seen + 1) k h) (by_first ((seen == 0) && ((octet == 0) || ((k == 1) && nat_lt octet 128))))
  where
    by_first : (b : Bool) → IsOf (2 + k) (value * 256 + octet) (if b then Refused 2 why.LengthNotMinimal else fitting room (2 + k) (value * 256 + octet))
    by_first true = tt {0}
    by_first false = fitting_is room (2 + k) (value * 256 + octet)

next_none : (room k seen value octet : ℕ) → seen + 1 < k → IsNone (next_head room k seen value octet)
next_none room k seen value octet h = rw (lt-ltb (seen + 1) k h) (by_first ((seen == 0) && ((octet == 0) || ((k == 1) && nat_lt octet 128))))
  where
    by_first : (b : Bool) → IsNone (if b then Refused 2 why.LengthNotMinimal else Partial)
    by_first true = tt {0}
    by_first false = tt {0}

pub tagged_none : {terms : List Term} {path : Path} {octets : List ℕ} {node : ℕ} (octet : ℕ) → TaggedAt terms path octets node → 128 ≤ octet → ChangesTo event.None (marks_by terms path.size octets) (scan.scan terms path.size (octets ++ octet ∷ []))
tagged_none {node = node} octet t h =
    changes_at t.at octet event.None t.at.marks
    (none_marks (head (limit t.at.stack - t.from) (t.tag ∷ octet ∷ [])) (term_at node) t.at.stack t.at.marks t.from (t.tag ∷ octet ∷ []) (subst IsNone (sym (first_head_right (limit t.at.stack - t.from) t.tag octet)) (first_none (limit t.at.stack - t.from) octet h))) refl

pub tagged_changes : {terms : List Term} {path : Path} {octets : List ℕ} {node : ℕ} (octet : ℕ) (e : Event) → TaggedAt terms path octets node → octet < 128 → IsLengthOf e (term_at node) (path.looked + 1) octet → ChangesTo e (marks_by terms path.size octets) (scan.scan terms path.size (octets ++ octet ∷ []))
tagged_changes {path = path} {node = node} octet e t h is =
    changes_at t.at octet e (with_mark t.at.marks (term_at node) (path.looked + 1) octet)
    (got_marks (head (limit t.at.stack - t.from) (t.tag ∷ octet ∷ [])) 2 octet (path.looked + 1) (term_at node) t.at.stack t.at.marks t.from (t.tag ∷ octet ∷ []) (omega (arith, t.looked)) (subst (IsOf 2 octet) (sym (first_head_right (limit t.at.stack - t.from) t.tag octet)) (first_is (limit t.at.stack - t.from) octet h)))
    (length_changes e (term_at node) (path.looked + 1) octet t.at.marks is)

next_right : {terms : List Term} {path : Path} {octets : List ℕ} {node digits seen value : ℕ} (octet : ℕ) (t : LongAt terms path octets node digits seen value) → head (limit t.at.stack - t.from) (t.tag ∷ t.first ∷ t.present ++ octet ∷ []) ≡ next_head (limit t.at.stack - t.from) digits seen value octet
next_right {digits = digits} {seen = seen} {value = value} octet t =
    next_head_right (limit t.at.stack - t.from) t.tag t.first t.present octet (subst IsPartial (sym t.at.reached) (tt {0}))
    ∙ ap (λ v. next_head (limit t.at.stack - t.from) (t.first - 0x80) (length t.present) v octet) (sym t.value_is) ∙ ap (λ k. next_head (limit t.at.stack - t.from) (t.first - 0x80) k value octet) (sym t.seen_are)
    ∙ ap (λ k. next_head (limit t.at.stack - t.from) k seen value octet) (sym t.digits_are)

pub long_none : {terms : List Term} {path : Path} {octets : List ℕ} {node digits seen value : ℕ} (octet : ℕ) → LongAt terms path octets node digits seen value → seen + 1 < digits → ChangesTo event.None (marks_by terms path.size octets) (scan.scan terms path.size (octets ++ octet ∷ []))
long_none {node = node} {digits = digits} {seen = seen} {value = value} octet t h =
    changes_at t.at octet event.None t.at.marks
    (none_marks (head (limit t.at.stack - t.from) (t.tag ∷ t.first ∷ t.present ++ octet ∷ [])) (term_at node) t.at.stack t.at.marks t.from (t.tag ∷ t.first ∷ t.present ++ octet ∷ []) (subst IsNone (sym (next_right octet t)) (next_none (limit t.at.stack - t.from) digits seen value octet h))) refl

pub long_changes : {terms : List Term} {path : Path} {octets : List ℕ} {node digits seen value : ℕ} (octet : ℕ) (e : Event) → LongAt terms path octets node digits seen value → digits ≤ seen + 1 → seen < digits → IsLengthOf e (term_at node) (path.looked + 1) (value * 256 + octet) →
    ChangesTo e (marks_by terms path.size octets) (scan.scan terms path.size (octets ++ octet ∷ []))
long_changes {path = path} {node = node} {digits = digits} {seen = seen} {value = value} octet e t h some is =
    changes_at t.at octet e (with_mark t.at.marks (term_at node) (path.looked + 1) (value * 256 + octet))
    (got_marks (head (limit t.at.stack - t.from) (t.tag ∷ t.first ∷ t.present ++ octet ∷ [])) (2 + digits) (value * 256 + octet) (path.looked + 1) (term_at node) t.at.stack t.at.marks t.from (t.tag ∷ t.first ∷ t.present ++ octet ∷ []) (omega (arith, t.looked, h, some))
    (subst (IsOf (2 + digits) (value * 256 + octet)) (sym (next_right octet t)) (next_is (limit t.at.stack - t.from) digits seen value octet h)))
    (length_changes e (term_at node) (path.looked + 1) (value * 256 + octet) t.at.marks is)

-- ---- a contents octet
open_marks : (outcome : Outcome) (term : Term) (start count seen : ℕ) (stack : List Container) (marks : List Mark) (octets : List ℕ) → Counts count seen outcome → seen < count → HasMarks (with_mark marks term start count) (leafed outcome term start count stack marks octets)
open_marks Open term start count seen stack marks octets k lt = refl
open_marks (Bad offset reason) term start count seen stack marks octets k lt = tt {0}
open_marks (Done total) term start count seen stack marks octets k lt = let le : count ≤ seen = k in absurd (omega (arith, lt, le))

done_marks : (outcome : Outcome) (term : Term) (start count seen : ℕ) (stack : List Container) (marks : List Mark) (octets : List ℕ) → Counts count seen outcome → count ≤ seen → HasMarks (marks ++ mark_of term start count (leaf_value term octets) ∷ []) (leafed outcome term start count stack marks octets)
done_marks Open term start count seen stack marks octets k le = let lt : seen < count = k in absurd (omega (arith, lt, le))
done_marks (Bad offset reason) term start count seen stack marks octets k le = tt {0}
done_marks (Done total) term start count seen stack marks octets k le = settle_marks stack (marks ++ mark_of term start count (leaf_value term octets) ∷ []) (start + count)

number_is : (term : Term) (value : ℤ) (unused octet : ℕ) (octets : List ℕ) → KeepsOf term value unused octets → octet < 256 → number_with term (length octets) value octet ≡ leaf_value term (octets ++ octet ∷ [])
number_is (Integer low high) value unused octet octets h small = ap (λ v. extended (length octets) v octet) h.0 ∙ sym (value_push octets octet small)
number_is other value unused octet octets h small = refl

leaf_after : {terms : List Term} {path : Path} {octets : List ℕ} {node start end : ℕ} {value : ℤ} {unused : ℕ} (octet : ℕ) (l : LeafAt terms path octets node start end value unused) → Counts l.count (length l.present + 1) (leaf_outcome (term_at node) l.count (l.present ++ octet ∷ []))
leaf_after {node = node} octet l = subst (λ k. Counts l.count k (leaf_outcome (term_at node) l.count (l.present ++ octet ∷ []))) (length_push l.present octet) (leaf_counts (term_at node) l.count (l.present ++ octet ∷ []) l.at.reached.0)

pub leaf_none : {terms : List Term} {path : Path} {octets : List ℕ} {node start end : ℕ} {value : ℤ} {unused : ℕ} (octet : ℕ) → LeafAt terms path octets node start end value unused → path.looked + 1 < end → ChangesTo event.None (marks_by terms path.size octets) (scan.scan terms path.size (octets ++ octet ∷ []))
leaf_none {node = node} {start = start} octet l h =
    changes_at l.at octet event.None (with_mark l.at.marks (term_at node) start l.count)
    (open_marks (leaf_outcome (term_at node) l.count (l.present ++ octet ∷ [])) (term_at node) start l.count (length l.present + 1) l.at.stack l.at.marks (l.present ++ octet ∷ []) (leaf_after octet l) (omega (arith, h, l.looked, l.ends))) refl

pub leaf_changes : {terms : List Term} {path : Path} {octets : List ℕ} {node start end : ℕ} {value : ℤ} {unused : ℕ} (octet seen : ℕ) (number : ℤ) → LeafAt terms path octets node start end value unused → end ≤ path.looked + 1 → octet < 256 → seen ≡ path.looked - start → number ≡ number_with (term_at node) seen value octet →
    ChangesTo (event.Number number) (marks_by terms path.size octets) (scan.scan terms path.size (octets ++ octet ∷ []))
leaf_changes {node = node} {start = start} {value = value} {unused = unused} octet seen number l h small e is =
    let at : seen ≡ length l.present = omega (arith, e, l.looked) in
    changes_at l.at octet (event.Number number) (l.at.marks ++ mark_of (term_at node) start l.count (leaf_value (term_at node) (l.present ++ octet ∷ [])) ∷ [])
    (done_marks (leaf_outcome (term_at node) l.count (l.present ++ octet ∷ [])) (term_at node) start l.count (length l.present + 1) l.at.stack l.at.marks (l.present ++ octet ∷ []) (leaf_after octet l) (omega (arith, h, l.looked, l.ends)))
    (record {
      marks = l.at.marks;
      term = term_at node;
      start = start;
      count = l.count;
      old = refl;
      new = ap (λ v. l.at.marks ++ mark_of (term_at node) start l.count v ∷ []) (sym (is ∙ ap (λ k. number_with (term_at node) k value octet) at ∙ number_is (term_at node) value unused octet l.present l.keeps small));
    })
