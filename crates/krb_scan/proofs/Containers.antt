-- The containers that are not complete, from the inner to the outer.
use Rattle.std.proofs.Common.{◌≡◌, ℕ, zero, suc, ◌-◌, ◌<◌, ◌≤◌, true, false, List, [], ◌∷◌, ◌++◌, length, take, get_or, reverse, refl, sym, ap, ◌∙◌, subst, arith}
use Rattle.std.proofs.lemmas.List.{length-reverse, reverse-append, take_all}
use Rattle.std.proofs.lemmas.Bool.{lt-ltb, le-ltb}
use Rattle.std.proofs.Math.Logic.{∥∥₁_elim, ∥∥₁_map}
use Rattle.std.specs.Coded.{le_prop}
use Rattle.krb_der.specs.Octets.{when}
use Rattle.krb_der.specs.declared.why.Why.TheVariants as why
use Rattle.krb_scan.specs.Scan as scan
use Rattle.krb_scan.specs.Scan.{Container, limit}
use Rattle.std.specs.Coded.{Unit-prop}
use Rattle.krb_scan.specs.declared.expected.Expected.{Expected}
use Rattle.krb_scan.specs.declared.expected.Expected.TheVariants as expected
use Rattle.krb_scan.specs.Expectations.{IsKnown, expected_of}
use Rattle.krb_scan.specs.State.{IsContainer, AreContainers, AreOpen}
use Rattle.krb_scan.specs.inner.Machine.{settle, requires_item}
use Rattle.krb_scan.specs.inner.Outcomes.{HasContainers, StaysOpen}
use Rattle.krb_scan.specs.declared.open.Open.{Open}

-- the innermost container and those round it
pub record Innermost (inner : Open) (outer : List Open) (stack : List Container) : Type 0 where
  pub container : Container
  pub others : List Container
  pub same : stack ≡ container ∷ others
  pub is : IsContainer inner container
  pub around : AreContainers (reverse outer) others

pub innermost : (inner : Open) (outer : List Open) (stack : List Container) → AreOpen inner outer stack → Innermost inner outer stack
innermost inner outer stack h = by_stack stack h.containers
  where
    by_stack : (all : List Container) → AreContainers (inner ∷ reverse outer) all → Innermost inner outer all
    by_stack [] k = absurd k
    by_stack (container ∷ others) k = record { container = container; others = others; same = refl; is = k.0; around = k.1 }

containers_length : (entries : List Open) (stack : List Container) → AreContainers entries stack → length stack ≡ length entries
containers_length [] [] h = refl
containers_length (entry ∷ entries) (container ∷ stack) h = ap suc (containers_length entries stack h.1)
containers_length other another h = absurd h

pub open_length : (inner : Open) (outer : List Open) (stack : List Container) → AreOpen inner outer stack → length stack ≡ suc (length outer)
open_length inner outer stack h = containers_length (inner ∷ reverse outer) stack h.containers ∙ ap suc (length-reverse outer)

-- the place where the room ends
pub limit_is : (inner : Open) (outer : List Open) (stack : List Container) → AreOpen inner outer stack → inner.end ≡ limit stack
limit_is inner outer stack h = let i : Innermost inner outer stack = innermost inner outer stack h in i.is.end ∙ ap limit (sym i.same)

-- that what is expected is known
known-prop : (given : Expected) → IsProp (IsKnown given)
known-prop (expected.Message profile) = Unit-prop
known-prop expected.Nothing = Unit-prop
known-prop other = le_prop

pub known_expected : (inner : Open) (outer : List Open) → HasContainers inner outer → IsKnown inner.expected
known_expected inner outer h = ∥∥₁_elim h (known-prop inner.expected) (λ (k : (stack : List Container) × AreOpen inner outer stack). (innermost inner outer k.0 k.1).is.known)

-- another innermost container in the same ones
pub open_same : (inner other : Open) (outer : List Open) (stack : List Container) (container : Container) (h : AreOpen inner outer stack) → IsContainer other container → AreOpen other outer (container ∷ (innermost inner outer stack h).others)
open_same inner other outer stack container h is = record { containers = (is, (innermost inner outer stack h).around) }

-- a container in the innermost
pub open_push : (inner other : Open) (outer : List Open) (stack : List Container) (container : Container) → AreOpen inner outer stack → IsContainer other container → AreOpen other (outer ++ inner ∷ []) (container ∷ stack)
open_push inner other outer stack container h is =
    record { containers = (is, subst (λ all. AreContainers all stack) (sym (reverse-append outer (inner ∷ []))) h.containers) }

take_last : (outer : List Open) (left : ℕ) (none : Open) → left < length outer → take (suc left) outer ≡ take left outer ++ get_or outer left none ∷ []
take_last [] left none h = absurd (omega arith)
take_last (entry ∷ outer) zero none h = refl
take_last (entry ∷ outer) (suc left) none h = ap (λ rest. entry ∷ rest) (take_last outer left none (omega arith))

reverse_last : (outer : List Open) (left : ℕ) (none : Open) → left < length outer → reverse (take (suc left) outer) ≡ get_or outer left none ∷ reverse (take left outer)
reverse_last outer left none h = ap reverse (take_last outer left none h) ∙ reverse-append (take left outer) (get_or outer left none ∷ [])

-- the innermost container that is not complete after those inside it are full
pub record Rest (outer : List Open) (inner : Open) (left place : ℕ) (stack : List Container) (marks : List scan.Mark) : Type 0 where
  pub rest : List Container
  pub containers : AreOpen inner (take left outer) rest
  pub same : settle stack marks place ≡ settle rest marks place

-- the containers that were passed are full
pub record Passes (first : Open) (outer : List Open) (inner : Open) (left place : ℕ) : Type 0 where
  pub within : left ≤ length outer
  pub some : HasContainers inner (take left outer)
  pub rests : (stack : List Container) (marks : List scan.Mark) → AreOpen first outer stack → Rest outer inner left place stack marks

pub none_passed : (first : Open) (outer : List Open) (left place : ℕ) → HasContainers first outer → left ≡ length outer → Passes first outer first left place
none_passed first outer left place some e =
    let all : take left outer ≡ outer = take_all left outer (omega (arith, e)) in
    record {
      within = omega (arith, e);
      some = subst (HasContainers first) (sym all) some;
      rests = λ stack marks h. record { rest = stack; containers = subst (λ some. AreOpen first some stack) (sym all) h; same = refl };
    }

-- a container that is full
full_at : (inner : Open) (outer : List Open) (place : ℕ) (stack : List Container) (marks : List scan.Mark) (h : AreOpen inner outer stack) → inner.end ≤ place →
    settle stack marks place ≡ when (requires_item (expected_of inner.expected)) (λ _. scan.Refusing (place - 1) why.Missing) (λ _. settle (innermost inner outer stack h).others marks place)
full_at inner outer place stack marks h full =
    let i : Innermost inner outer stack = innermost inner outer stack h in
    let ends : i.container.end ≤ place = omega (arith, i.is.end) in
    ap (λ all. settle all marks place) i.same
    ∙ ap (λ b. when b (λ _. scan.Ongoing (scan.state_of marks (i.container ∷ i.others) (scan.Between place))) (λ _. when (requires_item i.container.expected) (λ _. scan.Refusing (place - 1) why.Missing) (λ _. settle i.others marks place))) (le-ltb place i.container.end ends)
    ∙ ap (λ d. when (requires_item d) (λ _. scan.Refusing (place - 1) why.Missing) (λ _. settle i.others marks place)) (sym i.is.expected)

pub missing_at : (first : Open) (outer : List Open) (inner : Open) (left place : ℕ) (stack : List Container) (marks : List scan.Mark) → Passes first outer inner left place → inner.end ≤ place → requires_item (expected_of inner.expected) ≡ true → AreOpen first outer stack → settle stack marks place ≡ scan.Refusing (place - 1) why.Missing
missing_at first outer inner left place stack marks p full e h =
    let r : Rest outer inner left place stack marks = p.rests stack marks h in
    r.same ∙ full_at inner (take left outer) place r.rest marks r.containers full ∙ ap (λ b. when b (λ _. scan.Refusing (place - 1) why.Missing) (λ _. settle (innermost inner (take left outer) r.rest r.containers).others marks place)) e

passed_at : (outer : List Open) (inner : Open) (left place : ℕ) (rest : List Container) (marks : List scan.Mark) (h : AreOpen inner (take left outer) rest) → inner.end ≤ place → requires_item (expected_of inner.expected) ≡ false → settle rest marks place ≡ settle (innermost inner (take left outer) rest h).others marks place
passed_at outer inner left place rest marks h full e =
    full_at inner (take left outer) place rest marks h full ∙ ap (λ b. when b (λ _. scan.Refusing (place - 1) why.Missing) (λ _. settle (innermost inner (take left outer) rest h).others marks place)) e

pub whole_at : (first : Open) (outer : List Open) (inner : Open) (left place : ℕ) (stack : List Container) (marks : List scan.Mark) → Passes first outer inner left place → inner.end ≤ place → requires_item (expected_of inner.expected) ≡ false → left ≡ 0 → AreOpen first outer stack → settle stack marks place ≡ scan.Whole marks
whole_at first outer inner left place stack marks p full e none h =
    let r : Rest outer inner left place stack marks = p.rests stack marks h in
    let i : Innermost inner (take left outer) r.rest = innermost inner (take left outer) r.rest r.containers in
    r.same ∙ passed_at outer inner left place r.rest marks r.containers full e
    ∙ ap (λ all. settle all marks place) (no_others i.others (subst (λ k. AreContainers (reverse (take k outer)) i.others) none i.around))
  where
    no_others : (others : List Container) → AreContainers [] others → others ≡ []
    no_others [] k = refl
    no_others (container ∷ others) k = absurd k

-- the container round one that is full
round_it : (outer : List Open) (inner : Open) (left : ℕ) (none : Open) (rest : List Container) → left < length outer → (h : AreOpen inner (take (suc left) outer) rest) → AreOpen (get_or outer left none) (take left outer) (innermost inner (take (suc left) outer) rest h).others
round_it outer inner left none rest lt h =
    record { containers = subst (λ all. AreContainers all (innermost inner (take (suc left) outer) rest h).others) (reverse_last outer left none lt) (innermost inner (take (suc left) outer) rest h).around }

pub more_passed : (first : Open) (outer : List Open) (inner : Open) (left place : ℕ) (none : Open) → Passes first outer inner (suc left) place → inner.end ≤ place → requires_item (expected_of inner.expected) ≡ false → Passes first outer (get_or outer left none) left place
more_passed first outer inner left place none p full e = record {
  within = omega (arith, p.within);
  some = ∥∥₁_map p.some (λ (k : (stack : List Container) × AreOpen inner (take (suc left) outer) stack). ((innermost inner (take (suc left) outer) k.0 k.1).others, round_it outer inner left none k.0 p.within k.1));
  rests = λ stack marks h.
      let r : Rest outer inner (suc left) place stack marks = p.rests stack marks h in
      record {
        rest = (innermost inner (take (suc left) outer) r.rest r.containers).others;
        containers = round_it outer inner left none r.rest p.within r.containers;
        same = r.same ∙ passed_at outer inner (suc left) place r.rest marks r.containers full e;
      };
}

pub stays_at : (first : Open) (outer : List Open) (inner : Open) (left place : ℕ) (stack : List Container) (marks : List scan.Mark) → Passes first outer inner left place → place < inner.end → AreOpen first outer stack → StaysOpen outer marks place inner left (settle stack marks place)
stays_at first outer inner left place stack marks p lt h =
    let r : Rest outer inner left place stack marks = p.rests stack marks h in
    let i : Innermost inner (take left outer) r.rest = innermost inner (take left outer) r.rest r.containers in
    let ends : place < i.container.end = omega (arith, i.is.end) in
    record {
      within = p.within;
      stack = r.rest;
      containers = r.containers;
      is =
          r.same ∙ ap (λ all. settle all marks place) i.same
          ∙ ap (λ b. when b (λ _. scan.Ongoing (scan.state_of marks (i.container ∷ i.others) (scan.Between place))) (λ _. when (requires_item i.container.expected) (λ _. scan.Refusing (place - 1) why.Missing) (λ _. settle i.others marks place))) (lt-ltb place i.container.end ends)
          ∙ ap (λ all. scan.Ongoing (scan.state_of marks all (scan.Between place))) (sym i.same);
    }
