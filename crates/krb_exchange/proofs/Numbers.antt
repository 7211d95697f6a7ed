-- The first and the latest of the numbers that pass.
use Rattle.std.proofs.Common.{◌≡◌, ℕ, suc, ◌+◌, ◌-◌, ◌<◌, ◌≤◌, ◌^◌, ◌⊎◌, inl, inr, arith, Bool, true, false, ◌||◌, nat_lt, if◌then◌else◌, List, [], ◌∷◌, length, slice_get, Option, Some, None, refl, sym, ◌∙◌, ap, subst}
use Rattle.std.specs.Option.{option_or}
use Rattle.std.proofs.lemmas.Bool.{both_ways, cases_order, lt-ltb, le-ltb, or_from, or_left, or_right}
use Rattle.krb_exchange.specs.declared.sending.Sending.{Sending}
use Rattle.krb_exchange.specs.Happened.{first_place, latest_place, passes}
use Rattle.krb_exchange.specs.inner.Numbers.{IsFirst, IsLatest}
use Rattle.krb_exchange.specs.inner.Indexes.{at_number, numbered}
use Rattle.krb_exchange.proofs.Places.{next}

-- ---- there is one
neither-less : (n m : ℕ) → (n < m → ⊥) → (m < n → ⊥) → Some n ≡ Some m
neither-less n m f g = by (cases_order n m)
  where
    by : (n ≡ m) ⊎ ((n < m) ⊎ (m < n)) → Some n ≡ Some m
    by (inl e) = ap (λ k. Some k) e
    by (inr (inl l)) = absurd (f l)
    by (inr (inr l)) = absurd (g l)

module _ (test : ℕ → Bool) where
  -- a number that passes, where none does
  not-none : {A : Type 0} (n : ℕ) → ((m : ℕ) → m < 2 ^ 64 → test m ≡ false) → n < 2 ^ 64 → test n ≡ true → A
  not-none n f l e = absurd (both_ways (test n) (f n l) e)

  pub one-first : (a b : Option ℕ) → IsFirst test a → IsFirst test b → a ≡ b
  one-first None None f g = refl
  one-first None (Some m) f g = not-none m f g.0 g.1
  one-first (Some n) None f g = not-none n g f.0 f.1
  one-first (Some n) (Some m) f g = neither-less n m (λ l. both_ways (test n) (g.2 n l) f.1) (λ l. both_ways (test m) (f.2 m l) g.1)

  pub one-latest : (a b : Option ℕ) → IsLatest test a → IsLatest test b → a ≡ b
  one-latest None None f g = refl
  one-latest None (Some m) f g = not-none m f g.0 g.1
  one-latest (Some n) None f g = not-none n g f.0 f.1
  one-latest (Some n) (Some m) f g = neither-less n m (λ l. both_ways (test m) (f.2 m l g.0) g.1) (λ l. both_ways (test n) (g.2 n l f.0) f.1)

-- ---- of tests that say the same
module _ (test other : ℕ → Bool) (same : (n : ℕ) → test n ≡ other n) where
  pub first-same : (a : Option ℕ) → IsFirst test a → IsFirst other a
  first-same None f = λ n l. sym (same n) ∙ f n l
  first-same (Some n) f = (f.0, sym (same n) ∙ f.1, λ m l. sym (same m) ∙ f.2 m l)

  pub latest-same : (a : Option ℕ) → IsLatest test a → IsLatest other a
  latest-same None f = λ n l. sym (same n) ∙ f n l
  latest-same (Some n) f = (f.0, sym (same n) ∙ f.1, λ m l b. sym (same m) ∙ f.2 m l b)

-- ---- of sendings that are numbered
pub at_number-before : (gone : ℕ) (xs : List Sending) (n : ℕ) → n < gone → at_number gone xs n ≡ None
at_number-before gone xs n l = ap (λ b. if b then None else slice_get xs (n - gone)) (lt-ltb n gone l)

pub at_number-from : (gone : ℕ) (xs : List Sending) (n : ℕ) → gone ≤ n → at_number gone xs n ≡ slice_get xs (n - gone)
at_number-from gone xs n l = ap (λ b. if b then None else slice_get xs (n - gone)) (le-ltb n gone l)

pub at_number-first : (gone : ℕ) (x : Sending) (xs : List Sending) (n : ℕ) → n ≡ gone → at_number gone (x ∷ xs) n ≡ Some x
at_number-first gone x xs n e = at_number-from gone (x ∷ xs) n (omega arith) ∙ ap (λ k. slice_get (x ∷ xs) k) zeroth
  where
    zeroth : n - gone ≡ 0
    zeroth = omega arith

pub at_number-rest : (gone : ℕ) (x : Sending) (xs : List Sending) (n : ℕ) → (n ≡ gone → ⊥) → at_number gone (x ∷ xs) n ≡ at_number (gone + 1) xs n
at_number-rest gone x xs n ne = by (cases_order n gone)
  where
    by : (n ≡ gone) ⊎ ((n < gone) ⊎ (gone < n)) → at_number gone (x ∷ xs) n ≡ at_number (gone + 1) xs n
    by (inl e) = absurd (ne e)
    by (inr (inl l)) = at_number-before gone (x ∷ xs) n l ∙ sym (at_number-before (gone + 1) xs n (omega arith))
    by (inr (inr l)) = at_number-from gone (x ∷ xs) n (omega arith) ∙ ap (λ k. slice_get (x ∷ xs) k) shifted ∙ sym (at_number-from (gone + 1) xs n (omega arith))
      where
        shifted : n - gone ≡ suc (n - (gone + 1))
        shifted = omega arith

pub at_number-first_not : (gone : ℕ) (xs : List Sending) (n : ℕ) → n ≡ gone → at_number (gone + 1) xs n ≡ None
at_number-first_not gone xs n e = at_number-before (gone + 1) xs n (omega arith)

pub numbered-next : (gone : ℕ) (place : Option ℕ) → numbered gone (next place) ≡ numbered (gone + 1) place
numbered-next gone None = refl
numbered-next gone (Some p) = ap (λ k. Some k) shifted
  where
    shifted : gone + suc p ≡ gone + 1 + p
    shifted = omega arith

module _ (test : Sending → Bool) where
  abbrev pub at : ℕ → List Sending → ℕ → Bool
  at gone xs n = passes test (at_number gone xs n)

  none-at : (gone n : ℕ) → at gone [] n ≡ false
  none-at gone n = by (nat_lt n gone)
    where
      by : (b : Bool) → passes test (if b then None else None) ≡ false
      by true = refl
      by false = refl

  -- without the first, if that does not pass
  at-rest : (gone : ℕ) (x : Sending) (xs : List Sending) → test x ≡ false → (n : ℕ) → at (gone + 1) xs n ≡ at gone (x ∷ xs) n
  at-rest gone x xs e n = by (cases_order n gone)
    where
      apart : (n ≡ gone → ⊥) → at (gone + 1) xs n ≡ at gone (x ∷ xs) n
      apart ne = ap (λ o. passes test o) (sym (at_number-rest gone x xs n ne))

      by : (n ≡ gone) ⊎ ((n < gone) ⊎ (gone < n)) → at (gone + 1) xs n ≡ at gone (x ∷ xs) n
      by (inl q) = ap (λ o. passes test o) (at_number-first_not gone xs n q) ∙ sym e ∙ sym (ap (λ o. passes test o) (at_number-first gone x xs n q))
      by (inr (inl l)) = apart (λ q. omega arith)
      by (inr (inr l)) = apart (λ q. omega arith)

  pub first-is : (gone : ℕ) (xs : List Sending) → gone + length xs ≤ 2 ^ 64 → IsFirst (at gone xs) (numbered gone (first_place test xs))
  first-is gone [] l = λ n m. none-at gone n
  first-is gone (x ∷ xs) l = by (test x) refl (first-is (gone + 1) xs (omega arith))
    where
      by : (b : Bool) → test x ≡ b → IsFirst (at (gone + 1) xs) (numbered (gone + 1) (first_place test xs)) → IsFirst (at gone (x ∷ xs)) (numbered gone (if b then Some 0 else next (first_place test xs)))
      by true e h = (omega arith, ap (λ o. passes test o) (at_number-first gone x xs (gone + 0) (omega arith)) ∙ e, λ n l. ap (λ o. passes test o) (at_number-before gone (x ∷ xs) n (omega arith)))
      by false e h = subst (λ a. IsFirst (at gone (x ∷ xs)) a) (sym (numbered-next gone (first_place test xs))) (first-same (at (gone + 1) xs) (at gone (x ∷ xs)) (at-rest gone x xs e) (numbered (gone + 1) (first_place test xs)) h)

  pub latest-is : (gone : ℕ) (xs : List Sending) → gone + length xs ≤ 2 ^ 64 → IsLatest (at gone xs) (numbered gone (latest_place test xs))
  latest-is gone [] l = λ n m. none-at gone n
  latest-is gone (x ∷ xs) l = by (latest_place test xs) (latest-is (gone + 1) xs (omega arith))
    where
      -- one after the first
      apart : (n : ℕ) → (n ≡ gone → ⊥) → at gone (x ∷ xs) n ≡ at (gone + 1) xs n
      apart n ne = ap (λ o. passes test o) (at_number-rest gone x xs n ne)

      none : (b : Bool) → test x ≡ b → IsLatest (at (gone + 1) xs) None → IsLatest (at gone (x ∷ xs)) (numbered gone (if b then Some 0 else None))
      none true e h = (omega arith, ap (λ o. passes test o) (at_number-first gone x xs (gone + 0) (omega arith)) ∙ e, λ n l m. apart n (λ q. omega arith) ∙ h n m)
      none false e h = latest-same (at (gone + 1) xs) (at gone (x ∷ xs)) (at-rest gone x xs e) None h

      by : (o : Option ℕ) → IsLatest (at (gone + 1) xs) (numbered (gone + 1) o) → IsLatest (at gone (x ∷ xs)) (numbered gone (option_or (next o) (if test x then Some 0 else None)))
      by None h = none (test x) refl h
      by (Some p) h = subst (λ a. IsLatest (at gone (x ∷ xs)) a) (sym (numbered-next gone (Some p))) (h.0, apart (gone + 1 + p) (λ q. omega arith) ∙ h.1, λ n l m. apart n (λ q. omega arith) ∙ h.2 n l m)

-- ---- of two tests: the one that comes first, or last
module _ (P Q : ℕ → Bool) where
  pub first-none : IsFirst P None → IsFirst Q None → IsFirst (λ n. P n || Q n) None
  first-none f g = λ n l. or_from (P n) (Q n) (f n l) (g n l)

  pub first-left : (n : ℕ) → IsFirst P (Some n) → ((m : ℕ) → m < n → Q m ≡ false) → IsFirst (λ n. P n || Q n) (Some n)
  first-left n f g = (f.0, or_left (P n) (Q n) f.1, λ m l. or_from (P m) (Q m) (f.2 m l) (g m l))

  pub first-right : (n : ℕ) → IsFirst Q (Some n) → ((m : ℕ) → m < n → P m ≡ false) → IsFirst (λ n. P n || Q n) (Some n)
  first-right n f g = (f.0, or_right (P n) (Q n) f.1, λ m l. or_from (P m) (Q m) (g m l) (f.2 m l))

  pub latest-none : IsLatest P None → IsLatest Q None → IsLatest (λ n. P n || Q n) None
  latest-none f g = λ n l. or_from (P n) (Q n) (f n l) (g n l)

  pub latest-left : (n : ℕ) → IsLatest P (Some n) → ((m : ℕ) → n < m → m < 2 ^ 64 → Q m ≡ false) → IsLatest (λ n. P n || Q n) (Some n)
  latest-left n f g = (f.0, or_left (P n) (Q n) f.1, λ m l b. or_from (P m) (Q m) (f.2 m l b) (g m l b))

  pub latest-right : (n : ℕ) → IsLatest Q (Some n) → ((m : ℕ) → n < m → m < 2 ^ 64 → P m ≡ false) → IsLatest (λ n. P n || Q n) (Some n)
  latest-right n f g = (f.0, or_right (P n) (Q n) f.1, λ m l b. or_from (P m) (Q m) (g m l b) (f.2 m l b))

  -- the same of numbers that may be there
  pub first-none_left : (b : Option ℕ) → IsFirst P None → IsFirst Q b → IsFirst (λ n. P n || Q n) b
  first-none_left None f g = first-none f g
  first-none_left (Some m) f g = first-right m g (λ k l. f k (omega (arith, g.0)))

  pub first-none_right : (a : Option ℕ) → IsFirst P a → IsFirst Q None → IsFirst (λ n. P n || Q n) a
  first-none_right None f g = first-none f g
  first-none_right (Some n) f g = first-left n f (λ k l. g k (omega (arith, f.0)))

  pub first-second : (a b : Option ℕ) (n m : ℕ) → a ≡ Some n → b ≡ Some m → m < n → IsFirst P a → IsFirst Q b → IsFirst (λ n. P n || Q n) b
  first-second a b n m e d l f g =
      let one : IsFirst P (Some n) = subst (λ o. IsFirst P o) e f in
      let two : IsFirst Q (Some m) = subst (λ o. IsFirst Q o) d g in
      subst (λ o. IsFirst (λ n. P n || Q n) o) (sym d) (first-right m two (λ k b. one.2 k (omega arith)))

  pub first-first : (a b : Option ℕ) (n m : ℕ) → a ≡ Some n → b ≡ Some m → n ≤ m → IsFirst P a → IsFirst Q b → IsFirst (λ n. P n || Q n) a
  first-first a b n m e d l f g =
      let one : IsFirst P (Some n) = subst (λ o. IsFirst P o) e f in
      let two : IsFirst Q (Some m) = subst (λ o. IsFirst Q o) d g in
      subst (λ o. IsFirst (λ n. P n || Q n) o) (sym e) (first-left n one (λ k b. two.2 k (omega arith)))

  pub latest-none_left : (b : Option ℕ) → IsLatest P None → IsLatest Q b → IsLatest (λ n. P n || Q n) b
  latest-none_left None f g = latest-none f g
  latest-none_left (Some m) f g = latest-right m g (λ k l b. f k b)

  pub latest-none_right : (a : Option ℕ) → IsLatest P a → IsLatest Q None → IsLatest (λ n. P n || Q n) a
  latest-none_right None f g = latest-none f g
  latest-none_right (Some n) f g = latest-left n f (λ k l b. g k b)

  pub latest-second : (a b : Option ℕ) (n m : ℕ) → a ≡ Some n → b ≡ Some m → n < m → IsLatest P a → IsLatest Q b → IsLatest (λ n. P n || Q n) b
  latest-second a b n m e d l f g =
      let one : IsLatest P (Some n) = subst (λ o. IsLatest P o) e f in
      let two : IsLatest Q (Some m) = subst (λ o. IsLatest Q o) d g in
      subst (λ o. IsLatest (λ n. P n || Q n) o) (sym d) (latest-right m two (λ k b c. one.2 k (omega arith) c))

  pub latest-first : (a b : Option ℕ) (n m : ℕ) → a ≡ Some n → b ≡ Some m → m ≤ n → IsLatest P a → IsLatest Q b → IsLatest (λ n. P n || Q n) a
  latest-first a b n m e d l f g =
      let one : IsLatest P (Some n) = subst (λ o. IsLatest P o) e f in
      let two : IsLatest Q (Some m) = subst (λ o. IsLatest Q o) d g in
      subst (λ o. IsLatest (λ n. P n || Q n) o) (sym e) (latest-left n one (λ k b c. two.2 k (omega arith) c))
