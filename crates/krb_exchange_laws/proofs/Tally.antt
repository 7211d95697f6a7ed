-- How many sendings of a window are open and pass a test, and how many of these an event tells of.
use Rattle.std.proofs.Common.{◌≡◌, ℕ, zero, suc, ◌+◌, arith, Bool, true, false, ◌&&◌, nat_lt, cond, if◌then◌else◌, List, [], ◌∷◌, ◌++◌, length, filter, slice_get, Option, Some, None, refl, sym, ap}
use Rattle.std.specs.List.{AllByRecursion}
use Rattle.krb_exchange.specs.Happened.{added, at_place, changed, ended_if, if_open, in_state, is_open, listed, with_room, with_state, without_first}
use Rattle.krb_exchange.specs.declared.sending.Sending.{Sending}
use Rattle.krb_exchange.specs.declared.sending.State.{State}
use Rattle.krb_exchange.specs.declared.sending.State.TheVariants as states
use Rattle.krb_exchange_laws.proofs.Windows.{roomed}

abbrev pub weight : Bool → ℕ
weight true = 1
weight false = 0

abbrev pub tally : {X : Type 0} → (X → Bool) → List X → ℕ
tally test [] = 0
tally test (x ∷ xs) = weight (test x) + tally test xs

pub tally-filter : {X : Type 0} (test : X → Bool) (xs : List X) → length (filter test xs) ≡ tally test xs
tally-filter test [] = refl
tally-filter test (x ∷ xs) = by (test x) (tally-filter test xs)
  where
    by : (b : Bool) → length (filter test xs) ≡ tally test xs → length (cond b (x ∷ filter test xs) (filter test xs)) ≡ weight b + tally test xs
    by true e = omega arith
    by false e = omega arith

pub tally-append : {X : Type 0} (test : X → Bool) (xs ys : List X) → tally test (xs ++ ys) ≡ tally test xs + tally test ys
tally-append test [] ys = omega arith
tally-append test (x ∷ xs) ys =
    let e : tally test (xs ++ ys) ≡ tally test xs + tally test ys = tally-append test xs ys in
    omega arith

-- ---- of those that are open
module _ (test : Sending → Bool) where
  abbrev pub live : Sending → Bool
  live one = is_open one.state && test one

  -- what is told is open: it counts as it is told
  pub tally-open : (xs : List Sending) → AllByRecursion (λ one. is_open one.state ≡ true) xs → tally test xs ≡ tally live xs
  tally-open [] h = refl
  tally-open (x ∷ xs) h =
      let e : tally test xs ≡ tally live xs = tally-open xs h.1 in
      let d : weight (test x) ≡ weight (is_open x.state && test x) = ap (λ b. weight (b && test x)) (sym h.0) in
      omega arith

  deeper : (state : State) (x : Sending) (xs : List Sending) (place : ℕ) → with_state state (Some (suc place)) (x ∷ xs) ≡ x ∷ with_state state (Some place) xs
  deeper state x xs place = by (slice_get xs place)
    where
      by : (one : Option Sending) → changed state (x ∷ xs) (suc place) one ≡ x ∷ changed state xs place one
      by None = refl
      by (Some one) = refl

  -- one that is no longer open counts no more
  module _ (state : State) (shut : is_open state ≡ false) where
    tally-changed : (place : ℕ) (xs : List Sending) → tally live (listed (slice_get xs place)) + tally live (with_state state (Some place) xs) ≡ tally live xs
    tally-changed place [] = omega arith
    tally-changed zero (x ∷ xs) =
        let d : weight (is_open state && test (in_state state x)) ≡ 0 = ap (λ b. weight (b && test (in_state state x))) shut in
        omega arith
    tally-changed (suc place) (x ∷ xs) =
        let e : tally live (listed (slice_get xs place)) + tally live (with_state state (Some place) xs) ≡ tally live xs = tally-changed place xs in
        let d : tally live (with_state state (Some (suc place)) (x ∷ xs)) ≡ tally live (x ∷ with_state state (Some place) xs) = ap (λ ys. tally live ys) (deeper state x xs place) in
        omega arith

    pub tally-with_state : (place : Option ℕ) (xs : List Sending) → tally live (listed (at_place place xs)) + tally live (with_state state place xs) ≡ tally live xs
    tally-with_state None xs = omega arith
    tally-with_state (Some place) xs = tally-changed place xs

  -- ---- one is added
  tally-if_open : (one : Sending) → tally live (listed (if_open one)) ≡ weight (live one)
  tally-if_open one = by (is_open one.state) refl
    where
      by : (b : Bool) → is_open one.state ≡ b → tally live (listed (if b then Some one else None)) ≡ weight (b && test one)
      by true e =
          let d : weight (is_open one.state && test one) ≡ weight (test one) = ap (λ b. weight (b && test one)) e in
          omega arith
      by false e = refl

  tally-without_first : (xs : List Sending) → tally live (listed (without_first xs).told) + tally live (without_first xs).window ≡ tally live xs
  tally-without_first [] = refl
  tally-without_first (x ∷ xs) =
      let e : tally live (listed (if_open x)) ≡ weight (live x) = tally-if_open x in
      omega arith

  tally-roomed : (b : Bool) (xs : List Sending) → tally live (listed (roomed b xs).told) + tally live (roomed b xs).window ≡ tally live xs
  tally-roomed true xs = omega arith
  tally-roomed false xs = tally-without_first xs

  pub tally-added : (one : Sending) (xs : List Sending) → tally live (listed (added one xs).told) + tally live (added one xs).window ≡ tally live xs + weight (live one)
  tally-added one xs =
      let e : tally live (listed (with_room xs).told) + tally live (with_room xs).window ≡ tally live xs = tally-roomed (nat_lt (length xs) 65536) xs in
      let d : tally live ((with_room xs).window ++ one ∷ []) ≡ tally live (with_room xs).window + tally live (one ∷ []) = tally-append live (with_room xs).window (one ∷ []) in
      omega arith

  -- ---- some are ended
  pub tally-ended_if : (t : Sending → Bool) (xs : List Sending) → tally live (filter t xs) + tally live (ended_if t xs) ≡ tally live xs
  tally-ended_if t [] = refl
  tally-ended_if t (x ∷ xs) = by (t x) (tally-ended_if t xs)
    where
      by : (b : Bool) → tally live (filter t xs) + tally live (ended_if t xs) ≡ tally live xs → tally live (cond b (x ∷ filter t xs) (filter t xs)) + tally live ((if b then in_state states.Ended x else x) ∷ ended_if t xs) ≡ tally live (x ∷ xs)
      by true e = omega arith
      by false e = omega arith

  pub tally-open_in : (xs : List Sending) → tally live (filter (λ one. is_open one.state) xs) ≡ tally live xs
  tally-open_in [] = refl
  tally-open_in (x ∷ xs) = by (is_open x.state) refl (tally-open_in xs)
    where
      by : (b : Bool) → is_open x.state ≡ b → tally live (filter (λ one. is_open one.state) xs) ≡ tally live xs → tally live (cond b (x ∷ filter (λ one. is_open one.state) xs) (filter (λ one. is_open one.state) xs)) ≡ weight (b && test x) + tally live xs
      by true e h =
          let d : weight (is_open x.state && test x) ≡ weight (test x) = ap (λ b. weight (b && test x)) e in
          omega arith
      by false e h = omega arith
