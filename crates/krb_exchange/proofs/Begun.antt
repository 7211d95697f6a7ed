-- The open sendings of a window, one after another.
use Rattle.std.proofs.Common.{◌≡◌, ℕ, suc, Bool, true, false, if◌then◌else◌, cond, List, [], ◌∷◌, ◌++◌, filter, slice_get, Option, Some, None, IfNone, is_some, refl, sym, ◌∙◌, ap}
use Rattle.std.proofs.lemmas.Bool.{true≢false}
use Rattle.krb_exchange.specs.declared.sending.Sending.{Sending}
use Rattle.krb_exchange.specs.declared.sending.State.{State}
use Rattle.krb_exchange.specs.declared.sending.State.TheVariants as states
use Rattle.krb_exchange.specs.Happened.{at_place, changed, ended_if, first_place, in_state, listed, with_state}
use Rattle.krb_exchange.proofs.Places.{next}

pub if-none : {A P : Type 0} (o : Option A) → (o ≡ None → P) → IfNone o P
if-none None f = f refl
if-none (Some x) f = tt

-- what passes no more, once it has ended
module _ (test : Sending → Bool) (closed : (one : Sending) → test (in_state states.Ended one) ≡ false) where
  abbrev pub after : List Sending → Option ℕ → List Sending
  after xs place = with_state states.Ended place xs

  abbrev pub told : Option Sending → List Sending → List Sending
  told None xs = []
  told (Some one) xs = one ∷ filter test xs

  deeper : (x : Sending) (xs : List Sending) (place : Option ℕ) → after (x ∷ xs) (next place) ≡ x ∷ after xs place
  deeper x xs None = refl
  deeper x xs (Some p) = by (slice_get xs p)
    where
      by : (o : Option Sending) → changed states.Ended (x ∷ xs) (suc p) o ≡ x ∷ changed states.Ended xs p o
      by None = refl
      by (Some one) = refl

  at-next : (x : Sending) (xs : List Sending) (place : Option ℕ) → at_place (next place) (x ∷ xs) ≡ at_place place xs
  at-next x xs None = refl
  at-next x xs (Some p) = refl

  told-deeper : (x : Sending) → test x ≡ false → (o : Option Sending) (ys : List Sending) → told o ys ≡ told o (x ∷ ys)
  told-deeper x e None ys = refl
  told-deeper x e (Some one) ys = sym (ap (λ b. one ∷ cond b (x ∷ filter test ys) (filter test ys)) e)

  -- the first is told, and then the others
  pub told-first : (xs : List Sending) → filter test xs ≡ told (at_place (first_place test xs) xs) (after xs (first_place test xs))
  told-first [] = refl
  told-first (x ∷ xs) = by (test x) refl (first_place test xs) (told-first xs)
    where
      by : (b : Bool) → test x ≡ b → (place : Option ℕ) → filter test xs ≡ told (at_place place xs) (after xs place) → cond b (x ∷ filter test xs) (filter test xs) ≡ told (at_place (if b then Some 0 else next place) (x ∷ xs)) (after (x ∷ xs) (if b then Some 0 else next place))
      by true e place h = sym (ap (λ b. x ∷ cond b (in_state states.Ended x ∷ filter test xs) (filter test xs)) (closed x))
      by false e place h =
          h
          ∙ told-deeper x e (at_place place xs) (after xs place)
          ∙ ap (λ o. told o (x ∷ after xs place)) (sym (at-next x xs place))
          ∙ ap (λ ys. told (at_place (next place) (x ∷ xs)) ys) (sym (deeper x xs place))

  -- then the same is left to be ended
  pub ended-first : (xs : List Sending) → ended_if test (after xs (first_place test xs)) ≡ ended_if test xs
  ended-first [] = refl
  ended-first (x ∷ xs) = by (test x) refl (first_place test xs) (ended-first xs)
    where
      by : (b : Bool) → test x ≡ b → (place : Option ℕ) → ended_if test (after xs place) ≡ ended_if test xs → ended_if test (after (x ∷ xs) (if b then Some 0 else next place)) ≡ (if b then in_state states.Ended x else x) ∷ ended_if test xs
      by true e place h = ap (λ c. (if c then in_state states.Ended (in_state states.Ended x) else in_state states.Ended x) ∷ ended_if test xs) (closed x)
      by false e place h =
          ap (λ ys. ended_if test ys) (deeper x xs place)
          ∙ ap (λ c. (if c then in_state states.Ended x else x) ∷ ended_if test (after xs place)) e
          ∙ ap (λ ys. x ∷ ys) h

  -- the window stays if none is told
  pub same-window : (state : State) (place : Option ℕ) (xs : List Sending) → at_place place xs ≡ None → with_state state place xs ≡ xs
  same-window state None xs e = refl
  same-window state (Some p) xs e = ap (λ o. changed state xs p o) e

  pub begun-step : (xs : List Sending) → listed (at_place (first_place test xs) xs) ++ filter test (after xs (first_place test xs)) ≡ filter test xs
  begun-step xs = by (at_place (first_place test xs) xs) refl (told-first xs)
    where
      by : (o : Option Sending) → at_place (first_place test xs) xs ≡ o → filter test xs ≡ told o (after xs (first_place test xs)) → listed o ++ filter test (after xs (first_place test xs)) ≡ filter test xs
      by None e h = ap (λ ys. filter test ys) (same-window states.Ended (first_place test xs) xs e)
      by (Some one) e h = sym h

  pub ended-none : (xs : List Sending) → at_place (first_place test xs) xs ≡ None → ended_if test xs ≡ xs
  ended-none [] e = refl
  ended-none (x ∷ xs) e = by (test x) (first_place test xs) (ended-none xs) e
    where
      by : (b : Bool) (place : Option ℕ) → (at_place place xs ≡ None → ended_if test xs ≡ xs) → at_place (if b then Some 0 else next place) (x ∷ xs) ≡ None → (if b then in_state states.Ended x else x) ∷ ended_if test xs ≡ x ∷ xs
      by true place h q = absurd (true≢false (ap (λ o. is_some o) q))
      by false place h q = ap (λ ys. x ∷ ys) (h (sym (at-next x xs place) ∙ q))
