-- What is found in a window passes the test that it is found by.
use Rattle.std.proofs.Common.{◌≡◌, ℕ, suc, Bool, true, false, cond, if◌then◌else◌, List, [], ◌∷◌, filter, Option, Some, None, option_map, refl}
use Rattle.std.specs.List.{AllByRecursion}
use Rattle.std.specs.Option.{option_or}
use Rattle.krb_exchange.specs.Happened.{at_place, first_place, latest_place, passes, place_if}
use Rattle.krb_exchange.specs.declared.sending.Sending.{Sending}
use Rattle.krb_exchange_laws.proofs.Each.{OfOne}

-- the place after one more
abbrev pub next : Option ℕ → Option ℕ
next place = option_map (λ p. suc p) place

pub at-next : (x : Sending) (xs : List Sending) (place : Option ℕ) → at_place (next place) (x ∷ xs) ≡ at_place place xs
at-next x xs None = refl
at-next x xs (Some p) = refl

module _ (test : Sending → Bool) where
  found-next : (x : Sending) (xs : List Sending) (place : Option ℕ) → OfOne (λ one. test one ≡ true) (at_place place xs) → OfOne (λ one. test one ≡ true) (at_place (next place) (x ∷ xs))
  found-next x xs None h = tt
  found-next x xs (Some p) h = h

  pub found-latest : (xs : List Sending) → OfOne (λ one. test one ≡ true) (at_place (latest_place test xs) xs)
  found-latest [] = tt
  found-latest (x ∷ xs) = by (latest_place test xs) (found-latest xs)
    where
      first : (b : Bool) → test x ≡ b → OfOne (λ one. test one ≡ true) (at_place (if b then Some 0 else None) (x ∷ xs))
      first true e = e
      first false e = tt

      by : (place : Option ℕ) → OfOne (λ one. test one ≡ true) (at_place place xs) → OfOne (λ one. test one ≡ true) (at_place (option_or (next place) (if test x then Some 0 else None)) (x ∷ xs))
      by None h = first (test x) refl
      by (Some p) h = h

  pub found-first : (xs : List Sending) → OfOne (λ one. test one ≡ true) (at_place (first_place test xs) xs)
  found-first [] = tt
  found-first (x ∷ xs) = by (test x) refl (found-first xs)
    where
      by : (b : Bool) → test x ≡ b → OfOne (λ one. test one ≡ true) (at_place (first_place test xs) xs) → OfOne (λ one. test one ≡ true) (at_place (if b then Some 0 else next (first_place test xs)) (x ∷ xs))
      by true e h = e
      by false e h = found-next x xs (first_place test xs) h

  pub found-if : (place : Option ℕ) (xs : List Sending) → OfOne (λ one. test one ≡ true) (at_place (place_if test place xs) xs)
  found-if place xs = by (passes test (at_place place xs)) refl
    where
      it : (one : Option Sending) → passes test one ≡ true → OfOne (λ one. test one ≡ true) one
      it None e = tt
      it (Some one) e = e

      by : (b : Bool) → passes test (at_place place xs) ≡ b → OfOne (λ one. test one ≡ true) (at_place (if b then place else None) xs)
      by true e = it (at_place place xs) e
      by false e = tt

  pub found-all : (xs : List Sending) → AllByRecursion (λ one. test one ≡ true) (filter test xs)
  found-all [] = tt
  found-all (x ∷ xs) = by (test x) refl (found-all xs)
    where
      by : (b : Bool) → test x ≡ b → AllByRecursion (λ one. test one ≡ true) (filter test xs) → AllByRecursion (λ one. test one ≡ true) (cond b (x ∷ filter test xs) (filter test xs))
      by true e h = (e, h)
      by false e h = h

-- a place that is kept passes what it passed
pub kept-if : (P : Sending → Type 0) (test : Sending → Bool) (place : Option ℕ) (xs : List Sending) → OfOne P (at_place place xs) → OfOne P (at_place (place_if test place xs) xs)
kept-if P test place xs h = by (passes test (at_place place xs))
  where
    by : (b : Bool) → OfOne P (at_place (if b then place else None) xs)
    by true = h
    by false = tt
