-- Places of sendings, when one is added or changed.
use Rattle.std.proofs.Common.{◌≡◌, ℕ, zero, suc, ◌<◌, ◌≤◌, arith, Bool, true, false, if◌then◌else◌, List, [], ◌∷◌, ◌++◌, length, set, slice_get, Option, Some, None, option_map, refl, ap}
use Rattle.std.specs.Option.{option_or}
use Rattle.krb_exchange.specs.declared.sending.Sending.{Sending}
use Rattle.krb_exchange.specs.Happened.{latest_place}

-- the place after one more
abbrev pub next : Option ℕ → Option ℕ
next place = option_map (λ p. suc p) place

module _ (test : Sending → Bool) where
  pub latest-append : (xs : List Sending) (x : Sending) → latest_place test (xs ++ x ∷ []) ≡ (if test x then Some (length xs) else latest_place test xs)
  latest-append [] x = refl
  latest-append (y ∷ ys) x = by (test x) (latest_place test (ys ++ x ∷ [])) (latest-append ys x)
    where
      by : (b : Bool) (o : Option ℕ) → o ≡ (if b then Some (length ys) else latest_place test ys) → option_or (next o) (if test y then Some 0 else None) ≡ (if b then Some (suc (length ys)) else option_or (next (latest_place test ys)) (if test y then Some 0 else None))
      by true o e = ap (λ o. option_or (next o) (if test y then Some 0 else None)) e
      by false o e = ap (λ o. option_or (next o) (if test y then Some 0 else None)) e

  -- one is changed that passes as before
  pub latest-set : (xs : List Sending) (i : ℕ) (y : Sending) → ((x : Sending) → slice_get xs i ≡ Some x → test y ≡ test x) → latest_place test (set xs i y) ≡ latest_place test xs
  latest-set [] i y h = refl
  latest-set (z ∷ zs) zero y h = ap (λ b. option_or (next (latest_place test zs)) (if b then Some 0 else None)) (h z refl)
  latest-set (z ∷ zs) (suc i) y h = ap (λ o. option_or (next o) (if test z then Some 0 else None)) (latest-set zs i y h)

-- ---- the sending at a place
pub get-append : (xs : List Sending) (x : Sending) → slice_get (xs ++ x ∷ []) (length xs) ≡ Some x
get-append [] x = refl
get-append (y ∷ ys) x = get-append ys x

pub get-append_before : (xs : List Sending) (x : Sending) (i : ℕ) → i < length xs → slice_get (xs ++ x ∷ []) i ≡ slice_get xs i
get-append_before [] x i l = absurd (omega arith)
get-append_before (y ∷ ys) x zero l = refl
get-append_before (y ∷ ys) x (suc i) l = get-append_before ys x i (omega arith)

pub get-past : (xs : List Sending) (i : ℕ) → length xs ≤ i → slice_get xs i ≡ None
get-past [] i l = refl
get-past (y ∷ ys) zero l = absurd (omega arith)
get-past (y ∷ ys) (suc i) l = get-past ys i (omega arith)

pub get-set : (xs : List Sending) (i : ℕ) (y : Sending) → i < length xs → slice_get (set xs i y) i ≡ Some y
get-set [] i y l = absurd (omega arith)
get-set (z ∷ zs) zero y l = refl
get-set (z ∷ zs) (suc i) y l = get-set zs i y (omega arith)

pub get-set_other : (xs : List Sending) (i j : ℕ) (y : Sending) → (j ≡ i → ⊥) → slice_get (set xs i y) j ≡ slice_get xs j
get-set_other [] i j y n = refl
get-set_other (z ∷ zs) zero zero y n = absurd (n refl)
get-set_other (z ∷ zs) zero (suc j) y n = refl
get-set_other (z ∷ zs) (suc i) zero y n = refl
get-set_other (z ∷ zs) (suc i) (suc j) y n = get-set_other zs i j y (λ e. n (ap (λ k. suc k) e))
