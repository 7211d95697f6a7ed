-- Some sendings of a window alone: what is found among them is found in the whole window, too.
use Rattle.std.proofs.Common.{◌≡◌, ℕ, zero, suc, Bool, true, false, cond, if◌then◌else◌, List, [], ◌∷◌, filter, slice_get, Option, Some, None, is_some, refl, sym, ◌∙◌, ap, subst}
use Rattle.std.specs.Option.{option_or}
use Rattle.std.proofs.lemmas.Bool.{true≢false}
use Rattle.krb_exchange.specs.Happened.{at_place, changed, ended_if, first_place, in_state, latest_place, passes, place_if, with_state}
use Rattle.krb_exchange.specs.declared.sending.Sending.{Sending}
use Rattle.krb_exchange.specs.declared.sending.State.{State}
use Rattle.krb_exchange.specs.declared.sending.State.TheVariants as states
use Rattle.krb_exchange_laws.proofs.Each.{OfOne}
use Rattle.krb_exchange_laws.proofs.Found.{at-next, next}

-- after one more, its place is one more
pub with-next : (state : State) (x : Sending) (xs : List Sending) (place : Option ℕ) → with_state state (next place) (x ∷ xs) ≡ x ∷ with_state state place xs
with-next state x xs None = refl
with-next state x xs (Some p) = by (slice_get xs p)
  where
    by : (one : Option Sending) → changed state (x ∷ xs) (suc p) one ≡ x ∷ changed state xs p one
    by None = refl
    by (Some one) = refl

-- those that pass a test, which the state does not change
module _ (own : Sending → Bool) (kept : (state : State) (one : Sending) → own (in_state state one) ≡ own one) where
  abbrev pub those : List Sending → List Sending
  those xs = filter own xs

  -- a place in the whole window, and the place of the same sending among those
  pub record IsSame (p q : Option ℕ) (xs : List Sending) : Type 0 where
    pub has : is_some p ≡ is_some q
    pub at : at_place p xs ≡ at_place q (filter own xs)
    pub with : (state : State) → filter own (with_state state p xs) ≡ with_state state q (filter own xs)

  same-none : (xs : List Sending) → IsSame None None xs
  same-none xs = record { has = refl; at = refl; with = λ state. refl }

  same-here : (x : Sending) (xs : List Sending) → own x ≡ true → IsSame (Some 0) (Some 0) (x ∷ xs)
  same-here x xs e = record {
    has = refl;
    at = sym (ap (λ b. at_place (Some 0) (cond b (x ∷ filter own xs) (filter own xs))) e);
    with = λ state. ap (λ b. cond b (in_state state x ∷ filter own xs) (filter own xs)) (kept state x ∙ e) ∙ sym (ap (λ b. with_state state (Some 0) (cond b (x ∷ filter own xs) (filter own xs))) e);
  }

  same-next : (x : Sending) (xs : List Sending) (p q : Option ℕ) → own x ≡ true → IsSame p q xs → IsSame (next p) (next q) (x ∷ xs)
  same-next x xs p q e h = record {
    has = both p q h.has;
    at = at-next x xs p ∙ h.at ∙ sym (at-next x (filter own xs) q) ∙ sym (ap (λ b. at_place (next q) (cond b (x ∷ filter own xs) (filter own xs))) e);
    with = λ state.
        ap (λ ys. filter own ys) (with-next state x xs p)
        ∙ ap (λ b. cond b (x ∷ filter own (with_state state p xs)) (filter own (with_state state p xs))) e
        ∙ ap (λ ys. x ∷ ys) (h.with state)
        ∙ sym (with-next state x (filter own xs) q)
        ∙ sym (ap (λ b. with_state state (next q) (cond b (x ∷ filter own xs) (filter own xs))) e);
  }
    where
      both : (p q : Option ℕ) → is_some p ≡ is_some q → is_some (next p) ≡ is_some (next q)
      both None None h = refl
      both None (Some q) h = h
      both (Some p) None h = h
      both (Some p) (Some q) h = refl

  same-other : (x : Sending) (xs : List Sending) (p q : Option ℕ) → own x ≡ false → IsSame p q xs → IsSame (next p) q (x ∷ xs)
  same-other x xs p q e h = record {
    has = by p ∙ h.has;
    at = at-next x xs p ∙ h.at ∙ sym (ap (λ b. at_place q (cond b (x ∷ filter own xs) (filter own xs))) e);
    with = λ state.
        ap (λ ys. filter own ys) (with-next state x xs p)
        ∙ ap (λ b. cond b (x ∷ filter own (with_state state p xs)) (filter own (with_state state p xs))) e
        ∙ h.with state
        ∙ sym (ap (λ b. with_state state q (cond b (x ∷ filter own xs) (filter own xs))) e);
  }
    where
      by : (p : Option ℕ) → is_some (next p) ≡ is_some p
      by None = refl
      by (Some p) = refl

  module _ (test : Sending → Bool) (within : (one : Sending) → test one ≡ true → own one ≡ true) where
    outside : (x : Sending) → own x ≡ false → test x ≡ false
    outside x e = by (test x) refl
      where
        by : (b : Bool) → test x ≡ b → b ≡ false
        by true d = absurd (true≢false (sym (within x d) ∙ e))
        by false d = refl

    -- the first one is the one, or none is
    here : (x : Sending) (xs : List Sending) (b : Bool) → test x ≡ b → own x ≡ true → IsSame (if b then Some 0 else None) (if b then Some 0 else None) (x ∷ xs)
    here x xs true d e = same-here x xs e
    here x xs false d e = same-none (x ∷ xs)

    latest-own : (x : Sending) (xs : List Sending) (p q : Option ℕ) → own x ≡ true → IsSame p q xs → IsSame (option_or (next p) (if test x then Some 0 else None)) (option_or (next q) (if test x then Some 0 else None)) (x ∷ xs)
    latest-own x xs None None e h = here x xs (test x) refl e
    latest-own x xs None (Some q) e h = absurd (true≢false (sym h.has))
    latest-own x xs (Some p) None e h = absurd (true≢false h.has)
    latest-own x xs (Some p) (Some q) e h = same-next x xs (Some p) (Some q) e h

    latest-other : (x : Sending) (xs : List Sending) (p q : Option ℕ) (b : Bool) → b ≡ false → own x ≡ false → IsSame p q xs → IsSame (option_or (next p) (if b then Some 0 else None)) q (x ∷ xs)
    latest-other x xs None q b d e h = subst (λ c. IsSame (if c then Some 0 else None) q (x ∷ xs)) (sym d) (same-other x xs None q e h)
    latest-other x xs (Some p) q b d e h = same-other x xs (Some p) q e h

    pub same-latest : (xs : List Sending) → IsSame (latest_place test xs) (latest_place test (filter own xs)) xs
    same-latest [] = same-none []
    same-latest (x ∷ xs) = by (own x) refl (same-latest xs)
      where
        by : (b : Bool) → own x ≡ b → IsSame (latest_place test xs) (latest_place test (filter own xs)) xs → IsSame (latest_place test (x ∷ xs)) (latest_place test (cond b (x ∷ filter own xs) (filter own xs))) (x ∷ xs)
        by true e h = latest-own x xs (latest_place test xs) (latest_place test (filter own xs)) e h
        by false e h = latest-other x xs (latest_place test xs) (latest_place test (filter own xs)) (test x) (outside x e) e h

    pub same-first : (xs : List Sending) → IsSame (first_place test xs) (first_place test (filter own xs)) xs
    same-first [] = same-none []
    same-first (x ∷ xs) = by (own x) refl (same-first xs)
      where
        mine : (b : Bool) → own x ≡ true → IsSame (first_place test xs) (first_place test (filter own xs)) xs → IsSame (if b then Some 0 else next (first_place test xs)) (if b then Some 0 else next (first_place test (filter own xs))) (x ∷ xs)
        mine true e h = same-here x xs e
        mine false e h = same-next x xs (first_place test xs) (first_place test (filter own xs)) e h

        by : (b : Bool) → own x ≡ b → IsSame (first_place test xs) (first_place test (filter own xs)) xs → IsSame (first_place test (x ∷ xs)) (first_place test (cond b (x ∷ filter own xs) (filter own xs))) (x ∷ xs)
        by true e h = mine (test x) e h
        by false e h = subst (λ c. IsSame (if c then Some 0 else next (first_place test xs)) (first_place test (filter own xs)) (x ∷ xs)) (sym (outside x e)) (same-other x xs (first_place test xs) (first_place test (filter own xs)) e h)

  pub same-if : (test : Sending → Bool) (p q : Option ℕ) (xs : List Sending) → IsSame p q xs → IsSame (place_if test p xs) (place_if test q (filter own xs)) xs
  same-if test p q xs h = subst (λ c. IsSame (if passes test (at_place p xs) then p else None) (if c then q else None) xs) (ap (λ one. passes test one) h.at) (by (passes test (at_place p xs)))
    where
      by : (b : Bool) → IsSame (if b then p else None) (if b then q else None) xs
      by true = h
      by false = same-none xs

  -- ---- a change of one that is none of those
  pub others-changed : (state : State) (place : Option ℕ) (xs : List Sending) → OfOne (λ one. own one ≡ false) (at_place place xs) → filter own (with_state state place xs) ≡ filter own xs
  others-changed state None xs h = refl
  others-changed state (Some p) [] h = refl
  others-changed state (Some zero) (x ∷ xs) h = ap (λ b. cond b (in_state state x ∷ filter own xs) (filter own xs)) (kept state x ∙ h) ∙ sym (ap (λ b. cond b (x ∷ filter own xs) (filter own xs)) h)
  others-changed state (Some (suc p)) (x ∷ xs) h = ap (λ ys. filter own ys) (with-next state x xs (Some p)) ∙ ap (λ ys. cond (own x) (x ∷ ys) ys) (others-changed state (Some p) xs h)

  -- ---- those that end
  pub those-ended : (test : Sending → Bool) (xs : List Sending) → filter own (ended_if test xs) ≡ ended_if test (filter own xs)
  those-ended test [] = refl
  those-ended test (x ∷ xs) = by (own x) refl (those-ended test xs)
    where
      same : (b : Bool) → own (if b then in_state states.Ended x else x) ≡ own x
      same true = kept states.Ended x
      same false = refl

      by : (c : Bool) → own x ≡ c → filter own (ended_if test xs) ≡ ended_if test (filter own xs) → cond (own (if test x then in_state states.Ended x else x)) ((if test x then in_state states.Ended x else x) ∷ filter own (ended_if test xs)) (filter own (ended_if test xs)) ≡ ended_if test (cond c (x ∷ filter own xs) (filter own xs))
      by true e h = ap (λ b. cond b ((if test x then in_state states.Ended x else x) ∷ filter own (ended_if test xs)) (filter own (ended_if test xs))) (same (test x) ∙ e) ∙ ap (λ ys. (if test x then in_state states.Ended x else x) ∷ ys) h
      by false e h = ap (λ b. cond b ((if test x then in_state states.Ended x else x) ∷ filter own (ended_if test xs)) (filter own (ended_if test xs))) (same (test x) ∙ e) ∙ h

  pub others-ended : (test : Sending → Bool) → ((one : Sending) → test one ≡ true → own one ≡ false) → (xs : List Sending) → filter own (ended_if test xs) ≡ filter own xs
  others-ended test apart [] = refl
  others-ended test apart (x ∷ xs) = by (test x) refl (others-ended test apart xs)
    where
      by : (b : Bool) → test x ≡ b → filter own (ended_if test xs) ≡ filter own xs → filter own ((if b then in_state states.Ended x else x) ∷ ended_if test xs) ≡ cond (own x) (x ∷ filter own xs) (filter own xs)
      by true e h = ap (λ b. cond b (in_state states.Ended x ∷ filter own (ended_if test xs)) (filter own (ended_if test xs))) (kept states.Ended x ∙ apart x e) ∙ h ∙ sym (ap (λ b. cond b (x ∷ filter own xs) (filter own xs)) (apart x e))
      by false e h = ap (λ ys. cond (own x) (x ∷ ys) ys) h
