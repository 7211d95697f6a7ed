-- What holds of each sending of a window, whatever its state: of those that are told and of those that are left, too.
use Rattle.std.proofs.Common.{ℕ, zero, suc, Bool, true, false, nat_lt, cond, if◌then◌else◌, List, [], ◌∷◌, ◌++◌, length, filter, slice_get, slice_set, Option, Some, None}
use Rattle.std.specs.List.{AllByRecursion}
use Rattle.krb_exchange.specs.Happened.{After, added, at_place, changed, ended_if, if_open, in_state, is_open, listed, with_room, with_state, without_first}
use Rattle.krb_exchange.specs.declared.sending.Sending.{Sending}
use Rattle.krb_exchange.specs.declared.sending.State.{State}
use Rattle.krb_exchange.specs.declared.sending.State.TheVariants as states
use Rattle.krb_exchange_laws.proofs.Windows.{roomed}

-- of one, if there is one
abbrev pub OfOne : (Sending → Type 0) → Option Sending → Type 0
OfOne P None = Unit {0}
OfOne P (Some one) = P one

pub record AddedEach (P : Sending → Type 0) (after : After (Option Sending)) : Type 0 where
  pub told : OfOne P after.told
  pub window : AllByRecursion P after.window

module _ (P : Sending → Type 0) where
  pub each-append : (xs ys : List Sending) → AllByRecursion P xs → AllByRecursion P ys → AllByRecursion P (xs ++ ys)
  each-append [] ys h k = k
  each-append (x ∷ xs) ys h k = (h.0, each-append xs ys h.1 k)

  pub each-listed : (one : Option Sending) → OfOne P one → AllByRecursion P (listed one)
  each-listed None h = tt
  each-listed (Some one) h = (h, tt)

  pub each-get : (xs : List Sending) (i : ℕ) → AllByRecursion P xs → OfOne P (slice_get xs i)
  each-get [] i h = tt
  each-get (x ∷ xs) zero h = h.0
  each-get (x ∷ xs) (suc i) h = each-get xs i h.1

  pub each-place : (place : Option ℕ) (xs : List Sending) → AllByRecursion P xs → OfOne P (at_place place xs)
  each-place None xs h = tt
  each-place (Some i) xs h = each-get xs i h

  pub each-set : (xs : List Sending) (i : ℕ) (y : Sending) → AllByRecursion P xs → P y → AllByRecursion P (slice_set xs i y)
  each-set [] i y h p = tt
  each-set (x ∷ xs) zero y h p = (p, h.1)
  each-set (x ∷ xs) (suc i) y h p = (h.0, each-set xs i y h.1 p)

  pub each-filter : (test : Sending → Bool) (xs : List Sending) → AllByRecursion P xs → AllByRecursion P (filter test xs)
  each-filter test [] h = tt
  each-filter test (x ∷ xs) h = by (test x) (each-filter test xs h.1)
    where
      by : (b : Bool) → AllByRecursion P (filter test xs) → AllByRecursion P (cond b (x ∷ filter test xs) (filter test xs))
      by true k = (h.0, k)
      by false k = k

  one-if_open : (one : Sending) → P one → OfOne P (if_open one)
  one-if_open one p = by (is_open one.state)
    where
      by : (b : Bool) → OfOne P (if b then Some one else None)
      by true = p
      by false = tt

  each-without_first : (xs : List Sending) → AllByRecursion P xs → AddedEach P (without_first xs)
  each-without_first [] h = record { told = tt; window = tt }
  each-without_first (x ∷ xs) h = record { told = one-if_open x h.0; window = h.1 }

  each-roomed : (b : Bool) (xs : List Sending) → AllByRecursion P xs → AddedEach P (roomed b xs)
  each-roomed true xs h = record { told = tt; window = h }
  each-roomed false xs h = each-without_first xs h

  pub each-added : (one : Sending) (xs : List Sending) → AllByRecursion P xs → P one → AddedEach P (added one xs)
  each-added one xs h p =
      let room : AddedEach P (with_room xs) = each-roomed (nat_lt (length xs) 65536) xs h in
      record { told = room.told; window = each-append (with_room xs).window (one ∷ []) room.window (p, tt) }

  module _ (kept : (state : State) (one : Sending) → P one → P (in_state state one)) where
    pub each-with_state : (state : State) (place : Option ℕ) (xs : List Sending) → AllByRecursion P xs → AllByRecursion P (with_state state place xs)
    each-with_state state None xs h = h
    each-with_state state (Some place) xs h = by (slice_get xs place) (each-get xs place h)
      where
        by : (one : Option Sending) → OfOne P one → AllByRecursion P (changed state xs place one)
        by None k = h
        by (Some one) k = each-set xs place (in_state state one) h (kept state one k)

    pub each-ended_if : (test : Sending → Bool) (xs : List Sending) → AllByRecursion P xs → AllByRecursion P (ended_if test xs)
    each-ended_if test [] h = tt
    each-ended_if test (x ∷ xs) h = (by (test x), each-ended_if test xs h.1)
      where
        by : (b : Bool) → P (if b then in_state states.Ended x else x)
        by true = kept states.Ended x h.0
        by false = h.0
