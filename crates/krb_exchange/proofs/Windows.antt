-- Which sendings a window finds, by what its index says.
use Rattle.std.proofs.Common.{◌≡◌, ℕ, zero, suc, ◌+◌, ◌-◌, ◌<◌, ◌≤◌, ◌^◌, arith, Bool, true, false, ◌&&◌, ◌||◌, if◌then◌else◌, List, [], ◌∷◌, length, set, slice_get, slice_index_or, Option, Some, None, is_some, refl, sym, ◌∙◌, ap, length-append, length-set}
use Rattle.std.specs.Option.{unwrap_or}
use Rattle.std.proofs.lemmas.Bool.{true≢false}
use Rattle.std.proofs.lemmas.List.{set-append_left}
use Rattle.krb_record.specs.declared.flow.Flow.{Flow}
use Rattle.krb_record.specs.declared.told.Request.{Request}
use Rattle.krb_record.specs.declared.told.Request.TheVariants as requests
use Rattle.krb_exchange.specs.declared.index.Index.{Index}
use Rattle.krb_exchange.specs.declared.sending.Sending.{Sending}
use Rattle.krb_exchange.specs.declared.sending.State.{State}
use Rattle.krb_exchange.specs.declared.sending.What.{What}
use Rattle.krb_exchange.specs.declared.sending.What.TheVariants as whats
use Rattle.krb_exchange.specs.Happened.{at_place, changed, first_place, in_state, is_open, is_open_request, is_request, latest_place, passes, place_if, same_flow, same_kind, with_state}
use Rattle.krb_exchange.specs.inner.Indexes.{Indexes, at_number, numbered, with_ahead}
use Rattle.krb_exchange.specs.inner.Numbers.{IsFirst, IsLatest, any_kind, has, has_any, has_if}
use Rattle.krb_exchange.proofs.Numbers.{at, first-is, first-same, latest-is, latest-same, one-first, one-latest}
use Rattle.krb_exchange.proofs.Places.{get-append_before}

-- ---- a number, and its place
some-number : (n m : ℕ) → Some n ≡ Some m → n ≡ m
some-number n m e = ap (λ o. unwrap_or o 0) e

pub place-back : (gone n r : ℕ) (number place : Option ℕ) → number ≡ Some n → r ≡ n - gone → number ≡ numbered gone place → Some r ≡ place
place-back gone n r number None e d q = absurd (true≢false (ap (λ o. is_some o) (sym e ∙ q)))
place-back gone n r number (Some p) e d q =
    let it : n ≡ gone + p = some-number n (gone + p) (sym e ∙ q) in
    let same : r ≡ p = omega arith in
    ap (λ k. Some k) same

pub place-none : (gone : ℕ) (number place : Option ℕ) → number ≡ None → number ≡ numbered gone place → None ≡ place
place-none gone number None e q = refl
place-none gone number (Some p) e q = absurd (true≢false (ap (λ o. is_some o) (sym q ∙ e)))

-- ---- the sending at a place
pub get-is : (xs : List Sending) (i : ℕ) (v : Sending) → i < length xs → v ≡ slice_index_or xs i v → slice_get xs i ≡ Some v
get-is [] i v l e = absurd (omega arith)
get-is (x ∷ xs) zero v l e = ap (λ y. Some y) (sym e)
get-is (x ∷ xs) (suc i) v l e = get-is xs i v (omega arith) e

pub get-few : (xs : List Sending) (i : ℕ) (v : Sending) → slice_get xs i ≡ Some v → i < length xs
get-few [] i v e = absurd (true≢false (ap (λ o. is_some o) (sym e)))
get-few (x ∷ xs) zero v e = omega arith
get-few (x ∷ xs) (suc i) v e =
    let l : i < length xs = get-few xs i v e in
    omega arith

pub get-ahead : (ahead : Option Sending) (xs : List Sending) (i : ℕ) (v : Sending) → slice_get xs i ≡ Some v → slice_get (with_ahead ahead xs) i ≡ Some v
get-ahead None xs i v e = e
get-ahead (Some one) xs i v e = get-append_before xs one i (get-few xs i v e) ∙ e

pub few-ahead : (ahead : Option Sending) (xs : List Sending) (i : ℕ) → i < length xs → i < length (with_ahead ahead xs)
few-ahead None xs i l = l
few-ahead (Some one) xs i l = omega (arith, length-append xs (one ∷ []))

pub set-ahead : (ahead : Option Sending) (xs : List Sending) (i : ℕ) (y : Sending) → i < length xs → set (with_ahead ahead xs) i y ≡ with_ahead ahead (set xs i y)
set-ahead None xs i y l = refl
set-ahead (Some one) xs i y l = set-append_left xs (one ∷ []) i y l

pub length-ahead : (ahead : Option Sending) (xs : List Sending) (i : ℕ) (y : Sending) → length (with_ahead ahead (set xs i y)) ≡ length (with_ahead ahead xs)
length-ahead None xs i y = length-set xs i y
length-ahead (Some one) xs i y = length-append (set xs i y) (one ∷ []) ∙ ap (λ n. n + length (one ∷ [])) (length-set xs i y) ∙ sym (length-append xs (one ∷ []))

pub first-ahead : (ahead : Option Sending) (x : Sending) (xs : List Sending) → with_ahead ahead (x ∷ xs) ≡ x ∷ with_ahead ahead xs
first-ahead None x xs = refl
first-ahead (Some one) x xs = refl

-- ---- open requests, by their kinds
none-of : (a b c : Bool) → ((a && false) || ((b && false) || (c && false))) ≡ false
none-of true true true = refl
none-of true true false = refl
none-of true false true = refl
none-of true false false = refl
none-of false true true = refl
none-of false true false = refl
none-of false false true = refl
none-of false false false = refl

of-syn : (a b c s g : Bool) → ((a && (s && (false && g))) || ((b && (s && (false && g))) || (c && (s && (false && g))))) ≡ (s && (false && g))
of-syn true true true true true = refl
of-syn true true true true false = refl
of-syn true true true false true = refl
of-syn true true true false false = refl
of-syn true true false true true = refl
of-syn true true false true false = refl
of-syn true true false false true = refl
of-syn true true false false false = refl
of-syn true false true true true = refl
of-syn true false true true false = refl
of-syn true false true false true = refl
of-syn true false true false false = refl
of-syn true false false true true = refl
of-syn true false false true false = refl
of-syn true false false false true = refl
of-syn true false false false false = refl
of-syn false true true true true = refl
of-syn false true true true false = refl
of-syn false true true false true = refl
of-syn false true true false false = refl
of-syn false true false true true = refl
of-syn false true false true false = refl
of-syn false true false false true = refl
of-syn false true false false false = refl
of-syn false false true true true = refl
of-syn false false true true false = refl
of-syn false false true false true = refl
of-syn false false true false false = refl
of-syn false false false true true = refl
of-syn false false false true false = refl
of-syn false false false false true = refl
of-syn false false false false false = refl

of-as : (a b c s g : Bool) → ((a && (s && (true && g))) || ((b && (s && (false && g))) || (c && (s && (false && g))))) ≡ (s && (a && g))
of-as true true true true true = refl
of-as true true true true false = refl
of-as true true true false true = refl
of-as true true true false false = refl
of-as true true false true true = refl
of-as true true false true false = refl
of-as true true false false true = refl
of-as true true false false false = refl
of-as true false true true true = refl
of-as true false true true false = refl
of-as true false true false true = refl
of-as true false true false false = refl
of-as true false false true true = refl
of-as true false false true false = refl
of-as true false false false true = refl
of-as true false false false false = refl
of-as false true true true true = refl
of-as false true true true false = refl
of-as false true true false true = refl
of-as false true true false false = refl
of-as false true false true true = refl
of-as false true false true false = refl
of-as false true false false true = refl
of-as false true false false false = refl
of-as false false true true true = refl
of-as false false true true false = refl
of-as false false true false true = refl
of-as false false true false false = refl
of-as false false false true true = refl
of-as false false false true false = refl
of-as false false false false true = refl
of-as false false false false false = refl

of-tgs : (a b c s g : Bool) → ((a && (s && (false && g))) || ((b && (s && (true && g))) || (c && (s && (false && g))))) ≡ (s && (b && g))
of-tgs true true true true true = refl
of-tgs true true true true false = refl
of-tgs true true true false true = refl
of-tgs true true true false false = refl
of-tgs true true false true true = refl
of-tgs true true false true false = refl
of-tgs true true false false true = refl
of-tgs true true false false false = refl
of-tgs true false true true true = refl
of-tgs true false true true false = refl
of-tgs true false true false true = refl
of-tgs true false true false false = refl
of-tgs true false false true true = refl
of-tgs true false false true false = refl
of-tgs true false false false true = refl
of-tgs true false false false false = refl
of-tgs false true true true true = refl
of-tgs false true true true false = refl
of-tgs false true true false true = refl
of-tgs false true true false false = refl
of-tgs false true false true true = refl
of-tgs false true false true false = refl
of-tgs false true false false true = refl
of-tgs false true false false false = refl
of-tgs false false true true true = refl
of-tgs false false true true false = refl
of-tgs false false true false true = refl
of-tgs false false true false false = refl
of-tgs false false false true true = refl
of-tgs false false false true false = refl
of-tgs false false false false true = refl
of-tgs false false false false false = refl

of-kpasswd : (a b c s g : Bool) → ((a && (s && (false && g))) || ((b && (s && (false && g))) || (c && (s && (true && g))))) ≡ (s && (c && g))
of-kpasswd true true true true true = refl
of-kpasswd true true true true false = refl
of-kpasswd true true true false true = refl
of-kpasswd true true true false false = refl
of-kpasswd true true false true true = refl
of-kpasswd true true false true false = refl
of-kpasswd true true false false true = refl
of-kpasswd true true false false false = refl
of-kpasswd true false true true true = refl
of-kpasswd true false true true false = refl
of-kpasswd true false true false true = refl
of-kpasswd true false true false false = refl
of-kpasswd true false false true true = refl
of-kpasswd true false false true false = refl
of-kpasswd true false false false true = refl
of-kpasswd true false false false false = refl
of-kpasswd false true true true true = refl
of-kpasswd false true true true false = refl
of-kpasswd false true true false true = refl
of-kpasswd false true true false false = refl
of-kpasswd false true false true true = refl
of-kpasswd false true false true false = refl
of-kpasswd false true false false true = refl
of-kpasswd false true false false false = refl
of-kpasswd false false true true true = refl
of-kpasswd false false true true false = refl
of-kpasswd false false true false true = refl
of-kpasswd false false true false false = refl
of-kpasswd false false false true true = refl
of-kpasswd false false false true false = refl
of-kpasswd false false false false true = refl
of-kpasswd false false false false false = refl

abbrev any-of : (Request → Bool) → (Request → Bool) → Bool
any-of pass test = (pass requests.AsReq && test requests.AsReq) || ((pass requests.TgsReq && test requests.TgsReq) || (pass requests.Kpasswd && test requests.Kpasswd))

any-open : (f : Flow) (pass : Request → Bool) (one : Option Sending) → any-of pass (λ k. passes (is_open_request f (same_kind k)) one) ≡ passes (is_open_request f pass) one
any-open f pass None = none-of (pass requests.AsReq) (pass requests.TgsReq) (pass requests.Kpasswd)
any-open f pass (Some one) = by one.what
  where
    by : (w : What) → any-of pass (λ k. is_open one.state && (is_request (same_kind k) w && same_flow f one.flow)) ≡ (is_open one.state && (is_request pass w && same_flow f one.flow))
    by (whats.Syn number) = of-syn (pass requests.AsReq) (pass requests.TgsReq) (pass requests.Kpasswd) (is_open one.state) (same_flow f one.flow)
    by (whats.Request requests.AsReq octets) = of-as (pass requests.AsReq) (pass requests.TgsReq) (pass requests.Kpasswd) (is_open one.state) (same_flow f one.flow)
    by (whats.Request requests.TgsReq octets) = of-tgs (pass requests.AsReq) (pass requests.TgsReq) (pass requests.Kpasswd) (is_open one.state) (same_flow f one.flow)
    by (whats.Request requests.Kpasswd octets) = of-kpasswd (pass requests.AsReq) (pass requests.TgsReq) (pass requests.Kpasswd) (is_open one.state) (same_flow f one.flow)

module _ (index : Index) (gone : ℕ) (xs : List Sending) (h : Indexes index gone xs) (few : gone + length xs ≤ 2 ^ 64) (f : Flow) where
  open-number : (pass : Request → Bool) (n : ℕ) → any_kind (has_if index.«open» f pass) n ≡ at (is_open_request f pass) gone xs n
  open-number pass n =
      ap (λ b. (pass requests.AsReq && b) || ((pass requests.TgsReq && has index.«open» f requests.TgsReq n) || (pass requests.Kpasswd && has index.«open» f requests.Kpasswd n))) (h.requests_open f requests.AsReq n)
      ∙ ap (λ b. (pass requests.AsReq && at (is_open_request f (same_kind requests.AsReq)) gone xs n) || ((pass requests.TgsReq && b) || (pass requests.Kpasswd && has index.«open» f requests.Kpasswd n))) (h.requests_open f requests.TgsReq n)
      ∙ ap (λ b. (pass requests.AsReq && at (is_open_request f (same_kind requests.AsReq)) gone xs n) || ((pass requests.TgsReq && at (is_open_request f (same_kind requests.TgsReq)) gone xs n) || (pass requests.Kpasswd && b))) (h.requests_open f requests.Kpasswd n)
      ∙ any-open f pass (at_number gone xs n)

  pub first-found : (result : Option ℕ) → IsFirst (has_any index.«open» f) result → result ≡ numbered gone (first_place (is_open_request f (λ _. true)) xs)
  first-found result r =
      let test = is_open_request f (λ _. true) in
      one-first (at test gone xs) result (numbered gone (first_place test xs)) (first-same (has_any index.«open» f) (at test gone xs) (open-number (λ _. true)) result r) (first-is test gone xs few)

  pub latest-found : (kind : Request) (result : Option ℕ) → IsLatest (has index.«open» f kind) result → result ≡ numbered gone (latest_place (is_open_request f (same_kind kind)) xs)
  latest-found kind result r =
      let test = is_open_request f (same_kind kind) in
      one-latest (at test gone xs) result (numbered gone (latest_place test xs)) (latest-same (has index.«open» f kind) (at test gone xs) (h.requests_open f kind) result r) (latest-is test gone xs few)

  pub latest-fitting : (pass : Request → Bool) (result : Option ℕ) → IsLatest (any_kind (has_if index.«open» f pass)) result → result ≡ numbered gone (latest_place (is_open_request f pass) xs)
  latest-fitting pass result r =
      let test = is_open_request f pass in
      one-latest (at test gone xs) result (numbered gone (latest_place test xs)) (latest-same (any_kind (has_if index.«open» f pass)) (at test gone xs) (open-number pass) result r) (latest-is test gone xs few)

-- ---- a place, if the sending there passes
pub kept-if : (test : Sending → Bool) (xs : List Sending) (place found : Option ℕ) (does : Bool) (result : Option ℕ) → found ≡ place → does ≡ passes test (at_place found xs) → result ≡ (if does then found else None) → result ≡ place_if test place xs
kept-if test xs place found does result is e r = r ∙ ap (λ b. if b then found else None) e ∙ ap (λ p. if passes test (at_place p xs) then p else None) is

-- ---- what an index says, when a sending is closed or leaves
module _ (state : State) (ahead : Option Sending) (old : List Sending) (place : ℕ) (one : Sending) (at : slice_get old place ≡ Some one) where
  pub changed-is : with_state state (Some place) old ≡ set old place (in_state state one)
  changed-is = ap (λ o. changed state old place o) at

  pub closed-ahead : set (with_ahead ahead old) place (in_state state one) ≡ with_ahead ahead (set old place (in_state state one))
  closed-ahead = set-ahead ahead old place (in_state state one) (get-few old place one at)
