-- Windows that are the same but for octets, and for when the same was sent first: the same places are found in both, and what is told and left is alike, too.
use Rattle.std.proofs.Common.{◌≡◌, ℕ, zero, suc, Bool, true, false, nat_lt, cond, if◌then◌else◌, List, [], ◌∷◌, ◌++◌, length, filter, slice_get, slice_set, Option, Some, None, refl, ◌∙◌, ap, subst}
use Rattle.std.specs.List.{AllZip}
use Rattle.std.specs.Option.{option_or}
use Rattle.krb_record.specs.declared.told.Request.{Request}
use Rattle.krb_exchange.specs.Happened.{After, added, at_place, changed, ended_if, first_place, has_octets, if_open, in_state, is_open, is_request, is_syn, latest_place, listed, passes, place_if, same_octets, with_room, with_state, without_first}
use Rattle.krb_exchange.specs.declared.fingerprint.Fingerprint.{Fingerprint}
use Rattle.krb_exchange.specs.declared.sending.Moment.{Moment}
use Rattle.krb_exchange.specs.declared.sending.Sending.{Sending}
use Rattle.krb_exchange.specs.declared.sending.State.{State}
use Rattle.krb_exchange.specs.declared.sending.State.TheVariants as states
use Rattle.krb_exchange.specs.declared.sending.What.{What}
use Rattle.krb_exchange.specs.declared.sending.What.TheVariants as whats
use Rattle.krb_exchange_laws.proofs.Found.{next}
use Rattle.krb_exchange_laws.proofs.Windows.{roomed}

-- which octets are alike, and which packets in which the same was sent first
pub record Alikeness : Type 1 where
  pub octets : Fingerprint → Fingerprint → Type 0
  pub first : Moment → Moment → Type 0

-- two octets are the same where those that they are alike to are
abbrev pub IsOneToOne : Alikeness → Type 0
IsOneToOne R = (a b c d : Fingerprint) → R.octets a b → R.octets c d → same_octets a c ≡ same_octets b d

abbrev pub AreAlikeWhats : Alikeness → What → What → Type 0
AreAlikeWhats R (whats.Request kind octets) (whats.Request other others) = (kind ≡ other) × R.octets octets others
AreAlikeWhats R (whats.Request kind octets) (whats.Syn number) = ⊥
AreAlikeWhats R (whats.Syn number) (whats.Request kind octets) = ⊥
AreAlikeWhats R (whats.Syn number) (whats.Syn other) = number ≡ other

pub record AreAlike (R : Alikeness) (x y : Sending) : Type 0 where
  pub flow : x.flow ≡ y.flow
  pub what : AreAlikeWhats R x.what y.what
  pub sent : x.sent ≡ y.sent
  pub first : R.first x.first y.first
  pub state : x.state ≡ y.state

-- one, if there is one in both
abbrev pub AlikeIf : {X Y : Type 0} → (X → Y → Type 0) → Option X → Option Y → Type 0
AlikeIf S None None = Unit {0}
AlikeIf S None (Some y) = ⊥
AlikeIf S (Some x) None = ⊥
AlikeIf S (Some x) (Some y) = S x y

module _ (R : Alikeness) where
  abbrev pub Alike : Sending → Sending → Type 0
  Alike x y = AreAlike R x y

  abbrev pub Windows : List Sending → List Sending → Type 0
  Windows xs ys = AllZip (AreAlike R) xs ys

  pub alike-append : (xs ys us vs : List Sending) → Windows xs ys → Windows us vs → Windows (xs ++ us) (ys ++ vs)
  alike-append [] [] us vs h k = k
  alike-append [] (y ∷ ys) us vs h k = absurd h
  alike-append (x ∷ xs) [] us vs h k = absurd h
  alike-append (x ∷ xs) (y ∷ ys) us vs h k = (h.0, alike-append xs ys us vs h.1 k)

  pub alike-listed : (a b : Option Sending) → AlikeIf (AreAlike R) a b → Windows (listed a) (listed b)
  alike-listed None None h = tt
  alike-listed None (Some y) h = absurd h
  alike-listed (Some x) None h = absurd h
  alike-listed (Some x) (Some y) h = (h, tt)

  pub alike-length : (xs ys : List Sending) → Windows xs ys → length xs ≡ length ys
  alike-length [] [] h = refl
  alike-length [] (y ∷ ys) h = absurd h
  alike-length (x ∷ xs) [] h = absurd h
  alike-length (x ∷ xs) (y ∷ ys) h = ap (λ n. suc n) (alike-length xs ys h.1)

  alike-get : (xs ys : List Sending) (i : ℕ) → Windows xs ys → AlikeIf (AreAlike R) (slice_get xs i) (slice_get ys i)
  alike-get [] [] i h = tt
  alike-get [] (y ∷ ys) i h = absurd h
  alike-get (x ∷ xs) [] i h = absurd h
  alike-get (x ∷ xs) (y ∷ ys) zero h = h.0
  alike-get (x ∷ xs) (y ∷ ys) (suc i) h = alike-get xs ys i h.1

  alike-set : (xs ys : List Sending) (i : ℕ) (x y : Sending) → Windows xs ys → AreAlike R x y → Windows (slice_set xs i x) (slice_set ys i y)
  alike-set [] [] i u v h k = tt
  alike-set [] (y ∷ ys) i u v h k = absurd h
  alike-set (x ∷ xs) [] i u v h k = absurd h
  alike-set (x ∷ xs) (y ∷ ys) zero u v h k = (k, h.1)
  alike-set (x ∷ xs) (y ∷ ys) (suc i) u v h k = (h.0, alike-set xs ys i u v h.1 k)

  pub alike-state : (state : State) (x y : Sending) → AreAlike R x y → AreAlike R (in_state state x) (in_state state y)
  alike-state state x y h = record { flow = h.flow; what = h.what; sent = h.sent; first = h.first; state = refl }

  module _ (xs ys : List Sending) (alike : Windows xs ys) where
    at-same : (place : Option ℕ) → AlikeIf (AreAlike R) (at_place place xs) (at_place place ys)
    at-same None = tt
    at-same (Some i) = alike-get xs ys i alike

    pub at-alike : (a b : Option ℕ) → a ≡ b → AlikeIf (AreAlike R) (at_place a xs) (at_place b ys)
    at-alike a b e = subst (λ place. AlikeIf (AreAlike R) (at_place a xs) (at_place place ys)) e (at-same a)

    changed-alike : (state : State) (place : ℕ) (a b : Option Sending) → AlikeIf (AreAlike R) a b → Windows (changed state xs place a) (changed state ys place b)
    changed-alike state place None None h = alike
    changed-alike state place None (Some y) h = absurd h
    changed-alike state place (Some x) None h = absurd h
    changed-alike state place (Some x) (Some y) h = alike-set xs ys place (in_state state x) (in_state state y) alike (alike-state state x y h)

    with_state-same : (state : State) (place : Option ℕ) → Windows (with_state state place xs) (with_state state place ys)
    with_state-same state None = alike
    with_state-same state (Some place) = changed-alike state place (slice_get xs place) (slice_get ys place) (alike-get xs ys place alike)

    pub with_state-alike : (state : State) (a b : Option ℕ) → a ≡ b → Windows (with_state state a xs) (with_state state b ys)
    with_state-alike state a b e = subst (λ place. Windows (with_state state a xs) (with_state state place ys)) e (with_state-same state a)

  -- ---- tests that say the same of what is alike
  abbrev pub Agree : (Sending → Bool) → (Sending → Bool) → Type 0
  Agree test other = (x y : Sending) → AreAlike R x y → test x ≡ other y

  module _ (test other : Sending → Bool) (agree : Agree test other) where
    pub latest-alike : (xs ys : List Sending) → Windows xs ys → latest_place test xs ≡ latest_place other ys
    latest-alike [] [] h = refl
    latest-alike [] (y ∷ ys) h = absurd h
    latest-alike (x ∷ xs) [] h = absurd h
    latest-alike (x ∷ xs) (y ∷ ys) h = ap (λ o. option_or (next o) (if test x then Some 0 else None)) (latest-alike xs ys h.1) ∙ ap (λ b. option_or (next (latest_place other ys)) (if b then Some 0 else None)) (agree x y h.0)

    pub first-alike : (xs ys : List Sending) → Windows xs ys → first_place test xs ≡ first_place other ys
    first-alike [] [] h = refl
    first-alike [] (y ∷ ys) h = absurd h
    first-alike (x ∷ xs) [] h = absurd h
    first-alike (x ∷ xs) (y ∷ ys) h = ap (λ o. if test x then Some 0 else next o) (first-alike xs ys h.1) ∙ ap (λ b. if b then Some 0 else next (first_place other ys)) (agree x y h.0)

    passes-alike : (a b : Option Sending) → AlikeIf (AreAlike R) a b → passes test a ≡ passes other b
    passes-alike None None h = refl
    passes-alike None (Some y) h = absurd h
    passes-alike (Some x) None h = absurd h
    passes-alike (Some x) (Some y) h = agree x y h

    pub if-alike : (xs ys : List Sending) → Windows xs ys → (a b : Option ℕ) → a ≡ b → place_if test a xs ≡ place_if other b ys
    if-alike xs ys h a b e = ap (λ c. if c then a else None) (passes-alike (at_place a xs) (at_place b ys) (at-alike xs ys h a b e)) ∙ ap (λ place. if passes other (at_place b ys) then place else None) e

    pub filter-alike : (xs ys : List Sending) → Windows xs ys → Windows (filter test xs) (filter other ys)
    filter-alike [] [] h = tt
    filter-alike [] (y ∷ ys) h = absurd h
    filter-alike (x ∷ xs) [] h = absurd h
    filter-alike (x ∷ xs) (y ∷ ys) h = by (test x) (other y) (agree x y h.0) (filter-alike xs ys h.1)
      where
        both : (b : Bool) → Windows (filter test xs) (filter other ys) → Windows (cond b (x ∷ filter test xs) (filter test xs)) (cond b (y ∷ filter other ys) (filter other ys))
        both true k = (h.0, k)
        both false k = k

        by : (b c : Bool) → b ≡ c → Windows (filter test xs) (filter other ys) → Windows (cond b (x ∷ filter test xs) (filter test xs)) (cond c (y ∷ filter other ys) (filter other ys))
        by b c e k = subst (λ d. Windows (cond b (x ∷ filter test xs) (filter test xs)) (cond d (y ∷ filter other ys) (filter other ys))) e (both b k)

    pub ended_if-alike : (xs ys : List Sending) → Windows xs ys → Windows (ended_if test xs) (ended_if other ys)
    ended_if-alike [] [] h = tt
    ended_if-alike [] (y ∷ ys) h = absurd h
    ended_if-alike (x ∷ xs) [] h = absurd h
    ended_if-alike (x ∷ xs) (y ∷ ys) h = (by (test x) (other y) (agree x y h.0), ended_if-alike xs ys h.1)
      where
        both : (b : Bool) → AreAlike R (if b then in_state states.Ended x else x) (if b then in_state states.Ended y else y)
        both true = alike-state states.Ended x y h.0
        both false = h.0

        by : (b c : Bool) → b ≡ c → AreAlike R (if b then in_state states.Ended x else x) (if c then in_state states.Ended y else y)
        by b c e = subst (λ d. AreAlike R (if b then in_state states.Ended x else x) (if d then in_state states.Ended y else y)) e (both b)

  -- ---- the tests of a window
  pub agree-open : Agree (λ one. is_open one.state) (λ one. is_open one.state)
  agree-open x y h = ap (λ s. is_open s) h.state

  whats-request : (pass : Request → Bool) (x y : What) → AreAlikeWhats R x y → is_request pass x ≡ is_request pass y
  whats-request pass (whats.Request kind octets) (whats.Request other others) h = ap (λ k. pass k) h.0
  whats-request pass (whats.Request kind octets) (whats.Syn number) h = absurd h
  whats-request pass (whats.Syn number) (whats.Request kind octets) h = absurd h
  whats-request pass (whats.Syn number) (whats.Syn other) h = refl

  pub agree-request : (pass : Request → Bool) → Agree (λ one. is_request pass one.what) (λ one. is_request pass one.what)
  agree-request pass x y h = whats-request pass x.what y.what h.what

  whats-syn : (x y : What) → AreAlikeWhats R x y → is_syn x ≡ is_syn y
  whats-syn (whats.Request kind octets) (whats.Request other others) h = refl
  whats-syn (whats.Request kind octets) (whats.Syn number) h = absurd h
  whats-syn (whats.Syn number) (whats.Request kind octets) h = absurd h
  whats-syn (whats.Syn number) (whats.Syn other) h = refl

  pub agree-syn : Agree (λ one. is_syn one.what) (λ one. is_syn one.what)
  agree-syn x y h = whats-syn x.what y.what h.what

  -- ---- one is added
  if_open-alike : (x y : Sending) → AreAlike R x y → AlikeIf (AreAlike R) (if_open x) (if_open y)
  if_open-alike x y h = by (is_open x.state) (is_open y.state) (agree-open x y h)
    where
      both : (b : Bool) → AlikeIf (AreAlike R) (if b then Some x else None) (if b then Some y else None)
      both true = h
      both false = tt

      by : (b c : Bool) → b ≡ c → AlikeIf (AreAlike R) (if b then Some x else None) (if c then Some y else None)
      by b c e = subst (λ d. AlikeIf (AreAlike R) (if b then Some x else None) (if d then Some y else None)) e (both b)

  pub record AddedAlike (x y : After (Option Sending)) : Type 0 where
    pub told : AlikeIf (AreAlike R) x.told y.told
    pub window : AllZip (AreAlike R) x.window y.window

  without_first-alike : (xs ys : List Sending) → Windows xs ys → AddedAlike (without_first xs) (without_first ys)
  without_first-alike [] [] h = record { told = tt; window = tt }
  without_first-alike [] (y ∷ ys) h = absurd h
  without_first-alike (x ∷ xs) [] h = absurd h
  without_first-alike (x ∷ xs) (y ∷ ys) h = record { told = if_open-alike x y h.0; window = h.1 }

  roomed-alike : (b : Bool) (xs ys : List Sending) → Windows xs ys → AddedAlike (roomed b xs) (roomed b ys)
  roomed-alike true xs ys h = record { told = tt; window = h }
  roomed-alike false xs ys h = without_first-alike xs ys h

  with_room-alike : (xs ys : List Sending) → Windows xs ys → AddedAlike (with_room xs) (with_room ys)
  with_room-alike xs ys h = subst (λ n. AddedAlike (with_room xs) (roomed (nat_lt n 65536) ys)) (alike-length xs ys h) (roomed-alike (nat_lt (length xs) 65536) xs ys h)

  pub added-alike : (x y : Sending) (xs ys : List Sending) → AreAlike R x y → Windows xs ys → AddedAlike (added x xs) (added y ys)
  added-alike x y xs ys a h =
      let room : AddedAlike (with_room xs) (with_room ys) = with_room-alike xs ys h in
      record { told = room.told; window = alike-append (with_room xs).window (with_room ys).window (x ∷ []) (y ∷ []) room.window (a, tt) }

  -- ---- the same octets
  pub agree-octets : IsOneToOne R → (a b : Fingerprint) → R.octets a b → Agree (λ one. has_octets a one.what) (λ one. has_octets b one.what)
  agree-octets same a b r x y h = by x.what y.what h.what
    where
      by : (x y : What) → AreAlikeWhats R x y → has_octets a x ≡ has_octets b y
      by (whats.Request kind octets) (whats.Request other others) h = same a b octets others r h.1
      by (whats.Request kind octets) (whats.Syn number) h = absurd h
      by (whats.Syn number) (whats.Request kind octets) h = absurd h
      by (whats.Syn number) (whats.Syn other) h = refl
