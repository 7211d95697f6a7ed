-- How many SYNs are open, when one is added, closed, or leaves.
use Rattle.std.proofs.Common.{◌≡◌, ℕ, zero, suc, ◌+◌, ◌-◌, arith, Bool, true, false, ◌&&◌, nat_lt, if◌then◌else◌, List, [], ◌∷◌, ◌++◌, set, slice_get, Option, Some, None, refl, sym, ◌∙◌, ap}
use Rattle.std.specs.Option.{option_or}
use Rattle.std.proofs.lemmas.Bool.Decides.{nat_tests}
use Rattle.krb_record.specs.declared.flow.Flow.{Flow}
use Rattle.krb_record.specs.declared.told.Request.{Request}
use Rattle.krb_exchange.specs.declared.fingerprint.Fingerprint.{Fingerprint}
use Rattle.krb_exchange.specs.declared.parties.Header.{Header}
use Rattle.krb_exchange.specs.declared.sending.Moment.{Moment}
use Rattle.krb_exchange.specs.declared.sending.Sending.{Sending}
use Rattle.krb_exchange.specs.declared.sending.State.{State}
use Rattle.krb_exchange.specs.declared.sending.State.TheVariants as states
use Rattle.krb_exchange.specs.declared.sending.What.TheVariants as whats
use Rattle.krb_exchange.specs.declared.sendings.SegmentTold.{SegmentTold}
use Rattle.krb_exchange.specs.Happened.{After, at_place, in_state, is_asking, is_open, is_syn, is_syn_of, latest_syn, open_syn, passes, reversed, same_flow, segment_taken, syn_answered, syn_taken, told_of_reset, told_of_syn, with_state}
use Rattle.krb_exchange.specs.inner.Indexes.{is_open_syn, one_if, open_syns_in}
use Rattle.krb_exchange.proofs.Places.{next}

-- ---- what a sending counts
request-counts : (x : Sending) (kind : Request) (octets : Fingerprint) → x.what ≡ whats.Request kind octets → one_if (is_open_syn x) ≡ 0
request-counts x kind octets what = ap (λ w. one_if (is_open x.state && is_syn w)) what ∙ none (is_open x.state)
  where
    none : (b : Bool) → one_if (b && false) ≡ 0
    none true = refl
    none false = refl

syn-counts : (x : Sending) (number : ℕ) → x.what ≡ whats.Syn number → one_if (is_open_syn x) ≡ one_if (is_open x.state)
syn-counts x number what = ap (λ w. one_if (is_open x.state && is_syn w)) what ∙ same (is_open x.state)
  where
    same : (b : Bool) → one_if (b && true) ≡ one_if b
    same true = refl
    same false = refl

-- ---- one is added
append-counts : (xs : List Sending) (x : Sending) → open_syns_in (xs ++ x ∷ []) ≡ open_syns_in xs + one_if (is_open_syn x)
append-counts [] x = omega arith
append-counts (y ∷ ys) x = omega (arith, append-counts ys x)

pub request-added : (xs : List Sending) (x : Sending) (kind : Request) (octets : Fingerprint) (old new : ℕ) → x.what ≡ whats.Request kind octets → old ≡ open_syns_in xs → new ≡ old → new ≡ open_syns_in (xs ++ x ∷ [])
request-added xs x kind octets old new what o n = omega (arith, append-counts xs x, request-counts x kind octets what)

pub syn-added : (xs : List Sending) (x : Sending) (number old new : ℕ) → x.what ≡ whats.Syn number → is_open x.state ≡ true → old ≡ open_syns_in xs → new ≡ old + 1 → new ≡ open_syns_in (xs ++ x ∷ [])
syn-added xs x number old new what opens o n = omega (arith, append-counts xs x, syn-counts x number what, ap one_if opens)

-- ---- one is closed
set-counts : (xs : List Sending) (place : ℕ) (x y : Sending) → slice_get xs place ≡ Some x → is_open_syn y ≡ false → open_syns_in (set xs place y) + one_if (is_open_syn x) ≡ open_syns_in xs
set-counts [] place x y at closed = absurd cc
set-counts (z ∷ zs) zero x y at closed =
    let same : one_if (is_open_syn z) ≡ one_if (is_open_syn x) = cc in
    omega (arith, same, ap one_if closed)
set-counts (z ∷ zs) (suc place) x y at closed = omega (arith, set-counts zs place x y at closed)

closed-counts : (x : Sending) (state : State) → is_open state ≡ false → is_open_syn (in_state state x) ≡ false
closed-counts x state closed = ap (λ b. b && is_syn x.what) closed

pub request-closed : (xs : List Sending) (place : ℕ) (x : Sending) (state : State) (kind : Request) (octets : Fingerprint) (old : ℕ) → x.what ≡ whats.Request kind octets → slice_get xs place ≡ Some x → is_open state ≡ false → old ≡ open_syns_in xs → old ≡ open_syns_in (set xs place (in_state state x))
request-closed xs place x state kind octets old what at closed o =
    omega (arith, set-counts xs place x (in_state state x) at (closed-counts x state closed), request-counts x kind octets what)

pub syn-closed : (xs : List Sending) (place : ℕ) (x : Sending) (state : State) (number old new : ℕ) → x.what ≡ whats.Syn number → slice_get xs place ≡ Some x → is_open state ≡ false → old ≡ open_syns_in xs → new ≡ old - one_if (is_open x.state) → new ≡ open_syns_in (set xs place (in_state state x))
syn-closed xs place x state number old new what at closed o n =
    omega (arith, set-counts xs place x (in_state state x) at (closed-counts x state closed), syn-counts x number what)

-- ---- the first one leaves
pub request-left : (first : Sending) (others : List Sending) (kind : Request) (octets : Fingerprint) (old : ℕ) → first.what ≡ whats.Request kind octets → old ≡ open_syns_in (first ∷ others) → old ≡ open_syns_in others
request-left first others kind octets old what o = omega (arith, request-counts first kind octets what)

pub syn-left : (first : Sending) (others : List Sending) (number old new : ℕ) → first.what ≡ whats.Syn number → old ≡ open_syns_in (first ∷ others) → new ≡ old - one_if (is_open first.state) → new ≡ open_syns_in others
syn-left first others number old new what o n = omega (arith, syn-counts first number what)

-- ---- where none is open
none-here : (a b : Bool) (count : ℕ) → one_if (a && b) + count ≡ 0 → b ≡ true → a ≡ false
none-here true true count e b = absurd (omega arith)
none-here true false count e b = absurd cc
none-here false b count e is = refl

flow-syn : (flow : Flow) (x : Sending) → is_syn_of flow x ≡ true → is_syn x.what ≡ true
flow-syn flow x e = by (is_syn x.what) (same_flow flow x.flow) e
  where
    by : (a b : Bool) → (a && b) ≡ true → a ≡ true
    by true b e = refl
    by false b e = absurd cc

latest-closed : (flow : Flow) (xs : List Sending) → open_syns_in xs ≡ 0 → passes (λ one. is_open one.state) (at_place (latest_syn flow xs) xs) ≡ false
latest-closed flow [] none = refl
latest-closed flow (x ∷ xs) none = by (latest_syn flow xs) (is_syn_of flow x) refl (latest-closed flow xs (omega arith))
  where
    by : (place : Option ℕ) (is : Bool) → is_syn_of flow x ≡ is → passes (λ one. is_open one.state) (at_place place xs) ≡ false → passes (λ one. is_open one.state) (at_place (option_or (next place) (if is then Some 0 else None)) (x ∷ xs)) ≡ false
    by (Some p) is e later = later
    by None true e later = none-here (is_open x.state) (is_syn x.what) (open_syns_in xs) none (flow-syn flow x e)
    by None false e later = refl

pub none-waits : (flow : Flow) (xs : List Sending) → open_syns_in xs ≡ 0 → None ≡ open_syn flow xs
none-waits flow xs none = sym (ap (λ b. if b then latest_syn flow xs else None) (latest-closed flow xs none))

pub not-positive : (xs : List Sending) (some : Bool) → some ≡ nat_lt 0 (open_syns_in xs) → some ≡ false → open_syns_in xs ≡ 0
not-positive xs some is none = by (open_syns_in xs) (sym is ∙ none)
  where
    by : (n : ℕ) → nat_lt 0 n ≡ false → n ≡ 0
    by n e = grind (arith, nat_tests)

-- then a segment that asks for no connection tells and changes nothing
not-answered : (flow : Flow) (xs : List Sending) → open_syns_in xs ≡ 0 → syn_answered flow xs ≡ record { told = None; window = xs }
not-answered flow xs none = ap (λ place. record { told = at_place place xs; window = with_state states.Ended place xs }) (sym (none-waits flow xs none))

no-reset : (header : Header) → told_of_reset header None ≡ told_of_syn None None
no-reset header = by header.rst
  where
    told : Bool → SegmentTold
    told b = record { reset = (if b then None else None); silent = None; missed = None }

    by : (b : Bool) → told b ≡ told_of_syn None None
    by true = refl
    by false = refl

pub not-heard : (header : Header) (flow : Flow) (sent : Moment) (xs : List Sending) → is_asking header ≡ false → open_syns_in xs ≡ 0 → segment_taken header flow sent xs ≡ record { told = told_of_syn None None; window = xs }
not-heard header flow sent xs asks none =
    ap (λ b. if b then syn_taken header.sequence flow sent (syn_answered (reversed flow) xs).window else record { told = told_of_reset header (syn_answered (reversed flow) xs).told; window = (syn_answered flow (syn_answered (reversed flow) xs).window).window }) asks
    ∙ ap (λ (back : After (Option Sending)). record { told = told_of_reset header back.told; window = (syn_answered flow back.window).window }) (not-answered (reversed flow) xs none)
    ∙ ap (λ (after : After (Option Sending)). record { told = told_of_reset header None; window = after.window }) (not-answered flow xs none)
    ∙ ap (λ told. record { told = told; window = xs }) (no-reset header)
