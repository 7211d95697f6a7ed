-- What an index says of sendings, when one is added, closed, or leaves.
use Rattle.std.proofs.Common.{◌≡◌, ℕ, suc, ◌+◌, ◌-◌, ◌<◌, ◌≤◌, ◌⊎◌, inl, inr, arith, Bool, true, false, not, cond, ◌&&◌, ◌||◌, ◌==◌, if◌then◌else◌, List, [], ◌∷◌, ◌++◌, length, set, slice_get, Option, Some, None, refl, sym, ◌∙◌, ap, length-append}
use Rattle.std.specs.Option.{option_or}
use Rattle.std.specs.Ordering.{is_eq, nat_cmp}
use Rattle.std.specs.Map.{lookup}
use Rattle.std.specs.BTreeMap.{is_at}
use Rattle.std.proofs.lemmas.Bool.{cases_eq, cases_lt, eq-eqb, ne_eqb}
use Rattle.std.proofs.lemmas.Cmp.{eq_by_cmp_equiv, nat_eq_equiv}
use Rattle.krb_record.specs.contracts.flow.FlowOrd.TheImpl.Laws as flow_laws
use Rattle.krb_record.specs.declared.flow.Flow.{Flow}
use Rattle.krb_record.specs.declared.told.Request.{Request}
use Rattle.krb_record.specs.declared.told.Request.TheVariants as requests
use Rattle.krb_exchange.specs.declared.fingerprint.Fingerprint.{Fingerprint}
use Rattle.krb_exchange.specs.declared.index.Index.{Index}
use Rattle.krb_exchange.specs.declared.sending.Sending.{Sending}
use Rattle.krb_exchange.specs.declared.sending.State.{State}
use Rattle.krb_exchange.specs.declared.sending.What.TheVariants as whats
use Rattle.krb_exchange.specs.Happened.{has_octets, in_state, is_open, is_open_request, is_request, is_syn, is_syn_of, latest_place, passes, same_flow, same_kind, same_octets}
use Rattle.krb_exchange.specs.inner.Indexes.{Indexes, at_number, fingerprint_cmp, is_kept, is_of, numbered, with_octets}
use Rattle.krb_exchange.specs.inner.Numbers.{flow_key, has, same_key}
use Rattle.krb_exchange.proofs.Keys.{is_eq-nat, is_eq-then, same_flow-is}
use Rattle.krb_exchange.proofs.Numbers.{at_number-before, at_number-first, at_number-first_not, at_number-from, at_number-rest, numbered-next}
use Rattle.krb_exchange.proofs.Places.{get-append, get-append_before, get-past, get-set, get-set_other, latest-append, latest-set, next}

-- ---- equal flows, kinds and octets
flows-symmetric : (f g : Flow) → same_flow f g ≡ same_flow g f
flows-symmetric f g = (eq_by_cmp_equiv flow_laws.total-law).symm f g

kinds-symmetric : (k l : Request) → same_kind k l ≡ same_kind l k
kinds-symmetric requests.AsReq requests.AsReq = refl
kinds-symmetric requests.AsReq requests.TgsReq = refl
kinds-symmetric requests.AsReq requests.Kpasswd = refl
kinds-symmetric requests.TgsReq requests.AsReq = refl
kinds-symmetric requests.TgsReq requests.TgsReq = refl
kinds-symmetric requests.TgsReq requests.Kpasswd = refl
kinds-symmetric requests.Kpasswd requests.AsReq = refl
kinds-symmetric requests.Kpasswd requests.TgsReq = refl
kinds-symmetric requests.Kpasswd requests.Kpasswd = refl

pub octets-are : (a b : Fingerprint) → is_at (fingerprint_cmp a) b ≡ same_octets a b
octets-are a b = is_eq-then (nat_cmp a.hash b.hash) (nat_cmp a.length b.length) ∙ ap (λ x. x && is_eq (nat_cmp a.length b.length)) (is_eq-nat a.hash b.hash) ∙ ap (λ x. (a.hash == b.hash) && x) (is_eq-nat a.length b.length)

octets-symmetric : (a b : Fingerprint) → same_octets a b ≡ same_octets b a
octets-symmetric a b = ap (λ x. x && (a.length == b.length)) (nat_eq_equiv.symm a.hash b.hash) ∙ ap (λ x. (b.hash == a.hash) && x) (nat_eq_equiv.symm a.length b.length)

-- ---- of a key at a number
not-both : (a b c : Bool) → (not (c && (a && (b && true))) && (c && (b && a))) ≡ false
not-both true true true = refl
not-both true true false = refl
not-both true false true = refl
not-both true false false = refl
not-both false true true = refl
not-both false true false = refl
not-both false false true = refl
not-both false false false = refl

not-either : (o a b c : Bool) → (not (o && (a && (b && false))) && c) ≡ c
not-either true true true c = refl
not-either true true false c = refl
not-either true false b c = refl
not-either false a b c = refl

-- a request is no more among those that are open: the others stay
gone-at : (x : Sending) (kind : Request) (octets : Fingerprint) (number : ℕ) → x.what ≡ whats.Request kind octets → (f : Flow) (k : Request) (n : ℕ) (was : Bool) → n ≡ number → was ≡ is_open_request f (same_kind k) x → (not (is_open x.state && same_key x.flow kind number f k n) && was) ≡ false
gone-at x kind octets number what f k n was e is =
    ap (λ b. not (is_open x.state && (same_flow x.flow f && (same_kind kind k && b))) && was) (eq-eqb number n (sym e))
    ∙ ap (λ b. not (is_open x.state && (same_flow x.flow f && (same_kind kind k && true))) && b) is
    ∙ ap (λ w. not (is_open x.state && (same_flow x.flow f && (same_kind kind k && true))) && (is_open x.state && (is_request (same_kind k) w && same_flow f x.flow))) what
    ∙ ap (λ b. not (is_open x.state && (same_flow x.flow f && (b && true))) && (is_open x.state && (same_kind k kind && same_flow f x.flow))) (kinds-symmetric kind k)
    ∙ ap (λ b. not (is_open x.state && (b && (same_kind k kind && true))) && (is_open x.state && (same_kind k kind && same_flow f x.flow))) (flows-symmetric x.flow f)
    ∙ not-both (same_flow f x.flow) (same_kind k kind) (is_open x.state)

kept-at : (x : Sending) (kind : Request) (number : ℕ) (f : Flow) (k : Request) (n : ℕ) (was : Bool) → (n ≡ number → ⊥) → (not (is_open x.state && same_key x.flow kind number f k n) && was) ≡ was
kept-at x kind number f k n was ne =
    ap (λ b. not (is_open x.state && (same_flow x.flow f && (same_kind kind k && b))) && was) (ne_eqb number n (λ e. ne (sym e)))
    ∙ not-either (is_open x.state) (same_flow x.flow f) (same_kind kind k) was

length-one : (xs : List Sending) (x : Sending) → length (xs ++ x ∷ []) ≡ length xs + 1
length-one xs x = length-append xs (x ∷ [])

-- ---- sendings by their numbers, when one is added or changed
number-append : (gone : ℕ) (xs : List Sending) (x : Sending) (n : ℕ) → n ≡ gone + length xs → at_number gone (xs ++ x ∷ []) n ≡ Some x
number-append gone xs x n e = at_number-from gone (xs ++ x ∷ []) n (omega arith) ∙ ap (λ k. slice_get (xs ++ x ∷ []) k) place ∙ get-append xs x
  where
    place : n - gone ≡ length xs
    place = omega arith

number-end : (gone : ℕ) (xs : List Sending) (n : ℕ) → n ≡ gone + length xs → at_number gone xs n ≡ None
number-end gone xs n e = at_number-from gone xs n (omega arith) ∙ get-past xs (n - gone) (omega arith)

number-append_other : (gone : ℕ) (xs : List Sending) (x : Sending) (n : ℕ) → (n ≡ gone + length xs → ⊥) → at_number gone (xs ++ x ∷ []) n ≡ at_number gone xs n
number-append_other gone xs x n ne = by (cases_lt n gone)
  where
    by : (n < gone) ⊎ (gone ≤ n) → at_number gone (xs ++ x ∷ []) n ≡ at_number gone xs n
    by (inl l) = at_number-before gone (xs ++ x ∷ []) n l ∙ sym (at_number-before gone xs n l)
    by (inr l) = at_number-from gone (xs ++ x ∷ []) n l ∙ place (cases_lt (n - gone) (length xs)) ∙ sym (at_number-from gone xs n l)
      where
        place : (n - gone < length xs) ⊎ (length xs ≤ n - gone) → slice_get (xs ++ x ∷ []) (n - gone) ≡ slice_get xs (n - gone)
        place (inl b) = get-append_before xs x (n - gone) b
        place (inr b) =
            let past : length xs + 1 ≤ n - gone = more (cases_eq n (gone + length xs)) in
            get-past (xs ++ x ∷ []) (n - gone) (omega (arith, length-one xs x)) ∙ sym (get-past xs (n - gone) b)
          where
            more : (n ≡ gone + length xs) ⊎ (n ≡ gone + length xs → ⊥) → length xs + 1 ≤ n - gone
            more (inl e) = absurd (ne e)
            more (inr o) = omega arith

number-set : (gone : ℕ) (xs : List Sending) (place : ℕ) (y : Sending) (n : ℕ) → n ≡ gone + place → place < length xs → at_number gone (set xs place y) n ≡ Some y
number-set gone xs place y n e l = at_number-from gone (set xs place y) n (omega arith) ∙ ap (λ k. slice_get (set xs place y) k) it ∙ get-set xs place y l
  where
    it : n - gone ≡ place
    it = omega arith

number-set_other : (gone : ℕ) (xs : List Sending) (place : ℕ) (y : Sending) (n : ℕ) → (n ≡ gone + place → ⊥) → at_number gone (set xs place y) n ≡ at_number gone xs n
number-set_other gone xs place y n ne = by (cases_lt n gone)
  where
    by : (n < gone) ⊎ (gone ≤ n) → at_number gone (set xs place y) n ≡ at_number gone xs n
    by (inl l) = at_number-before gone (set xs place y) n l ∙ sym (at_number-before gone xs n l)
    by (inr l) = at_number-from gone (set xs place y) n l ∙ get-set_other xs place (n - gone) y (λ e. ne (omega arith)) ∙ sym (at_number-from gone xs n l)

module _ (old new : Index) (gone : ℕ) (xs : List Sending) (x : Sending) (h : Indexes old gone xs) where
  -- a number that none has yet
  pub has-not_yet : (f : Flow) (k : Request) (n : ℕ) → n ≡ gone + length xs → has old.«open» f k n ≡ false
  has-not_yet f k n e = h.requests_open f k n ∙ ap (λ o. passes (is_open_request f (same_kind k)) o) (number-end gone xs n e)

  -- ---- the latest that passes, when one is added
  pub added-latest : (test : Sending → Bool) (own : Bool) (number : ℕ) (kept : Option ℕ) → own ≡ test x → number ≡ gone + length xs → kept ≡ numbered gone (latest_place test xs) → cond own (Some number) kept ≡ numbered gone (latest_place test (xs ++ x ∷ []))
  added-latest test own number kept is number_is kept_is =
      ap (λ o. cond own (Some number) o) kept_is
      ∙ ap (λ b. cond b (Some number) (numbered gone (latest_place test xs))) is
      ∙ by (test x)
      ∙ sym (ap (λ o. numbered gone o) (latest-append test xs x))
    where
      by : (b : Bool) → cond b (Some number) (numbered gone (latest_place test xs)) ≡ numbered gone (if b then Some (length xs) else latest_place test xs)
      by true = ap (λ n. Some n) number_is
      by false = refl

  pub added-latest_same : (test : Sending → Bool) (kept : Option ℕ) → test x ≡ false → kept ≡ numbered gone (latest_place test xs) → kept ≡ numbered gone (latest_place test (xs ++ x ∷ []))
  added-latest_same test kept is kept_is = kept_is ∙ sym (ap (λ o. numbered gone o) (latest-append test xs x ∙ ap (λ b. if b then Some (length xs) else latest_place test xs) is))

  -- ---- a request is added
  module _ (kind : Request) (octets : Fingerprint) (number : ℕ) (what : x.what ≡ whats.Request kind octets) (is-open : is_open x.state ≡ true) (number_is : number ≡ gone + length xs) where
    pub request-octets : (q : Fingerprint) → cond (is_at (fingerprint_cmp octets) q) (Some number) (lookup (is_at (fingerprint_cmp q)) old.requests.entries) ≡ numbered gone (latest_place (with_octets q) (xs ++ x ∷ []))
    request-octets q = added-latest (with_octets q) (is_at (fingerprint_cmp octets) q) number (lookup (is_at (fingerprint_cmp q)) old.requests.entries) (octets-are octets q ∙ octets-symmetric octets q ∙ sym (ap (λ w. has_octets q w) what)) number_is (h.requests q)

    pub request-syns : (q : Flow) → lookup (is_of q) old.syns.entries ≡ numbered gone (latest_place (is_syn_of q) (xs ++ x ∷ []))
    request-syns q = added-latest_same (is_syn_of q) (lookup (is_of q) old.syns.entries) (ap (λ w. is_syn w && same_flow q x.flow) what) (h.syns q)

    pub request-open : ((f : Flow) (k : Request) (n : ℕ) → has new.«open» f k n ≡ (same_key x.flow kind number f k n || has old.«open» f k n)) → (f : Flow) (k : Request) (n : ℕ) → has new.«open» f k n ≡ passes (is_open_request f (same_kind k)) (at_number gone (xs ++ x ∷ []) n)
    request-open u f k n = u f k n ∙ by (cases_eq n number)
      where
        both : (a b : Bool) → ((a && (b && true)) || false) ≡ (true && (b && a))
        both true true = refl
        both true false = refl
        both false true = refl
        both false false = refl

        neither : (a b c : Bool) → ((a && (b && false)) || c) ≡ c
        neither true true c = refl
        neither true false c = refl
        neither false b c = refl

        by : (n ≡ number) ⊎ (n ≡ number → ⊥) → (same_key x.flow kind number f k n || has old.«open» f k n) ≡ passes (is_open_request f (same_kind k)) (at_number gone (xs ++ x ∷ []) n)
        by (inl e) =
            ap (λ b. (same_flow x.flow f && (same_kind kind k && b)) || has old.«open» f k n) (eq-eqb number n (sym e))
            ∙ ap (λ b. (same_flow x.flow f && (same_kind kind k && true)) || b) (has-not_yet f k n (e ∙ number_is))
            ∙ both (same_flow x.flow f) (same_kind kind k)
            ∙ ap (λ b. true && (b && same_flow x.flow f)) (kinds-symmetric kind k)
            ∙ ap (λ b. true && (same_kind k kind && b)) (flows-symmetric x.flow f)
            ∙ ap (λ b. b && (same_kind k kind && same_flow f x.flow)) (sym is-open)
            ∙ ap (λ w. is_open x.state && (is_request (same_kind k) w && same_flow f x.flow)) (sym what)
            ∙ sym (ap (λ o. passes (is_open_request f (same_kind k)) o) (number-append gone xs x n (e ∙ number_is)))
        by (inr ne) =
            ap (λ b. (same_flow x.flow f && (same_kind kind k && b)) || has old.«open» f k n) (ne_eqb number n (λ e. ne (sym e)))
            ∙ neither (same_flow x.flow f) (same_kind kind k) (has old.«open» f k n)
            ∙ h.requests_open f k n
            ∙ sym (ap (λ o. passes (is_open_request f (same_kind k)) o) (number-append_other gone xs x n (λ e. ne (e ∙ sym number_is))))

  -- ---- a SYN is added
  module _ (sequence number : ℕ) (what : x.what ≡ whats.Syn sequence) (number_is : number ≡ gone + length xs) where
    pub syn-octets : (q : Fingerprint) → lookup (is_at (fingerprint_cmp q)) old.requests.entries ≡ numbered gone (latest_place (with_octets q) (xs ++ x ∷ []))
    syn-octets q = added-latest_same (with_octets q) (lookup (is_at (fingerprint_cmp q)) old.requests.entries) (ap (λ w. has_octets q w) what) (h.requests q)

    pub syn-syns : (q : Flow) → cond (is_of x.flow (flow_key q)) (Some number) (lookup (is_of q) old.syns.entries) ≡ numbered gone (latest_place (is_syn_of q) (xs ++ x ∷ []))
    syn-syns q = added-latest (is_syn_of q) (is_of x.flow (flow_key q)) number (lookup (is_of q) old.syns.entries) (same_flow-is x.flow q ∙ flows-symmetric x.flow q ∙ sym (ap (λ w. is_syn w && same_flow q x.flow) what)) number_is (h.syns q)

    pub syn-open : ((f : Flow) (k : Request) (n : ℕ) → has new.«open» f k n ≡ has old.«open» f k n) → (f : Flow) (k : Request) (n : ℕ) → has new.«open» f k n ≡ passes (is_open_request f (same_kind k)) (at_number gone (xs ++ x ∷ []) n)
    syn-open u f k n = u f k n ∙ h.requests_open f k n ∙ by (cases_eq n number)
      where
        closed : (a b : Bool) → false ≡ (a && (false && b))
        closed true b = refl
        closed false b = refl

        by : (n ≡ number) ⊎ (n ≡ number → ⊥) → passes (is_open_request f (same_kind k)) (at_number gone xs n) ≡ passes (is_open_request f (same_kind k)) (at_number gone (xs ++ x ∷ []) n)
        by (inl e) =
            ap (λ o. passes (is_open_request f (same_kind k)) o) (number-end gone xs n (e ∙ number_is))
            ∙ closed (is_open x.state) (same_flow f x.flow)
            ∙ ap (λ w. is_open x.state && (is_request (same_kind k) w && same_flow f x.flow)) (sym what)
            ∙ sym (ap (λ o. passes (is_open_request f (same_kind k)) o) (number-append gone xs x n (e ∙ number_is)))
        by (inr ne) = sym (ap (λ o. passes (is_open_request f (same_kind k)) o) (number-append_other gone xs x n (λ e. ne (e ∙ sym number_is))))

-- ---- a key that is added and taken away again
pub undone : (old : Index) (gone : ℕ) (xs : List Sending) (h : Indexes old gone xs) (flow : Flow) (kind : Request) (number : ℕ) → number ≡ gone + length xs → (f : Flow) (k : Request) (n : ℕ) → (not (same_key flow kind number f k n) && (same_key flow kind number f k n || has old.«open» f k n)) ≡ has old.«open» f k n
undone old gone xs h flow kind number number_is f k n = by (cases_eq n number)
  where
    none : (s : Bool) → (not s && (s || false)) ≡ false
    none true = refl
    none false = refl

    neither : (a b c : Bool) → (not (a && (b && false)) && ((a && (b && false)) || c)) ≡ c
    neither true true c = refl
    neither true false c = refl
    neither false b c = refl

    by : (n ≡ number) ⊎ (n ≡ number → ⊥) → (not (same_key flow kind number f k n) && (same_key flow kind number f k n || has old.«open» f k n)) ≡ has old.«open» f k n
    by (inl e) =
        let not_yet : has old.«open» f k n ≡ false = h.requests_open f k n ∙ ap (λ o. passes (is_open_request f (same_kind k)) o) (number-end gone xs n (e ∙ number_is)) in
        ap (λ b. not (same_key flow kind number f k n) && (same_key flow kind number f k n || b)) not_yet ∙ none (same_key flow kind number f k n) ∙ sym not_yet
    by (inr ne) =
        ap (λ b. not (same_flow flow f && (same_kind kind k && b)) && ((same_flow flow f && (same_kind kind k && b)) || has old.«open» f k n)) (ne_eqb number n (λ e. ne (sym e)))
        ∙ neither (same_flow flow f) (same_kind kind k) (has old.«open» f k n)

-- ---- one is closed
module _ (old new : Index) (gone : ℕ) (xs : List Sending) (x : Sending) (place number : ℕ) (state : State) (h : Indexes old gone xs) (at : slice_get xs place ≡ Some x) (few : place < length xs) (number_is : number ≡ gone + place) (closed : is_open state ≡ false) where
  at-other : (test : Sending → Bool) → test (in_state state x) ≡ test x → (y : Sending) → slice_get xs place ≡ Some y → test (in_state state x) ≡ test y
  at-other test e y s = e ∙ ap (λ o. passes test o) (sym at ∙ s)

  pub closed-latest : (test : Sending → Bool) (kept : Option ℕ) → test (in_state state x) ≡ test x → kept ≡ numbered gone (latest_place test xs) → kept ≡ numbered gone (latest_place test (set xs place (in_state state x)))
  closed-latest test kept same is = is ∙ sym (ap (λ o. numbered gone o) (latest-set test xs place (in_state state x) (at-other test same)))

  -- what is at a number then
  after-at : (f : Flow) (k : Request) (n : ℕ) → n ≡ number → passes (is_open_request f (same_kind k)) (at_number gone (set xs place (in_state state x)) n) ≡ false
  after-at f k n e = ap (λ o. passes (is_open_request f (same_kind k)) o) (number-set gone xs place (in_state state x) n (e ∙ number_is) few) ∙ ap (λ b. b && (is_request (same_kind k) x.what && same_flow f x.flow)) closed

  before-at : (f : Flow) (k : Request) (n : ℕ) → n ≡ number → has old.«open» f k n ≡ is_open_request f (same_kind k) x
  before-at f k n e = h.requests_open f k n ∙ ap (λ o. passes (is_open_request f (same_kind k)) o) (at_number-from gone xs n (omega arith) ∙ ap (λ i. slice_get xs i) it ∙ at)
    where
      it : n - gone ≡ place
      it = omega arith

  not-at : (f : Flow) (k : Request) (n : ℕ) → (n ≡ number → ⊥) → has old.«open» f k n ≡ passes (is_open_request f (same_kind k)) (at_number gone (set xs place (in_state state x)) n)
  not-at f k n ne = h.requests_open f k n ∙ sym (ap (λ o. passes (is_open_request f (same_kind k)) o) (number-set_other gone xs place (in_state state x) n (λ e. ne (e ∙ sym number_is))))

  module _ (kind : Request) (octets : Fingerprint) (what : x.what ≡ whats.Request kind octets) where
    pub closed-request : ((f : Flow) (k : Request) (n : ℕ) → has new.«open» f k n ≡ (not (is_open x.state && same_key x.flow kind number f k n) && has old.«open» f k n)) → (f : Flow) (k : Request) (n : ℕ) → has new.«open» f k n ≡ passes (is_open_request f (same_kind k)) (at_number gone (set xs place (in_state state x)) n)
    closed-request u f k n = u f k n ∙ by (cases_eq n number)
      where
        by : (n ≡ number) ⊎ (n ≡ number → ⊥) → (not (is_open x.state && same_key x.flow kind number f k n) && has old.«open» f k n) ≡ passes (is_open_request f (same_kind k)) (at_number gone (set xs place (in_state state x)) n)
        by (inl e) = gone-at x kind octets number what f k n (has old.«open» f k n) e (before-at f k n e) ∙ sym (after-at f k n e)
        by (inr ne) = kept-at x kind number f k n (has old.«open» f k n) ne ∙ not-at f k n ne

  module _ (sequence : ℕ) (what : x.what ≡ whats.Syn sequence) where
    pub closed-syn : ((f : Flow) (k : Request) (n : ℕ) → has new.«open» f k n ≡ has old.«open» f k n) → (f : Flow) (k : Request) (n : ℕ) → has new.«open» f k n ≡ passes (is_open_request f (same_kind k)) (at_number gone (set xs place (in_state state x)) n)
    closed-syn u f k n = u f k n ∙ by (cases_eq n number)
      where
        none : (a b : Bool) → (a && (false && b)) ≡ false
        none true b = refl
        none false b = refl

        by : (n ≡ number) ⊎ (n ≡ number → ⊥) → has old.«open» f k n ≡ passes (is_open_request f (same_kind k)) (at_number gone (set xs place (in_state state x)) n)
        by (inl e) = before-at f k n e ∙ ap (λ w. is_open x.state && (is_request (same_kind k) w && same_flow f x.flow)) what ∙ none (is_open x.state) (same_flow f x.flow) ∙ sym (after-at f k n e)
        by (inr ne) = not-at f k n ne

-- ---- the first one leaves
forgotten : (gone : ℕ) (test : Bool) (place : Option ℕ) → (if test && is_kept gone (numbered gone (option_or (next place) (if test then Some 0 else None))) then None else numbered gone (option_or (next place) (if test then Some 0 else None))) ≡ numbered (gone + 1) place
forgotten gone true None = ap (λ b. if b then None else Some (gone + 0)) (eq-eqb (gone + 0) gone (omega arith))
forgotten gone false None = refl
forgotten gone true (Some p) = ap (λ b. if b then None else Some (gone + suc p)) (ne_eqb (gone + suc p) gone (λ e. omega arith)) ∙ numbered-next gone (Some p)
forgotten gone false (Some p) = numbered-next gone (Some p)

module _ (old new : Index) (number : ℕ) (first : Sending) (others : List Sending) (h : Indexes old number (first ∷ others)) where
  left-latest : (test : Sending → Bool) (own : Bool) (kept : Option ℕ) → own ≡ test first → kept ≡ numbered number (latest_place test (first ∷ others)) → (if own && is_kept number kept then None else kept) ≡ numbered (number + 1) (latest_place test others)
  left-latest test own kept is kept_is =
      ap (λ o. if own && is_kept number o then None else o) kept_is
      ∙ ap (λ b. if b && is_kept number (numbered number (latest_place test (first ∷ others))) then None else numbered number (latest_place test (first ∷ others))) is
      ∙ forgotten number (test first) (latest_place test others)

  left-latest_same : (test : Sending → Bool) (kept : Option ℕ) → test first ≡ false → kept ≡ numbered number (latest_place test (first ∷ others)) → kept ≡ numbered (number + 1) (latest_place test others)
  left-latest_same test kept is kept_is =
      kept_is
      ∙ ap (λ b. numbered number (option_or (next (latest_place test others)) (if b then Some 0 else None))) is
      ∙ forgotten number false (latest_place test others)

  pub left-octets : (octets : Fingerprint) (kind : Request) → first.what ≡ whats.Request kind octets → (q : Fingerprint) → (if is_at (fingerprint_cmp q) octets && is_kept number (lookup (is_at (fingerprint_cmp q)) old.requests.entries) then None else lookup (is_at (fingerprint_cmp q)) old.requests.entries) ≡ numbered (number + 1) (latest_place (with_octets q) others)
  left-octets octets kind what q = left-latest (with_octets q) (is_at (fingerprint_cmp q) octets) (lookup (is_at (fingerprint_cmp q)) old.requests.entries) (octets-are q octets ∙ sym (ap (λ w. has_octets q w) what)) (h.requests q)

  pub left-octets_same : (sequence : ℕ) → first.what ≡ whats.Syn sequence → (q : Fingerprint) → lookup (is_at (fingerprint_cmp q)) old.requests.entries ≡ numbered (number + 1) (latest_place (with_octets q) others)
  left-octets_same sequence what q = left-latest_same (with_octets q) (lookup (is_at (fingerprint_cmp q)) old.requests.entries) (ap (λ w. has_octets q w) what) (h.requests q)

  pub left-syns : (sequence : ℕ) → first.what ≡ whats.Syn sequence → (q : Flow) → (if is_of q (flow_key first.flow) && is_kept number (lookup (is_of q) old.syns.entries) then None else lookup (is_of q) old.syns.entries) ≡ numbered (number + 1) (latest_place (is_syn_of q) others)
  left-syns sequence what q = left-latest (is_syn_of q) (is_of q (flow_key first.flow)) (lookup (is_of q) old.syns.entries) (same_flow-is q first.flow ∙ sym (ap (λ w. is_syn w && same_flow q first.flow) what)) (h.syns q)

  pub left-syns_same : (kind : Request) (octets : Fingerprint) → first.what ≡ whats.Request kind octets → (q : Flow) → lookup (is_of q) old.syns.entries ≡ numbered (number + 1) (latest_place (is_syn_of q) others)
  left-syns_same kind octets what q = left-latest_same (is_syn_of q) (lookup (is_of q) old.syns.entries) (ap (λ w. is_syn w && same_flow q first.flow) what) (h.syns q)

  left-at : (f : Flow) (k : Request) (n : ℕ) → n ≡ number → passes (is_open_request f (same_kind k)) (at_number (number + 1) others n) ≡ false
  left-at f k n e = ap (λ o. passes (is_open_request f (same_kind k)) o) (at_number-first_not number others n e)

  was-at : (f : Flow) (k : Request) (n : ℕ) → n ≡ number → has old.«open» f k n ≡ is_open_request f (same_kind k) first
  was-at f k n e = h.requests_open f k n ∙ ap (λ o. passes (is_open_request f (same_kind k)) o) (at_number-first number first others n e)

  left-other : (f : Flow) (k : Request) (n : ℕ) → (n ≡ number → ⊥) → has old.«open» f k n ≡ passes (is_open_request f (same_kind k)) (at_number (number + 1) others n)
  left-other f k n ne = h.requests_open f k n ∙ ap (λ o. passes (is_open_request f (same_kind k)) o) (at_number-rest number first others n ne)

  pub left-open : (kind : Request) (octets : Fingerprint) → first.what ≡ whats.Request kind octets → ((f : Flow) (k : Request) (n : ℕ) → has new.«open» f k n ≡ (not (is_open first.state && same_key first.flow kind number f k n) && has old.«open» f k n)) → (f : Flow) (k : Request) (n : ℕ) → has new.«open» f k n ≡ passes (is_open_request f (same_kind k)) (at_number (number + 1) others n)
  left-open kind octets what u f k n = u f k n ∙ by (cases_eq n number)
    where
      by : (n ≡ number) ⊎ (n ≡ number → ⊥) → (not (is_open first.state && same_key first.flow kind number f k n) && has old.«open» f k n) ≡ passes (is_open_request f (same_kind k)) (at_number (number + 1) others n)
      by (inl e) = gone-at first kind octets number what f k n (has old.«open» f k n) e (was-at f k n e) ∙ sym (left-at f k n e)
      by (inr ne) = kept-at first kind number f k n (has old.«open» f k n) ne ∙ left-other f k n ne

  pub left-open_same : (sequence : ℕ) → first.what ≡ whats.Syn sequence → ((f : Flow) (k : Request) (n : ℕ) → has new.«open» f k n ≡ has old.«open» f k n) → (f : Flow) (k : Request) (n : ℕ) → has new.«open» f k n ≡ passes (is_open_request f (same_kind k)) (at_number (number + 1) others n)
  left-open_same sequence what u f k n = u f k n ∙ by (cases_eq n number)
    where
      none : (a b : Bool) → (a && (false && b)) ≡ false
      none true b = refl
      none false b = refl

      by : (n ≡ number) ⊎ (n ≡ number → ⊥) → has old.«open» f k n ≡ passes (is_open_request f (same_kind k)) (at_number (number + 1) others n)
      by (inl e) = was-at f k n e ∙ ap (λ w. is_open first.state && (is_request (same_kind k) w && same_flow f first.flow)) what ∙ none (is_open first.state) (same_flow f first.flow) ∙ sym (left-at f k n e)
      by (inr ne) = left-other f k n ne
