-- A flow among others at the end of a capture, and how many flows have a number.
use Rattle.std.proofs.Common.{◌≡◌, ℕ, zero, suc, ◌<◌, ◌≤◌, ◌⊎◌, inl, inr, Bool, true, false, List, [], ◌∷◌, ◌++◌, length, Option, Some, None, cond, refl, sym, ◌∙◌, ap, ap₂, subst, arith, append-nil}
use Rattle.std.specs.Prelude.{nat_lt}
use Rattle.std.specs.declared.cmp.Ordering.{Ordering}
use Rattle.std.specs.declared.cmp.Ordering.TheVariants.{Less, Equal, Greater}
use Rattle.std.specs.Ordering.{is_eq, nat_cmp}
use Rattle.std.specs.List.{AllByRecursion, Contains, slice_index_or}
use Rattle.std.specs.Map.{keys_of}
use Rattle.std.proofs.lemmas.Bool.{lt-ltb, true≢false}
use Rattle.std.proofs.lemmas.Option.{none-some, same_Some}
use Rattle.std.proofs.lemmas.Cmp.{nat_cmp_total, tied_itself}
use Rattle.std.proofs.lemmas.Map.Lookups.{exact_unsigned}
use Rattle.krb_flow.specs.Directions.{end_of}
use Rattle.krb_capture.specs.Directions.{Table, flow_cmp, in_flow, last_of}
use Rattle.krb_capture.specs.Found.{Found}
use Rattle.krb_capture.specs.Sending.{Sent, end_if, last_found}
use Rattle.krb_capture.specs.declared.directions.Gone.{Gone}
use Rattle.krb_capture.specs.declared.flow.Flow.{Flow}
use Rattle.krb_capture_laws.proofs.Alone.{IsBetween, Keeps, KeptAt, KeptBy, Sound, at, flow_total, number_of}
use Rattle.krb_capture.proofs.Maps.{Ascend, found_each}

-- ---- what is found in flows of which a test is true
module _ (test : Flow → Bool) where
  abbrev pub of_flow : List (Flow × Found) → List Found
  of_flow [] = []
  of_flow (one ∷ others) = cond (test one.0) (one.1 ∷ of_flow others) (of_flow others)

  pub of_flow-append : (xs ys : List (Flow × Found)) → of_flow (xs ++ ys) ≡ of_flow xs ++ of_flow ys
  of_flow-append [] ys = refl
  of_flow-append (x ∷ xs) ys = by (test x.0) (of_flow-append xs ys)
    where
      by : (b : Bool) → of_flow (xs ++ ys) ≡ of_flow xs ++ of_flow ys → cond b (x.1 ∷ of_flow (xs ++ ys)) (of_flow (xs ++ ys)) ≡ cond b (x.1 ∷ of_flow xs) (of_flow xs) ++ of_flow ys
      by true rest = ap (λ l. x.1 ∷ l) rest
      by false rest = rest

  pub of_flow-same : (flow : Flow) (found : List Found) → test flow ≡ true → of_flow (in_flow flow found) ≡ found
  of_flow-same flow [] e = refl
  of_flow-same flow (x ∷ xs) e = ap (λ b. cond b (x ∷ of_flow (in_flow flow xs)) (of_flow (in_flow flow xs))) e ∙ ap (λ l. x ∷ l) (of_flow-same flow xs e)

  pub of_flow-other : (flow : Flow) (found : List Found) → test flow ≡ false → of_flow (in_flow flow found) ≡ []
  of_flow-other flow [] e = refl
  of_flow-other flow (x ∷ xs) e = ap (λ b. cond b (x ∷ of_flow (in_flow flow xs)) (of_flow (in_flow flow xs))) e ∙ of_flow-other flow xs e

decided : (b : Bool) → (b ≡ true → ⊥) → b ≡ false
decided true n = absurd (n refl)
decided false n = refl

less_is_equal : Less ≡ Equal → ⊥
less_is_equal e = cc

before_itself : (n : ℕ) → nat_cmp n n ≡ Less → ⊥
before_itself n e = less_is_equal (sym e ∙ tied_itself nat_cmp_total n)

-- ---- the directions that have not ended
module _ (limit : ℕ) (test : Flow → Bool) where
  none_of : (es : List (ℕ × Sent)) → AllByRecursion (λ e. test e.1.flow ≡ false) es → of_flow test (last_of limit es) ≡ []
  none_of [] a = refl
  none_of (e ∷ es) a =
      of_flow-append test (in_flow e.1.flow (last_found limit e.1)) (last_of limit es)
      ∙ ap₂ (λ (x y : List Found). x ++ y) (of_flow-other test e.1.flow (last_found limit e.1) a.0) (none_of es a.1)

  -- those after the one of the flow
  later_ones : (n : ℕ) (es : List (ℕ × Sent)) → AllByRecursion (λ k. nat_cmp n k ≡ Less) (keys_of es) → AllByRecursion (λ e. test e.1.flow ≡ true → e.0 ≡ n) es → AllByRecursion (λ e. test e.1.flow ≡ false) es
  later_ones n [] l a = l
  later_ones n (e ∷ es) l a = (decided (test e.1.flow) (λ t. before_itself n (ap (nat_cmp n) (sym (a.0 t)) ∙ l.0)), later_ones n es l.1 a.1)

  one_of : (n : ℕ) (sent : Sent) (es : List (ℕ × Sent)) → Ascend nat_cmp (keys_of es) → AllByRecursion (λ e. test e.1.flow ≡ true → e.0 ≡ n) es → at n es ≡ Some sent → test sent.flow ≡ true → of_flow test (last_of limit es) ≡ last_found limit sent
  one_of n sent [] s a is t = absurd (none-some sent is)
  one_of n sent (e ∷ es) s a is t =
      of_flow-append test (in_flow e.1.flow (last_found limit e.1)) (last_of limit es)
      ∙ by (nat_cmp n e.0) refl is (one_of n sent es s.1 a.1)
    where
      not_this : (c : Ordering) → nat_cmp n e.0 ≡ c → is_eq c ≡ false → of_flow test (in_flow e.1.flow (last_found limit e.1)) ≡ []
      not_this c q n' = of_flow-other test e.1.flow (last_found limit e.1) (decided (test e.1.flow) (λ t. true≢false (sym (ap is_eq (tied_itself nat_cmp_total n)) ∙ ap (λ m. is_eq (nat_cmp n m)) (sym (a.0 t)) ∙ ap is_eq q ∙ n')))

      by : (c : Ordering) → nat_cmp n e.0 ≡ c → cond (is_eq c) (Some e.1) (at n es) ≡ Some sent → (at n es ≡ Some sent → test sent.flow ≡ true → of_flow test (last_of limit es) ≡ last_found limit sent) → of_flow test (in_flow e.1.flow (last_found limit e.1)) ++ of_flow test (last_of limit es) ≡ last_found limit sent
      by Less q is rest = ap (λ l. l ++ of_flow test (last_of limit es)) (not_this Less q refl) ∙ rest is t
      by Greater q is rest = ap (λ l. l ++ of_flow test (last_of limit es)) (not_this Greater q refl) ∙ rest is t
      by Equal q is rest =
          let same : e.1 ≡ sent = cc in
          let number : n ≡ e.0 = exact_unsigned n e.0 q in
          ap₂ (λ (x y : List Found). x ++ y)
          (of_flow-same test e.1.flow (last_found limit e.1) (ap (λ (x : Sent). test x.flow) same ∙ t) ∙ ap (last_found limit) same)
          (none_of es (later_ones n es (subst (λ m. AllByRecursion (λ k. nat_cmp m k ≡ Less) (keys_of es)) (sym number) s.0) a.1))
          ∙ append-nil (last_found limit sent)

  -- of a flow, among the others
  module _ (flow : Flow) (yes : test flow ≡ true) (only : (f : Flow) → IsBetween f → test f ≡ true → f ≡ flow) (bound : ℕ) (table : Table) (sound : Sound bound table) where
    each : AllByRecursion (λ e. at e.0 table.active ≡ Some e.1) table.active
    each = found_each nat_cmp_total table.active sound.active_ascend

    all_others : ((n : ℕ) (sent : Sent) → at n table.active ≡ Some sent → sent.flow ≡ flow → ⊥) → (es : List (ℕ × Sent)) → AllByRecursion (λ e. at e.0 table.active ≡ Some e.1) es → AllByRecursion (λ e. test e.1.flow ≡ false) es
    all_others none [] a = a
    all_others none (e ∷ es) a = (decided (test e.1.flow) (λ t. none e.0 e.1 a.0 (only e.1.flow (sound.between e.0 e.1 a.0) t)), all_others none es a.1)

    all_numbered : (n : ℕ) → number_of flow table ≡ Some n → (es : List (ℕ × Sent)) → AllByRecursion (λ e. at e.0 table.active ≡ Some e.1) es → AllByRecursion (λ e. test e.1.flow ≡ true → e.0 ≡ n) es
    all_numbered n known [] a = a
    all_numbered n known (e ∷ es) a = (λ t. same_Some e.0 n (sym (sound.owned e.0 e.1 a.0) ∙ ap (λ f. number_of f table) (only e.1.flow (sound.between e.0 e.1 a.0) t) ∙ known), all_numbered n known es a.1)

    no_last : (own : Sent) → end_of own.state ≡ None → last_found limit own ≡ []
    no_last own e = ap (end_if own.service limit own.stream) e

    pub last-own : (own : Sent) → Keeps flow table own → of_flow test (last_of limit table.active) ≡ last_found limit own
    last-own own k = by (number_of flow table) refl k
      where
        at_number : (n : ℕ) → number_of flow table ≡ Some n → (s : Option Sent) → at n table.active ≡ s → (g : Option Gone) → KeptAt table.streams s g own → of_flow test (last_of limit table.active) ≡ last_found limit own
        at_number n known (Some sent) a g k =
            one_of n sent table.active sound.active_ascend (all_numbered n known table.active each) a (ap (λ (x : Flow). test x) (sound.apart sent.flow flow n (sound.owned n sent a) known) ∙ yes)
            ∙ ap (last_found limit) k
        at_number n known None a (Some gone) k =
            none_of table.active (all_others (λ m sent is f. none-some sent (sym a ∙ ap (λ x. at x table.active) (same_Some n m (sym known ∙ ap (λ x. number_of x table) (sym f) ∙ sound.owned m sent is)) ∙ is)) table.active each)
            ∙ sym (no_last own (ap end_of k.0))
        at_number n known None a None k = absurd k

        by : (o : Option ℕ) → number_of flow table ≡ o → KeptBy o table own → of_flow test (last_of limit table.active) ≡ last_found limit own
        by None e k =
            none_of table.active (all_others (λ m sent is f. none-some m (sym e ∙ ap (λ x. number_of x table) (sym f) ∙ sound.owned m sent is)) table.active each)
            ∙ sym (no_last own (ap end_of k))
        by (Some n) e k = at_number n e (at n table.active) refl (at n table.ended) k

-- ---- flows that have a number are among those of which segments came
abbrev pub IsOneOf : Flow → List Flow → Type 0
IsOneOf flow [] = ⊥
IsOneOf flow (first ∷ others) = (flow ≡ first) ⊎ IsOneOf flow others

one_at : (flows : List Flow) (flow : Flow) (k : ℕ) → k < length flows → slice_index_or flows k flow ≡ flow → IsOneOf flow flows
one_at [] flow k within is = absurd (omega arith)
one_at (first ∷ flows) flow zero within is = inl (sym is)
one_at (first ∷ flows) flow (suc k) within is = inr (one_at flows flow k (omega arith) is)

pub all_one_of : (flows all : List Flow) → AllByRecursion (Contains flows) all → AllByRecursion (λ flow. IsOneOf flow flows) all
all_one_of flows [] a = a
all_one_of flows (flow ∷ all) a = (one_at flows flow a.0.0 a.0.1 a.0.2, all_one_of flows all a.1)

pub record Others (flow : Flow) (flows : List Flow) : Type 0 where
  pub rest : List Flow
  pub one_less : length flows ≡ suc (length rest)
  pub left : (other : Flow) → (other ≡ flow → ⊥) → IsOneOf other flows → IsOneOf other rest

others_of : (flow : Flow) (flows : List Flow) → IsOneOf flow flows → Others flow flows
others_of flow [] i = absurd i
others_of flow (first ∷ flows) (inl e) = record { rest = flows; one_less = refl; left = λ other n i. left other n i }
  where
    left : (other : Flow) → (other ≡ flow → ⊥) → (other ≡ first) ⊎ IsOneOf other flows → IsOneOf other flows
    left other n (inl same) = absurd (n (same ∙ sym e))
    left other n (inr i) = i
others_of flow (first ∷ flows) (inr i) =
    let others = others_of flow flows i in
    record { rest = first ∷ others.rest; one_less = ap suc others.one_less; left = λ other n j. left others other n j }
  where
    left : (others : Others flow flows) → (other : Flow) → (other ≡ flow → ⊥) → (other ≡ first) ⊎ IsOneOf other flows → (other ≡ first) ⊎ IsOneOf other others.rest
    left others other n (inl same) = inl same
    left others other n (inr j) = inr (others.left other n j)

narrowed : (flow : Flow) (flows rest : List Flow) → ((other : Flow) → (other ≡ flow → ⊥) → IsOneOf other flows → IsOneOf other rest) → (es : List (Flow × ℕ)) → AllByRecursion (λ e. e.0 ≡ flow → ⊥) es → AllByRecursion (λ e. IsOneOf e.0 flows) es → AllByRecursion (λ e. IsOneOf e.0 rest) es
narrowed flow flows rest left [] n a = a
narrowed flow flows rest left (e ∷ es) n a = (left e.0 n.0 a.0, narrowed flow flows rest left es n.1 a.1)

after_flow : (flow : Flow) (es : List (Flow × ℕ)) → AllByRecursion (λ k. flow_cmp flow k ≡ Less) (keys_of es) → AllByRecursion (λ e. e.0 ≡ flow → ⊥) es
after_flow flow [] l = l
after_flow flow (e ∷ es) l = (λ q. less_is_equal (sym l.0 ∙ ap (flow_cmp flow) q ∙ tied_itself flow_total flow), after_flow flow es l.1)

few : (es : List (Flow × ℕ)) (flows : List Flow) → Ascend flow_cmp (keys_of es) → AllByRecursion (λ e. IsOneOf e.0 flows) es → length es ≤ length flows
few [] flows s a = omega arith
few (e ∷ es) flows s a =
    let others = others_of e.0 flows a.0 in
    let fewer = few es others.rest s.1 (narrowed e.0 flows others.rest others.left es (after_flow e.0 es s.0) a.1) in
    let one_less = others.one_less in
    omega arith

-- there is room for one more
pub has_room : (bound : ℕ) (table : Table) (flows : List Flow) (flow : Flow) → Sound bound table → length flows ≤ 65536 → ((f : Flow) (n : ℕ) → number_of f table ≡ Some n → IsOneOf f flows) → IsOneOf flow flows → number_of flow table ≡ None → nat_lt (length table.numbers) 65536 ≡ true
has_room bound table flows flow sound short known is none =
    let others = others_of flow flows is in
    let each = found_each flow_total table.numbers sound.numbers_ascend in
    let fewer = few table.numbers others.rest sound.numbers_ascend (narrowed flow flows others.rest others.left table.numbers (apart table.numbers each) (all table.numbers each)) in
    let one_less = others.one_less in
    lt-ltb (length table.numbers) 65536 (omega arith)
  where
    apart : (es : List (Flow × ℕ)) → AllByRecursion (λ e. number_of e.0 table ≡ Some e.1) es → AllByRecursion (λ e. e.0 ≡ flow → ⊥) es
    apart [] a = a
    apart (e ∷ es) a = (λ q. none-some e.1 (sym none ∙ ap (λ x. number_of x table) (sym q) ∙ a.0), apart es a.1)

    all : (es : List (Flow × ℕ)) → AllByRecursion (λ e. number_of e.0 table ≡ Some e.1) es → AllByRecursion (λ e. IsOneOf e.0 flows) es
    all [] a = a
    all (e ∷ es) a = (known e.0 e.1 a.0, all es a.1)
