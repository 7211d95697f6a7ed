-- Octets that were taken, or that wait, stay so as a direction goes on; and those of a segment are among them, if no copy differs.
use Rattle.std.proofs.Common.{◌≡◌, ℕ, zero, suc, ◌+◌, ◌≤◌, ◌==◌, ◌⊎◌, inl, inr, Bool, true, false, not, is_some, Option, Some, None, List, [], ◌∷◌, ◌++◌, length, drop, cond, refl, sym, ap, subst, ◌∙◌, arith, add-zero}
use Rattle.std.specs.Prelude.{slice_get}
use Rattle.std.specs.Ordering.{nat_cmp, match_ordering, is_eq}
use Rattle.std.specs.Cmp.{ranked}
use Rattle.std.specs.declared.cmp.Ordering.{Ordering}
use Rattle.std.specs.declared.cmp.Ordering.TheVariants.{Less, Equal, Greater}
use Rattle.std.specs.Map.{lookup}
use Rattle.std.specs.BTreeMap.{insert_entry, is_at}
use Rattle.std.proofs.lemmas.Bool.{eqb-true}
use Rattle.std.proofs.lemmas.Cmp.{nat_cmp_total}
use Rattle.std.proofs.lemmas.Option.{none-some, same_Some}
use Rattle.krb_der.specs.Octets.{when}
use Rattle.krb_flow.specs.Copies.{is_other}
use Rattle.krb_flow.specs.Waiting.{Waiting, keep_one, keep, ready, early}
use Rattle.krb_capture.proofs.Maps.{lookup-inserted, lookup-inserted_other}

-- the octet that waits at a place
abbrev pub at : ℕ → Waiting → Option ℕ
at place waiting = lookup (is_at (nat_cmp place)) waiting

-- the octet at a place was taken, or waits
abbrev pub Held : List ℕ → Waiting → ℕ → ℕ → Type 0
Held stream waiting place octet = (slice_get stream place ≡ Some octet) ⊎ (at place waiting ≡ Some octet)

-- ---- lists

pub front_stays : (xs ys : List ℕ) (place octet : ℕ) → slice_get xs place ≡ Some octet → slice_get (xs ++ ys) place ≡ Some octet
front_stays [] ys place octet is = absurd (none-some octet is)
front_stays (x ∷ xs) ys zero octet is = is
front_stays (x ∷ xs) ys (suc place) octet is = front_stays xs ys place octet is

pub back_stays : (xs ys : List ℕ) (place octet : ℕ) → slice_get ys place ≡ Some octet → slice_get (xs ++ ys) (length xs + place) ≡ Some octet
back_stays [] ys place octet is =
    let same : place ≡ 0 + place = omega arith in
    subst (λ (n : ℕ). slice_get ys n ≡ Some octet) same is
back_stays (x ∷ xs) ys place octet is =
    let next : suc (length xs + place) ≡ suc (length xs) + place = omega arith in
    subst (λ (n : ℕ). slice_get (x ∷ xs ++ ys) n ≡ Some octet) next (back_stays xs ys place octet is)

pub dropped_at : (count : ℕ) (xs : List ℕ) (place : ℕ) → slice_get (drop count xs) place ≡ slice_get xs (count + place)
dropped_at zero xs place = let same : place ≡ 0 + place = omega arith in ap (slice_get xs) same
dropped_at (suc count) [] place = refl
dropped_at (suc count) (x ∷ xs) place =
    let next : suc (count + place) ≡ suc count + place = omega arith in
    dropped_at count xs place ∙ ap (slice_get (x ∷ xs)) next

-- ---- octets that wait

apart : (place other : ℕ) → (place ≡ other → ⊥) → is_eq (nat_cmp place other) ≡ false
apart place other unequal = by (nat_cmp place other) refl
  where
    by : (r : Ordering) → nat_cmp place other ≡ r → is_eq r ≡ false
    by Less is = refl
    by Equal is = absurd (unequal (ranked place other Equal (sym is)))
    by Greater is = refl

is_some_at : (octet : ℕ) (o : Option ℕ) → o ≡ Some octet → is_some o ≡ true
is_some_at octet o is = ap is_some is

-- an octet that comes later does not take the place of one that waits
one_stays : (place octet other more : ℕ) (waiting : Waiting) → at place waiting ≡ Some octet → at place (keep_one other more waiting) ≡ Some octet
one_stays place octet other more waiting is =
    elim (is_some (at other waiting)) as (λ (b : Bool). is_some (at other waiting) ≡ b → at place (when b (λ _. waiting) (λ _. insert_entry nat_cmp waiting other more)) ≡ Some octet) [
      | true ↦ λ occupied. is
      | false ↦ λ free.
          let unequal : place ≡ other → ⊥ = λ same. absurd (differ (sym (ap is_some (subst (λ (n : ℕ). at n waiting ≡ Some octet) same is)) ∙ free)) in
          lookup-inserted_other nat_cmp_total place other more waiting (apart place other unequal) ∙ is
    ] refl
  where
    differ : true ≡ false → ⊥
    differ e = cc

pub kept_stays : (place octet other : ℕ) (octets : List ℕ) (waiting : Waiting) → at place waiting ≡ Some octet → at place (keep other octets waiting) ≡ Some octet
kept_stays place octet other [] waiting is = is
kept_stays place octet other (more ∷ octets) waiting is = kept_stays place octet (other + 1) octets (keep_one other more waiting) (one_stays place octet other more waiting is)

-- nor does it change what is at others
one_apart : (place other more : ℕ) (waiting : Waiting) → (place ≡ other → ⊥) → at place (keep_one other more waiting) ≡ at place waiting
one_apart place other more waiting unequal =
    elim (is_some (at other waiting)) as (λ (b : Bool). at place (when b (λ _. waiting) (λ _. insert_entry nat_cmp waiting other more)) ≡ at place waiting) [
      | true ↦ refl
      | false ↦ lookup-inserted_other nat_cmp_total place other more waiting (apart place other unequal)
    ]

-- where another octet is not told, it waits from then on
one_waits : (place octet : ℕ) (waiting : Waiting) → is_other (at place waiting) octet ≡ false → at place (keep_one place octet waiting) ≡ Some octet
one_waits place octet waiting same = by (at place waiting) refl same
  where
    by : (o : Option ℕ) → at place waiting ≡ o → is_other o octet ≡ false → at place (when (is_some o) (λ _. waiting) (λ _. insert_entry nat_cmp waiting place octet)) ≡ Some octet
    by None is same = lookup-inserted nat_cmp_total place octet waiting
    by (Some other) is same = is ∙ ap (λ (n : ℕ). Some n) (sym (eqb-true octet other (back (octet == other) same)))
      where
        back : (b : Bool) → not b ≡ false → b ≡ true
        back true e = refl
        back false e = cc

pub kept_waits : (place : ℕ) (octets : List ℕ) (waiting : Waiting) → ((index octet : ℕ) → slice_get octets index ≡ Some octet → is_other (at (place + index) waiting) octet ≡ false) → (index octet : ℕ) → slice_get octets index ≡ Some octet → at (place + index) (keep place octets waiting) ≡ Some octet
kept_waits place [] waiting same index octet is = absurd (none-some octet is)
kept_waits place (first ∷ octets) waiting same zero octet is =
    let here : place + 0 ≡ place = add-zero place in
    let is_first : first ≡ octet = same_Some first octet is in
    let waits : at place (keep_one place first waiting) ≡ Some first = one_waits place first waiting (subst (λ (n : ℕ). is_other (at n waiting) first ≡ false) here (same zero first refl)) in
    subst (λ (n : ℕ). at n (keep (place + 1) octets (keep_one place first waiting)) ≡ Some octet) (sym here)
    (kept_stays place octet (place + 1) octets (keep_one place first waiting) (waits ∙ ap (λ (n : ℕ). Some n) is_first))
kept_waits place (first ∷ octets) waiting same (suc index) octet is =
    let next : place + 1 + index ≡ place + suc index = omega arith in
    subst (λ (n : ℕ). at n (keep (place + 1) octets (keep_one place first waiting)) ≡ Some octet) next
    (kept_waits (place + 1) octets (keep_one place first waiting) later index octet is)
  where
    later : (index octet : ℕ) → slice_get octets index ≡ Some octet → is_other (at (place + 1 + index) (keep_one place first waiting)) octet ≡ false
    later index octet is =
        let next : place + 1 + index ≡ place + suc index = omega arith in
        ap (λ (o : Option ℕ). is_other o octet) (one_apart (place + 1 + index) place first waiting (λ e. omega arith) ∙ ap (λ (n : ℕ). at n waiting) next)
        ∙ same (suc index) octet is

-- ---- octets that become ready

-- one that waits is among those, or waits still
pub record IsReady (expected place octet : ℕ) (octets : List ℕ) : Type 0 where
  pub index : ℕ
  pub place_is : place ≡ expected + index
  pub there : slice_get octets index ≡ Some octet

further : (expected place octet first : ℕ) (octets : List ℕ) (left : Waiting) → IsReady (expected + 1) place octet octets ⊎ (at place left ≡ Some octet) → IsReady expected place octet (first ∷ octets) ⊎ (at place left ≡ Some octet)
further expected place octet first octets left (inl r) = inl (record { index = suc r.index; place_is = omega (arith, r.place_is); there = r.there })
further expected place octet first octets left (inr w) = inr w

ready_or_waits : (expected place octet : ℕ) (waiting : Waiting) → at place waiting ≡ Some octet → IsReady expected place octet (ready expected waiting) ⊎ (at place (early expected waiting) ≡ Some octet)
ready_or_waits expected place octet [] is = absurd (none-some octet is)
ready_or_waits expected place octet (entry ∷ entries) is = by (λ there. ready_or_waits (expected + 1) place octet entries there) (entry.0 == expected) refl (nat_cmp place entry.0) refl is
  where
    by : (at place entries ≡ Some octet → IsReady (expected + 1) place octet (ready (expected + 1) entries) ⊎ (at place (early (expected + 1) entries) ≡ Some octet)) → (b : Bool) → (entry.0 == expected) ≡ b → (r : Ordering) → nat_cmp place entry.0 ≡ r → cond (is_eq r) (Some entry.1) (at place entries) ≡ Some octet → IsReady expected place octet (when b (λ _. entry.1 ∷ ready (expected + 1) entries) (λ _. [])) ⊎ (at place (when b (λ _. early (expected + 1) entries) (λ _. entry ∷ entries)) ≡ Some octet)
    by rest false later r is there = inr (ap (λ (x : Ordering). cond (is_eq x) (Some entry.1) (at place entries)) is ∙ there)
    by rest true same Less is there = further expected place octet entry.1 (ready (expected + 1) entries) (early (expected + 1) entries) (rest there)
    by rest true same Greater is there = further expected place octet entry.1 (ready (expected + 1) entries) (early (expected + 1) entries) (rest there)
    by rest true same Equal is there =
        let here : place ≡ entry.0 = ranked place entry.0 Equal (sym is) in
        let next : entry.0 ≡ expected = eqb-true entry.0 expected same in
        inl (record { index = 0; place_is = omega arith; there = there })

-- ---- as a direction goes on

-- octets that wait may become ready, and then they are taken
pub held_on : (stream : List ℕ) (expected : ℕ) (waiting : Waiting) → length stream ≡ expected → (place octet : ℕ) → Held stream waiting place octet → Held (stream ++ ready expected waiting) (early expected waiting) place octet
held_on stream expected waiting count place octet (inl taken) = inl (front_stays stream (ready expected waiting) place octet taken)
held_on stream expected waiting count place octet (inr waits) = by (ready_or_waits expected place octet waiting waits)
  where
    by : IsReady expected place octet (ready expected waiting) ⊎ (at place (early expected waiting) ≡ Some octet) → Held (stream ++ ready expected waiting) (early expected waiting) place octet
    by (inr still) = inr still
    by (inl r) =
        let same : length stream + r.index ≡ place = omega (arith, r.place_is, count) in
        inl (subst (λ (n : ℕ). slice_get (stream ++ ready expected waiting) n ≡ Some octet) same (back_stays stream (ready expected waiting) r.index octet r.there))

-- ---- how many they are

few_inserted : (place octet : ℕ) (waiting : Waiting) → length (insert_entry nat_cmp waiting place octet) ≤ length waiting + 1
few_inserted place octet [] = omega arith
few_inserted place octet (entry ∷ entries) = by (nat_cmp place entry.0) (few_inserted place octet entries)
  where
    by : (r : Ordering) → length (insert_entry nat_cmp entries place octet) ≤ length entries + 1 → length (match_ordering r ((place, octet) ∷ entry ∷ entries) ((entry.0, octet) ∷ entries) (entry ∷ insert_entry nat_cmp entries place octet)) ≤ suc (length entries) + 1
    by Less few = omega arith
    by Equal few = omega arith
    by Greater few = omega arith

few_with_one : (place octet : ℕ) (waiting : Waiting) → length (keep_one place octet waiting) ≤ length waiting + 1
few_with_one place octet waiting = by (is_some (at place waiting)) (few_inserted place octet waiting)
  where
    by : (b : Bool) → length (insert_entry nat_cmp waiting place octet) ≤ length waiting + 1 → length (when b (λ _. waiting) (λ _. insert_entry nat_cmp waiting place octet)) ≤ length waiting + 1
    by true few = omega arith
    by false few = few

pub few_kept : (place : ℕ) (octets : List ℕ) (waiting : Waiting) → length (keep place octets waiting) ≤ length waiting + length octets
few_kept place [] waiting = omega arith
few_kept place (octet ∷ octets) waiting = omega (arith, few_with_one place octet waiting, few_kept (place + 1) octets (keep_one place octet waiting))

pub ready_and_early : (expected : ℕ) (waiting : Waiting) → length (ready expected waiting) + length (early expected waiting) ≡ length waiting
ready_and_early expected [] = refl
ready_and_early expected (entry ∷ entries) = by (entry.0 == expected) (ready_and_early (expected + 1) entries)
  where
    by : (b : Bool) → length (ready (expected + 1) entries) + length (early (expected + 1) entries) ≡ length entries → length (when b (λ _. entry.1 ∷ ready (expected + 1) entries) (λ _. [])) + length (when b (λ _. early (expected + 1) entries) (λ _. entry ∷ entries)) ≡ suc (length entries)
    by true all = omega arith
    by false all = omega arith
