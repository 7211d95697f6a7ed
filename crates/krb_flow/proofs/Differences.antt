-- The places at which octets differ from those that were taken, or that wait.
use Rattle.std.proofs.Common.{◌≡◌, ℕ, zero, suc, ◌+◌, ◌-◌, ◌<◌, ◌≤◌, ◌⊎◌, inl, inr, Bool, true, false, not, Option, Some, None, List, [], ◌∷◌, ◌++◌, length, take, drop, get_or, refl, sym, ap, ap₂, ◌∙◌, arith, add-zero, drop-cons, length-append, length-drop, append_assoc, append-nil}
use Rattle.std.specs.Prelude.{◌==◌, ◌&&◌, if◌then◌else◌, slice_get, nat_eq, nat_lt}
use Rattle.std.specs.Cmp.Lexicographic.{pointwise}
use Rattle.std.proofs.lemmas.Bool.{lt-ltb, le-ltb, eq-eqb, false≢true}
use Rattle.std.proofs.lemmas.List.{length-take, take-append-drop}
use Rattle.std.proofs.lemmas.Option.{slice_get-get_or}
use Rattle.krb_flow.specs.Copies.{differing, differs_taken, is_other, old_of, summary, taken_before}
use Rattle.krb_flow.specs.declared.copies.Differing.{Differing}
use Rattle.krb_flow.specs.inner.Unequal.{unequal}

abbrev Test : Type 0
Test = ℕ → ℕ → Bool

-- some octets first, and then the others
pub differing-append : (differs : Test) (place : ℕ) (xs ys : List ℕ) → differing differs place (xs ++ ys) ≡ differing differs place xs ++ differing differs (place + length xs) ys
differing-append differs place [] ys = ap (λ (n : ℕ). differing differs n ys) (sym (add-zero place))
differing-append differs place (x ∷ xs) ys = by (differing-append differs (place + 1) xs ys ∙ ap (λ (n : ℕ). differing differs (place + 1) xs ++ differing differs n ys) (let e : place + 1 + length xs ≡ place + suc (length xs) = omega arith in e)) (differs place x)
  where
    by : differing differs (place + 1) (xs ++ ys) ≡ differing differs (place + 1) xs ++ differing differs (place + suc (length xs)) ys → (b : Bool) → (if b then place ∷ differing differs (place + 1) (xs ++ ys) else differing differs (place + 1) (xs ++ ys)) ≡ (if b then place ∷ differing differs (place + 1) xs else differing differs (place + 1) xs) ++ differing differs (place + suc (length xs)) ys
    by rest true = ap (λ (l : List ℕ). place ∷ l) rest
    by rest false = rest

-- tests that agree at the places of octets
pub differing_same : (one other : Test) (place : ℕ) (xs : List ℕ) → ((there octet : ℕ) → place ≤ there → there < place + length xs → one there octet ≡ other there octet) → differing one place xs ≡ differing other place xs
differing_same one other place [] agree = refl
differing_same one other place (x ∷ xs) agree =
    ap (λ (b : Bool). if b then place ∷ differing one (place + 1) xs else differing one (place + 1) xs) (agree place x (omega arith) (omega arith))
    ∙ ap (λ (l : List ℕ). if other place x then place ∷ l else l) (differing_same one other (place + 1) xs (λ there octet after before. agree there octet (omega arith) (omega arith)))

-- none, where the test fails at each place
pub differing_none : (differs : Test) (place : ℕ) (xs : List ℕ) → ((there octet : ℕ) → place ≤ there → there < place + length xs → differs there octet ≡ false) → differing differs place xs ≡ []
differing_none differs place [] none = refl
differing_none differs place (x ∷ xs) none =
    ap (λ (b : Bool). if b then place ∷ differing differs (place + 1) xs else differing differs (place + 1) xs) (none place x (omega arith) (omega arith))
    ∙ differing_none differs (place + 1) xs (λ there octet after before. none there octet (omega arith) (omega arith))

pub few_differing : (differs : Test) (place : ℕ) (xs : List ℕ) → length (differing differs place xs) ≤ length xs
few_differing differs place [] = omega arith
few_differing differs place (x ∷ xs) = by (few_differing differs (place + 1) xs) (differs place x)
  where
    by : length (differing differs (place + 1) xs) ≤ length xs → (b : Bool) → length (if b then place ∷ differing differs (place + 1) xs else differing differs (place + 1) xs) ≤ suc (length xs)
    by few true = omega arith
    by few false = omega arith

-- ---- compared one by one

pub few_unequal : (place : ℕ) (xs ys : List ℕ) → length (unequal place xs ys) ≤ length xs
few_unequal place [] ys = omega arith
few_unequal place (x ∷ xs) [] = omega arith
few_unequal place (x ∷ xs) (y ∷ ys) = by (few_unequal (place + 1) xs ys) (x == y)
  where
    by : length (unequal (place + 1) xs ys) ≤ length xs → (b : Bool) → length (if b then unequal (place + 1) xs ys else place ∷ unequal (place + 1) xs ys) ≤ suc (length xs)
    by few true = omega arith
    by few false = omega arith

pub unequal_itself : (place : ℕ) (xs : List ℕ) → unequal place xs xs ≡ []
unequal_itself place [] = refl
unequal_itself place (x ∷ xs) = rw (eq-eqb x x refl) (unequal_itself (place + 1) xs)

pub unequal_same : (place : ℕ) (xs ys : List ℕ) → pointwise nat_eq xs ys ≡ true → unequal place xs ys ≡ []
unequal_same place [] ys e = refl
unequal_same place (x ∷ xs) [] e = refl
unequal_same place (x ∷ xs) (y ∷ ys) e = by (unequal_same (place + 1) xs ys) (x == y) e
  where
    by : (pointwise nat_eq xs ys ≡ true → unequal (place + 1) xs ys ≡ []) → (b : Bool) → (b && pointwise nat_eq xs ys) ≡ true → (if b then unequal (place + 1) xs ys else place ∷ unequal (place + 1) xs ys) ≡ []
    by rest true e = rest e
    by rest false e = absurd (false≢true e)

-- octets past the end of the first list do not count
pub unequal_taken : (place : ℕ) (xs ys : List ℕ) → unequal place xs (take (length xs) ys) ≡ unequal place xs ys
unequal_taken place [] ys = refl
unequal_taken place (x ∷ xs) [] = refl
unequal_taken place (x ∷ xs) (y ∷ ys) = ap (λ (l : List ℕ). if x == y then l else place ∷ l) (unequal_taken (place + 1) xs ys)

-- one more octet
pub unequal_more : (place i : ℕ) (xs ys : List ℕ) → i < length xs → i < length ys → unequal place (take (suc i) xs) (take (suc i) ys) ≡ unequal place (take i xs) (take i ys) ++ (if get_or xs i 0 == get_or ys i 0 then [] else (place + i) ∷ [])
unequal_more place i [] ys in_xs in_ys = absurd (omega arith)
unequal_more place i (x ∷ xs) [] in_xs in_ys = absurd (omega arith)
unequal_more place zero (x ∷ xs) (y ∷ ys) in_xs in_ys = by (x == y)
  where
    by : (b : Bool) → (if b then [] else place ∷ []) ≡ (if b then [] else (place + 0) ∷ [])
    by true = refl
    by false = ap (λ (n : ℕ). n ∷ []) (sym (add-zero place))
unequal_more place (suc i) (x ∷ xs) (y ∷ ys) in_xs in_ys =
    by
    (unequal_more (place + 1) i xs ys (omega arith) (omega arith)
    ∙ ap (λ (n : ℕ). unequal (place + 1) (take i xs) (take i ys) ++ (if get_or xs i 0 == get_or ys i 0 then [] else n ∷ [])) (let e : place + 1 + i ≡ place + suc i = omega arith in e))
    (x == y)
  where
    by : unequal (place + 1) (take (suc i) xs) (take (suc i) ys) ≡ unequal (place + 1) (take i xs) (take i ys) ++ (if get_or xs i 0 == get_or ys i 0 then [] else (place + suc i) ∷ []) → (b : Bool) → (if b then unequal (place + 1) (take (suc i) xs) (take (suc i) ys) else place ∷ unequal (place + 1) (take (suc i) xs) (take (suc i) ys)) ≡ (if b then unequal (place + 1) (take i xs) (take i ys) else place ∷ unequal (place + 1) (take i xs) (take i ys)) ++ (if get_or xs i 0 == get_or ys i 0 then [] else (place + suc i) ∷ [])
    by rest true = rest
    by rest false = ap (λ (l : List ℕ). place ∷ l) rest

-- ---- octets that were taken

-- copies of the last octets are compared with these
pub taken_here : (kept : List ℕ) (expected place a : ℕ) (xs : List ℕ) → place + length xs ≤ expected → a + (expected - place) ≡ length kept → differing (differs_taken kept expected) place xs ≡ unequal place xs (drop a kept)
taken_here kept expected place a [] before is = refl
taken_here kept expected place a (x ∷ xs) before is =
    let within : a < length kept = omega arith in
    let cons : drop a kept ≡ get_or kept a 0 ∷ drop (suc a) kept = drop-cons kept a 0 within in
    let behind : length kept - (expected - place) ≡ a = omega arith in
    let kept_there : taken_before kept (expected - place) ≡ Some (get_or kept a 0) = rw (le-ltb (length kept) (expected - place) (omega arith)) (ap (slice_get kept) behind ∙ slice_get-get_or kept a 0 within) in
    ap (λ (o : Option ℕ). if is_other o x then place ∷ differing (differs_taken kept expected) (place + 1) xs else differing (differs_taken kept expected) (place + 1) xs) kept_there
    ∙ ap (λ (l : List ℕ). if not (x == get_or kept a 0) then place ∷ l else l) (taken_here kept expected (place + 1) (suc a) xs (omega arith) (omega arith))
    ∙ flipped (x == get_or kept a 0)
    ∙ ap (unequal place (x ∷ xs)) (sym cons)
  where
    flipped : (b : Bool) → (if not b then place ∷ unequal (place + 1) xs (drop (suc a) kept) else unequal (place + 1) xs (drop (suc a) kept)) ≡ (if b then unequal (place + 1) xs (drop (suc a) kept) else place ∷ unequal (place + 1) xs (drop (suc a) kept))
    flipped true = refl
    flipped false = refl

-- older ones are compared with none
taken_old : (kept : List ℕ) (expected place : ℕ) (xs : List ℕ) → length xs ≤ expected - length kept - place → differing (differs_taken kept expected) place xs ≡ []
taken_old kept expected place xs old = differing_none (differs_taken kept expected) place xs none
  where
    none : (there octet : ℕ) → place ≤ there → there < place + length xs → differs_taken kept expected there octet ≡ false
    none there octet after before = rw (lt-ltb (length kept) (expected - there) (omega arith)) refl

pub taken_none : (kept : List ℕ) (expected place old : ℕ) (xs : List ℕ) → old ≡ old_of kept expected place xs → length xs ≤ old → differing (differs_taken kept expected) place xs ≡ []
taken_none kept expected place old xs is all = taken_old kept expected place xs (omega arith)

-- those that are not are compared
pub taken_differing : (kept : List ℕ) (expected place old : ℕ) (xs : List ℕ) → place + length xs ≤ expected → old ≡ old_of kept expected place xs → old < length xs → differing (differs_taken kept expected) place xs ≡ unequal (place + old) (drop old xs) (drop (length kept - (expected - (place + old))) kept)
taken_differing kept expected place old xs before is some =
    let taken : length (take old xs) ≡ old = omega (arith, length-take old xs) in
    let left : length (drop old xs) ≡ length xs - old = length-drop old xs in
    ap (differing (differs_taken kept expected) place) (sym (take-append-drop old xs))
    ∙ differing-append (differs_taken kept expected) place (take old xs) (drop old xs)
    ∙ ap₂ (λ (l : List ℕ) (n : ℕ). l ++ differing (differs_taken kept expected) (place + n) (drop old xs)) (taken_old kept expected place (take old xs) (omega arith)) taken
    ∙ taken_here kept expected (place + old) (length kept - (expected - (place + old))) (drop old xs) (omega arith) (omega arith)

-- ---- summaries

abbrev pub or_else : Option ℕ → Option ℕ → Option ℕ
or_else None other = other
or_else (Some x) other = Some x

pub first-append : (xs ys : List ℕ) → slice_get (xs ++ ys) 0 ≡ or_else (slice_get xs 0) (slice_get ys 0)
first-append [] ys = refl
first-append (x ∷ xs) ys = refl

-- of all places, those that were found, and those among what is left
pub record DiffersSoFar (all : Differing) (whole rest : List ℕ) : Type 0 where
  pub done : List ℕ
  pub is : all ≡ summary done
  pub parts : whole ≡ done ++ rest

pub differs_more : (differs : Test) (place seen : ℕ) (octets whole : List ℕ) (all found next : Differing) → seen ≤ length octets → DiffersSoFar all whole (differing differs place octets) → found ≡ summary (differing differs place (take seen octets)) → ((xs ys : List ℕ) → all ≡ summary xs → found ≡ summary ys → next ≡ summary (xs ++ ys)) → DiffersSoFar next whole (differing differs (place + seen) (drop seen octets))
differs_more differs place seen octets whole all found next within so_far is both =
    let here = differing differs place (take seen octets) in
    let split : differing differs place octets ≡ here ++ differing differs (place + seen) (drop seen octets) =
    ap (differing differs place) (sym (take-append-drop seen octets))
    ∙ differing-append differs place (take seen octets) (drop seen octets)
    ∙ ap (λ (n : ℕ). here ++ differing differs (place + n) (drop seen octets)) (let e : length (take seen octets) ≡ seen = omega (arith, length-take seen octets) in e)
    in record {
      done = so_far.done ++ here;
      is = both so_far.done here so_far.is is;
      parts = so_far.parts ∙ ap (λ (l : List ℕ). so_far.done ++ l) split ∙ sym (append_assoc so_far.done here (differing differs (place + seen) (drop seen octets)));
    }

pub differs_all : (all : Differing) (whole : List ℕ) → DiffersSoFar all whole [] → all ≡ summary whole
differs_all all whole so_far = so_far.is ∙ ap summary (sym (so_far.parts ∙ append-nil so_far.done))
