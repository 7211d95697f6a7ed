-- Octets that are looked at many at a time.
use Rattle.std.proofs.Common.{◌≡◌, ℕ, ◌+◌, ◌-◌, ◌≤◌, Bool, true, false, not, ◌||◌, ◌&&◌, nat_eq, nat_lt, List, [], ◌∷◌, ◌++◌, length, take, drop, refl, sym, ap, ◌∙◌, arith, length-append, length-drop, length-take-le, take-add}
use Rattle.std.proofs.lemmas.List.{take-append-drop}
use Rattle.std.proofs.lemmas.List.Folds.{list_all-append}
use Rattle.krb_der.proofs.Lanes.{last_of}
use Rattle.krb_record.specs.inner.Strings.{is_plain_in}
use Rattle.std.proofs.lemmas.Bool.Decides.{nat_tests}
use Rattle.std.proofs.lemmas.Simd.{pick_l_whole}
use Rattle.std.specs.List.{list_all, list_any, range_with_len}
use lib.Lanes.{pick_l}

-- ---- plain octets
or-true : (b : Bool) → (b || true) ≡ true
or-true true = refl
or-true false = refl

swapped : (a b c d : Bool) → ((a || b) || (c || d)) ≡ ((a || c) || (b || d))
swapped false b true d = or-true b
swapped other b another d = refl

-- an element passes one test or the other
any_or : {X : Type 0} (p q : X → Bool) (xs : List X) → (list_any p xs || list_any q xs) ≡ list_any (λ x. p x || q x) xs
any_or p q [] = refl
any_or p q (x ∷ xs) = swapped (p x) (list_any p xs) (q x) (list_any q xs) ∙ ap (λ rest. (p x || q x) || rest) (any_or p q xs)

not-or : (a b : Bool) → not (a || b) ≡ (not a && not b)
not-or true b = refl
not-or false b = refl

-- none passes a test
none_is_all : {X : Type 0} (p q : X → Bool) → ((x : X) → not (p x) ≡ q x) → (xs : List X) → not (list_any p xs) ≡ list_all q xs
none_is_all p q same [] = refl
none_is_all p q same (x ∷ xs) = not-or (p x) (list_any p xs) ∙ (λ i. same x i && none_is_all p q same xs i)

abbrev is_escaped : ℕ → Bool
is_escaped one = (((nat_lt one 33 || nat_lt 126 one) || nat_eq one 47) || nat_eq one 64) || nat_eq one 92

any_escaped : List ℕ → Bool
any_escaped xs = (((list_any (λ one. nat_lt one 33) xs || list_any (λ one. nat_lt 126 one) xs) || list_any (λ one. nat_eq one 47) xs) || list_any (λ one. nat_eq one 64) xs) || list_any (λ one. nat_eq one 92) xs

escaped_is : (xs : List ℕ) → any_escaped xs ≡ list_any is_escaped xs
unfolding any_escaped
escaped_is xs =
    rw (any_or (λ one. nat_lt one 33) (λ one. nat_lt 126 one) xs, any_or (λ one. nat_lt one 33 || nat_lt 126 one) (λ one. nat_eq one 47) xs, any_or (λ one. (nat_lt one 33 || nat_lt 126 one) || nat_eq one 47) (λ one. nat_eq one 64) xs, any_or (λ one. ((nat_lt one 33 || nat_lt 126 one) || nat_eq one 47) || nat_eq one 64) (λ one. nat_eq one 92) xs)
    refl

or-false : (b : Bool) → (b || false) ≡ b
or-false true = refl
or-false false = refl

pub all_plain_in : (in_json : Bool) (xs : List ℕ) → not (((((list_any (λ one. nat_lt one 33) xs || list_any (λ one. nat_lt 126 one) xs) || list_any (λ one. nat_eq one 47) xs) || list_any (λ one. nat_eq one 64) xs) || list_any (λ one. nat_eq one 92) xs) || (in_json && list_any (λ one. nat_eq one 34) xs)) ≡ list_all (is_plain_in in_json) xs
unfolding any_escaped
all_plain_in false xs = ap not (or-false (any_escaped xs) ∙ escaped_is xs) ∙ none_is_all is_escaped (is_plain_in false) in_lines xs
  where
    in_lines : (one : ℕ) → not (is_escaped one) ≡ is_plain_in false one
    in_lines one = grind (arith, nat_tests)
all_plain_in true xs =
    ap not (ap (λ some. some || list_any (λ one. nat_eq one 34) xs) (escaped_is xs) ∙ any_or is_escaped (λ one. nat_eq one 34) xs)
    ∙ none_is_all (λ one. is_escaped one || nat_eq one 34) (is_plain_in true) in_strings xs
  where
    in_strings : (one : ℕ) → not (is_escaped one || nat_eq one 34) ≡ is_plain_in true one
    in_strings one = grind (arith, nat_tests)

-- ---- the first and the last, which are all
and-twice : (a b c : Bool) → ((a && b) && (b && c)) ≡ (a && (b && c))
and-twice false b c = refl
and-twice true false c = refl
and-twice true true c = refl

pub ends_all : {X : Type 0} (p : X → Bool) (n k : ℕ) (xs : List X) → k ≤ n → (list_all p (take n xs) && list_all p (drop k xs)) ≡ list_all p xs
ends_all p n k xs few =
    let m : ℕ = n - k in
    let front : take n xs ≡ take k xs ++ take m (drop k xs) = ap (λ (l : ℕ). take l xs) (omega (arith, few)) ∙ take-add k m xs in
    let a = list_all p (take k xs) in
    let b = list_all p (take m (drop k xs)) in
    let c = list_all p (drop m (drop k xs)) in
    let first : list_all p (take n xs) ≡ (a && b) = ap (list_all p) front ∙ list_all-append p (take k xs) (take m (drop k xs)) in
    let last : list_all p (drop k xs) ≡ (b && c) = ap (list_all p) (sym (take-append-drop m (drop k xs))) ∙ list_all-append p (take m (drop k xs)) (drop m (drop k xs)) in
    let whole : list_all p xs ≡ (a && list_all p (drop k xs)) = ap (list_all p) (sym (take-append-drop k xs)) ∙ list_all-append p (take k xs) (drop k xs) in
    (λ i. first i && last i) ∙ and-twice a b c ∙ ap (λ (d : Bool). a && d) (sym last) ∙ sym whole

-- the first n octets and the last n, one after another in a vector
pub ends_picked : (n : ℕ) (xs : List ℕ) → n ≤ length xs → pick_l 0 (take n xs ++ take n (drop (length xs - n) xs)) (range_with_len 0 (n + n)) ≡ take n xs ++ drop (length xs - n) xs
ends_picked n xs many =
    let count : length (take n xs ++ take n (drop (length xs - n) xs)) ≡ n + n = omega (arith, length-append (take n xs) (take n (drop (length xs - n) xs)), length-take-le n xs many, ap length (last_of n xs many), length-drop (length xs - n) xs) in
    pick_l_whole 0 (take n xs ++ take n (drop (length xs - n) xs)) (n + n) count ∙ ap (λ l. take n xs ++ l) (last_of n xs many)

-- are all, if there are no more than n between
pub ends_plain : (p : ℕ → Bool) (n : ℕ) (xs : List ℕ) → n ≤ length xs → length xs ≤ n + n → list_all p (take n xs ++ drop (length xs - n) xs) ≡ list_all p xs
ends_plain p n xs many few = list_all-append p (take n xs) (drop (length xs - n) xs) ∙ ends_all p n (length xs - n) xs (omega (arith, many, few))
