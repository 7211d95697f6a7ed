-- Octets that are looked at many at a time.
use Rattle.std.proofs.Common.{◌≡◌, ℕ, ◌+◌, ◌*◌, ◌^◌, ◌%◌, ◌-◌, ◌≤◌, Bool, true, false, not, ◌||◌, nat_eq, List, [], ◌∷◌, ◌++◌, map, length, take, drop, refl, sym, ap, ◌∙◌, arith, take-add, w8}
use Rattle.std.proofs.lemmas.List.{take-append-drop, take_rest}
use Rattle.std.proofs.lemmas.List.Folds.{list_any-append}
use Rattle.std.proofs.lemmas.Bool.Decides.{nat_tests}
use Rattle.std.proofs.lemmas.Simd.{bitmask_splat}
use Rattle.std.specs.List.{list_any}
use mathlib.Core.Bool.{cond}
use lib.Lanes.{mask_l, zip2, top}
use lib.ListN.{replicate}

odd : (m : ℕ) → not (nat_eq (1 + 2 * m) 0) ≡ true
odd m = grind (arith, nat_tests)

even : (m : ℕ) → nat_eq (0 + 2 * m) 0 ≡ nat_eq m 0
even m = grind (arith, nat_tests)

-- a mask is 0 exactly if no lane is set
any_mask : {X : Type 0} (p : X → Bool) (xs : List X) → not (nat_eq (mask_l (map p xs)) 0) ≡ list_any p xs
any_mask p [] = refl
any_mask p (x ∷ xs) = by (p x) (any_mask p xs)
  where
    by : (b : Bool) → not (nat_eq (mask_l (map p xs)) 0) ≡ list_any p xs → not (nat_eq (cond b 1 0 + 2 * mask_l (map p xs)) 0) ≡ (b || list_any p xs)
    by true rest = odd (mask_l (map p xs))
    by false rest = ap not (even (mask_l (map p xs))) ∙ rest

pub any_lane : (t : ℕ → ℕ → Bool) (n : ℕ) (xs : List ℕ) (y : ℕ) → length xs ≡ n → n ≤ 64
    → not (nat_eq (mask_l (map (top 7) (zip2 (λ a b. cond (t a b) 255 0) xs (replicate n y))) % 2 ^ 64) 0) ≡ list_any (λ x. t x y) xs
any_lane t n xs y count few = ap (λ m. not (nat_eq m 0)) (bitmask_splat w8 t xs n y count few) ∙ any_mask (λ x. t x y) xs

-- the same where the tests have the octets on the right
pub any_lane_right : (t : ℕ → ℕ → Bool) (n : ℕ) (xs : List ℕ) (y : ℕ) → length xs ≡ n → n ≤ 64
    → not (nat_eq (mask_l (map (top 7) (zip2 (λ a b. cond (t a b) 255 0) (replicate n y) xs)) % 2 ^ 64) 0) ≡ list_any (λ x. t y x) xs
any_lane_right t n xs y count few =
    ap (λ (l : List ℕ). not (nat_eq (mask_l (map (top 7) l) % 2 ^ 64) 0)) (turned xs (replicate n y))
    ∙ any_lane (λ a b. t b a) n xs y count few
  where
    turned : (xs ys : List ℕ) → zip2 {C = ℕ} (λ a b. cond (t a b) 255 0) ys xs ≡ zip2 {C = ℕ} (λ a b. cond (t b a) 255 0) xs ys
    turned [] [] = refl
    turned [] (y ∷ ys) = refl
    turned (x ∷ xs) [] = refl
    turned (x ∷ xs) (y ∷ ys) = ap (λ (l : List ℕ). cond (t y x) 255 0 ∷ l) (turned xs ys)

-- ---- the first and the last, which are all
or-twice : (a b c : Bool) → ((a || b) || (b || c)) ≡ (a || (b || c))
or-twice true b c = refl
or-twice false true c = refl
or-twice false false c = refl

pub ends_any : {X : Type 0} (p : X → Bool) (n k : ℕ) (xs : List X) → k ≤ n → (list_any p (take n xs) || list_any p (drop k xs)) ≡ list_any p xs
ends_any p n k xs few =
    let m : ℕ = n - k in
    let front : take n xs ≡ take k xs ++ take m (drop k xs) = ap (λ (l : ℕ). take l xs) (omega (arith, few)) ∙ take-add k m xs in
    let a = list_any p (take k xs) in
    let b = list_any p (take m (drop k xs)) in
    let c = list_any p (drop m (drop k xs)) in
    let first : list_any p (take n xs) ≡ (a || b) = ap (list_any p) front ∙ list_any-append p (take k xs) (take m (drop k xs)) in
    let last : list_any p (drop k xs) ≡ (b || c) = ap (list_any p) (sym (take-append-drop m (drop k xs))) ∙ list_any-append p (take m (drop k xs)) (drop m (drop k xs)) in
    let whole : list_any p xs ≡ (a || list_any p (drop k xs)) = ap (list_any p) (sym (take-append-drop k xs)) ∙ list_any-append p (take k xs) (drop k xs) in
    (λ i. first i || last i) ∙ or-twice a b c ∙ ap (λ (d : Bool). a || d) (sym last) ∙ sym whole

-- the last n octets
pub last_of : (n : ℕ) (xs : List ℕ) → n ≤ length xs → take n (drop (length xs - n) xs) ≡ drop (length xs - n) xs
last_of n xs many = ap (λ (m : ℕ). take m (drop (length xs - n) xs)) (omega (arith, many)) ∙ take_rest xs (length xs - n)
