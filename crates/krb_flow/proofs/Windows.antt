-- The last octets of a list: those of what is kept of it, and what follows.
use Rattle.std.proofs.Common.{◌≡◌, ℕ, zero, suc, ◌+◌, ◌-◌, ◌<◌, ◌≤◌, ◌⊎◌, inl, inr, List, [], ◌∷◌, ◌++◌, length, take, drop, refl, sym, ap, ◌∙◌, arith, append-nil, append_assoc, length-append, length-drop}
use Rattle.std.proofs.Math.Seq.{drop-append-add}
use Rattle.std.proofs.lemmas.Bool.{cases_lt}
use Rattle.std.proofs.lemmas.List.{take-append-drop}
use Rattle.krb_flow.specs.Window.{last}

-- all, if there are no more
last_few : (n : ℕ) (xs : List ℕ) → length xs ≤ n → last n xs ≡ xs
last_few n xs few = ap (λ (k : ℕ). drop k xs) (let e : length xs - n ≡ 0 = omega arith in e)

-- those of the last part, if that has so many
last_of_more : (n : ℕ) (xs ys : List ℕ) → n ≤ length ys → last n (xs ++ ys) ≡ last n ys
last_of_more n xs ys enough =
    ap (λ (k : ℕ). drop k (xs ++ ys)) (let e : length (xs ++ ys) - n ≡ length xs + (length ys - n) = omega (arith, length-append xs ys) in e)
    ∙ drop-append-add xs ys (length ys - n)

length-last : (n : ℕ) (xs : List ℕ) → n ≤ length xs → length (last n xs) ≡ n
length-last n xs enough = omega (arith, length-drop (length xs - n) xs)

-- what is before the last ones does not count
pub last-kept : (n : ℕ) (xs ys : List ℕ) → last n (last n xs ++ ys) ≡ last n (xs ++ ys)
last-kept n xs ys = by (cases_lt (length xs) n)
  where
    more : n ≤ length xs → last n (last n xs ++ ys) ≡ last n (xs ++ ys)
    more enough =
        let whole = take-append-drop (length xs - n) xs in
        let here : length (last n xs) ≡ n = length-last n xs enough in
        sym (last_of_more n (take (length xs - n) xs) (last n xs ++ ys) (omega (arith, here, length-append (last n xs) ys)))
        ∙ ap (last n) (sym (append_assoc (take (length xs - n) xs) (last n xs) ys) ∙ ap (λ (l : List ℕ). l ++ ys) whole)

    by : (length xs < n) ⊎ (n ≤ length xs) → last n (last n xs ++ ys) ≡ last n (xs ++ ys)
    by (inl few) = ap (λ (l : List ℕ). last n (l ++ ys)) (last_few n xs (omega arith))
    by (inr enough) = more enough

-- and neither does what is before the last ones of what follows
pub last-then : (n : ℕ) (xs ys : List ℕ) → last n (xs ++ last n ys) ≡ last n (xs ++ ys)
last-then n xs ys = by (cases_lt (length ys) n)
  where
    by : (length ys < n) ⊎ (n ≤ length ys) → last n (xs ++ last n ys) ≡ last n (xs ++ ys)
    by (inl few) = ap (λ (l : List ℕ). last n (xs ++ l)) (last_few n ys (omega arith))
    by (inr enough) =
        let here : length (last n ys) ≡ n = length-last n ys enough in
        last_of_more n xs (last n ys) (omega (arith, here))
        ∙ last_few n (last n ys) (omega (arith, here))
        ∙ sym (last_of_more n xs ys enough)

-- fewer of the last ones
pub last-fewer : (n m : ℕ) (xs : List ℕ) → m ≤ n → last m (last n xs) ≡ last m xs
last-fewer n m xs le = by (cases_lt (length xs) n)
  where
    more : n ≤ length xs → last m (last n xs) ≡ last m xs
    more enough =
        let here : length (last n xs) ≡ n = length-last n xs enough in
        sym (last_of_more m (take (length xs - n) xs) (last n xs) (omega (arith, here)))
        ∙ ap (last m) (take-append-drop (length xs - n) xs)

    by : (length xs < n) ⊎ (n ≤ length xs) → last m (last n xs) ≡ last m xs
    by (inl few) = ap (last m) (last_few n xs (omega arith))
    by (inr enough) = more enough

pub last-nil : (n : ℕ) → last n [] ≡ []
last-nil n = last_few n [] (omega arith)

-- what is kept, and then some more twice
pub last-twice : (n : ℕ) (kept xs ys : List ℕ) → last n (last n (kept ++ xs) ++ ys) ≡ last n (kept ++ (xs ++ ys))
last-twice n kept xs ys = last-kept n (kept ++ xs) ys ∙ ap (last n) (append_assoc kept xs ys)

-- what is pushed after what is kept, of which what came before may be let go
pub pushed : (n : ℕ) (old octets : List ℕ) → last n (old ++ last n octets) ≡ last n (last n old ++ octets)
pushed n old octets = last-then n old octets ∙ sym (last-kept n old octets)

pub pushed_after : (n : ℕ) (old octets : List ℕ) → last n (last n old ++ last n octets) ≡ last n (last n old ++ octets)
pushed_after n old octets = last-then n (last n old) octets

-- ---- lists whose last octets are the same

pub last_same : (n m : ℕ) (xs ys : List ℕ) → m ≤ n → last n xs ≡ last n ys → last m xs ≡ last m ys
last_same n m xs ys le e = sym (last-fewer n m xs le) ∙ ap (last m) e ∙ last-fewer n m ys le

pub last_more : (n : ℕ) (kept stream more : List ℕ) → kept ≡ last n stream → last n (kept ++ more) ≡ last n (stream ++ more)
last_more n kept stream more e = ap (λ (l : List ℕ). last n (l ++ more)) e ∙ last-kept n stream more
