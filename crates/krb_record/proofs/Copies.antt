-- Octets that are copied over others.
use Rattle.std.proofs.Common.{◌≡◌, ℕ, ◌+◌, ◌-◌, ◌≤◌, List, ◌++◌, length, take, drop, sym, ap, ◌∙◌, arith, append_assoc}
use Rattle.std.proofs.lemmas.List.{drop-take, length-drop, length-take-le, take-append-drop, take-append-le, take-take, take_rest}
use Rattle.std.proofs.lemmas.List.Edits.{take-paste}
use Rattle.std.proofs.Math.Seq.{drop-append_seam, paste, take-append-add}

-- the first k of n octets that are copied
first_copied : (place n k : ℕ) (old first octets : List ℕ) → place ≤ length old → k ≤ n
    → take (place + n) first ≡ take place old ++ take n octets
    → take (place + k) first ≡ take place old ++ take k octets
first_copied place n k old first octets within few copied =
    sym (take-take (place + k) (place + n) first (omega arith))
    ∙ ap (take (place + k)) copied
    ∙ ap (λ (m : ℕ). take (m + k) (take place old ++ take n octets)) (sym (length-take-le place old within))
    ∙ take-append-add (take place old) (take n octets) k
    ∙ ap (λ (xs : List ℕ). take place old ++ xs) (take-take k n octets few)

-- the first n octets are copied, and then the n after the first k, which are the last
pub ends_copied : (place n k : ℕ) (old first last octets : List ℕ) → place ≤ length old → k ≤ n → length octets ≡ k + n
    → take (place + n) first ≡ take place old ++ take n octets
    → take (place + k + n) last ≡ take (place + k) first ++ take n (drop k octets)
    → take (place + length octets) last ≡ take place old ++ octets
ends_copied place n k old first last octets within few all copied others =
    let count : n ≡ length octets - k = omega (arith, all) in
    let back : take n (drop k octets) ≡ drop k octets = ap (λ (m : ℕ). take m (drop k octets)) count ∙ take_rest octets k in
    let end : place + length octets ≡ place + k + n = omega (arith, all) in
    ap (λ (m : ℕ). take m last) end
    ∙ others
    ∙ ap (λ (xs : List ℕ). take (place + k) first ++ xs) back
    ∙ ap (λ (xs : List ℕ). xs ++ drop k octets) (first_copied place n k old first octets within few copied)
    ∙ append_assoc (take place old) (take k octets) (drop k octets)
    ∙ ap (λ (xs : List ℕ). take place old ++ xs) (take-append-drop k octets)

-- octets from a place on are moved, and others are put before them
pub put_between : (used place : ℕ) (old moved new : List ℕ) → place ≤ used → used + length new ≤ length old → moved ≡ paste old (place + length new) (drop place old) (used - place)
    → take (used + length new) (take place moved ++ (new ++ drop (place + length new) moved)) ≡ take place (take used old) ++ (new ++ drop place (take used old))
put_between used place old moved new at fits is =
    let n = length new in
    let rest = take (used - place) (drop place old) in
    let all : take (place + n + (used - place)) moved ≡ take (place + n) old ++ rest = ap (take (place + n + (used - place))) is ∙ take-paste old (place + n) (drop place old) (used - place) (omega (arith, fits, at)) (omega (arith, length-drop place old, fits)) in
    let front : length (take (place + n) old) ≡ place + n = length-take-le (place + n) old (omega (arith, fits, at)) in
    let before : take place moved ≡ take place old = sym (take-take place (place + n + (used - place)) moved (omega arith)) ∙ ap (take place) all ∙ take-append-le place (take (place + n) old) rest (omega (arith, front)) ∙ take-take place (place + n) old (omega arith) in
    let after : take (used - place) (drop (place + n) moved) ≡ rest = sym (drop-take (place + n) (used - place) moved) ∙ ap (drop (place + n)) all ∙ ap (λ (m : ℕ). drop m (take (place + n) old ++ rest)) (sym front) ∙ drop-append_seam (take (place + n) old) rest in
    let same : rest ≡ drop place (take used old) = sym (drop-take place (used - place) old) ∙ ap (λ (m : ℕ). drop place (take m old)) (omega (arith, at)) in
    let size : used + n ≡ length (take place old) + (n + (used - place)) = omega (arith, length-take-le place old (omega (arith, fits, at)), at) in
    ap (λ (xs : List ℕ). take (used + n) (xs ++ (new ++ drop (place + n) moved))) before
    ∙ ap (λ (m : ℕ). take m (take place old ++ (new ++ drop (place + n) moved))) size
    ∙ take-append-add (take place old) (new ++ drop (place + n) moved) (n + (used - place))
    ∙ ap (λ (xs : List ℕ). take place old ++ xs) (take-append-add new (drop (place + n) moved) (used - place) ∙ ap (λ (xs : List ℕ). new ++ xs) (after ∙ same))
    ∙ ap (λ (xs : List ℕ). xs ++ (new ++ drop place (take used old))) (sym (take-take place used old at))
