-- The first octets of a text that grows.
use Rattle.std.proofs.Common.{◌≡◌, ℕ, zero, suc, ◌+◌, ◌-◌, ◌≤◌, inl, inr, min, List, [], ◌∷◌, ◌++◌, length, take, refl, sym, ◌∙◌, ap, arith}
use Rattle.std.proofs.lemmas.Bool.{cases_lt}
use Rattle.std.proofs.lemmas.List.{take_all}
use Rattle.std.proofs.Math.Seq.{take-append-add}

-- `take` returns no more octets than there are
pub take-few : (count : ℕ) (octets : List ℕ) → take (min count (length octets)) octets ≡ take count octets
take-few count octets = elim (cases_lt (length octets) count) [
  | inl h ↦
      let m : length octets ≤ min count (length octets) = omega (arith, h) in
      take_all (min count (length octets)) octets m ∙ sym (take_all count octets (omega (arith, h)))
  | inr h ↦ let m : min count (length octets) ≡ count = omega (arith, h) in ap (λ n. take n octets) m
]

-- those of its first octets and of what follows
pub first-both : (n : ℕ) (text more : List ℕ) → take n (take n text ++ more) ≡ take n (text ++ more)
first-both zero text more = refl
first-both (suc n) [] more = refl
first-both (suc n) (x ∷ text) more = ap (λ l. x ∷ l) (first-both n text more)

-- with as many of those that follow as there is room for
pub first-kept : (n : ℕ) (kept more : List ℕ) (count : ℕ) → length kept ≤ n → count ≡ min (length more) (n - length kept) → kept ++ take count more ≡ take n (kept ++ more)
first-kept n kept more count few is =
    let room : length kept + (n - length kept) ≡ n = omega (arith, few) in
    let least : count ≡ min (n - length kept) (length more) = omega (arith, is) in
    ap (λ k. kept ++ take k more) least
    ∙ ap (λ l. kept ++ l) (take-few (n - length kept) more)
    ∙ sym (take-append-add kept more (n - length kept))
    ∙ ap (λ k. take k (kept ++ more)) room
