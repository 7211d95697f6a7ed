-- Steps of the loops over the octets that spell a number.
use Rattle.std.proofs.Common.{◌≡◌, ℕ, ◌+◌, ◌-◌, ◌*◌, ◌^◌, ◌<◌, ◌≤◌, List, ◌∷◌, length, drop, get_or, sym, ap, ◌∙◌, arith, add-one}
use Rattle.std.proofs.Math.Seq.{drop-cons}
use Rattle.std.proofs.Math.Nat.{pow-le-pow_right}
use Rattle.std.proofs.lemmas.Grind.{pow_more}
use Rattle.std.proofs.lemmas.List.{drop_all}
use Rattle.krb_der.specs.Octets.{number_from, complement}

pub next_octet : (octets : List ℕ) (k : ℕ) → k < length octets → drop k octets ≡ get_or octets k 0 ∷ drop (k + 1) octets
next_octet octets k h = drop-cons octets k 0 h ∙ ap (λ j. get_or octets k 0 ∷ drop j octets) (sym (add-one k))

pub number-next : (octets : List ℕ) (k high : ℕ) → k < length octets → number_from high (drop k octets) ≡ number_from (high * 256 + get_or octets k 0) (drop (k + 1) octets)
number-next octets k high h = ap (number_from high) (next_octet octets k h)

pub complement-next : (octets : List ℕ) (k high : ℕ) → k < length octets → number_from high (complement (drop k octets)) ≡ number_from (high * 256 + (255 - get_or octets k 0)) (complement (drop (k + 1) octets))
complement-next octets k high h = ap (λ l. number_from high (complement l)) (next_octet octets k h)

pub number-end : (octets : List ℕ) (k high : ℕ) → length octets ≤ k → number_from high (drop k octets) ≡ high
number-end octets k high h = ap (number_from high) (drop_all k octets h)

pub complement-end : (octets : List ℕ) (k high : ℕ) → length octets ≤ k → number_from high (complement (drop k octets)) ≡ high
complement-end octets k high h = ap (λ l. number_from high (complement l)) (drop_all k octets h)

pub small-next : (k high octet : ℕ) → high < 256 ^ k → octet < 256 → high * 256 + octet < 256 ^ (k + 1)
small-next k high octet h o = omega (arith, pow_more 256 k)

pub small : (k j high : ℕ) → k ≤ j → high < 256 ^ k → high < 256 ^ j
small k j high l h = omega (arith, pow-le-pow_right {n = 256} (omega arith) l)
