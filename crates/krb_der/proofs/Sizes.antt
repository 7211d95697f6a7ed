-- How many octets items have.
use Rattle.std.proofs.Common.{◌≡◌, ℕ, ◌+◌, ◌-◌, ◌/◌, ◌%◌, ◌<◌, ◌≤◌, inl, inr, ℤ, pos, negsuc, List, [], ◌∷◌, ◌++◌, length, refl, sym, ap, ◌∙◌, arith, length-append}
use Rattle.std.proofs.lemmas.Bool.{cases_lt}
use Rattle.std.proofs.lemmas.List.{length-map, map_push}
use Rattle.krb_der.specs.Octets.{spelled, complement, integer_octets, item}
use Rattle.krb_der.specs.Sizes.{item_length, saturated, magnitude}
use Rattle.krb_der.specs.inner.Numbers.{spelled-step}
use Rattle.krb_der.specs.inner.Items.{length_octets-short, length_octets-long, length-item as length_of_item}

pub item_length-short : (n : ℕ) → n < 128 → item_length n ≡ n + 2
unfolding item_length
item_length-short n h = rw (length_octets-short n h) (omega arith)

pub item_length-long : (n : ℕ) → 128 ≤ n → item_length n ≡ n + 2 + length (spelled 256 n)
unfolding item_length
item_length-long n h = rw (length_octets-long n h) (omega arith)

pub item_length-ge : (n : ℕ) → n ≤ item_length n
unfolding item_length
item_length-ge n = omega arith

pub length-item : (tag : ℕ) (contents : List ℕ) → length (item tag contents) ≡ item_length (length contents)
unfolding item_length
length-item tag contents = length_of_item tag contents

pub complement-step : (n : ℕ) → 128 ≤ n → complement (spelled 128 n) ≡ complement (spelled 128 (n / 256)) ++ (255 - n % 256) ∷ []
complement-step n h = rw (spelled-step 128 n (omega arith) h) (map_push (λ octet. 255 - octet) (spelled 128 (n / 256)) (n % 256))

pub length-complement : (octets : List ℕ) → length (complement octets) ≡ length octets
length-complement octets = length-map octets (λ octet. 255 - octet)

pub length-integer_octets : (z : ℤ) → length (integer_octets z) ≡ length (spelled 128 (magnitude z))
length-integer_octets (pos n) = refl
length-integer_octets (negsuc n) = length-complement (spelled 128 n)

-- saturated contents make a saturated item
pub saturated-item_length : (n : ℕ) → saturated (item_length (saturated n)) ≡ saturated (item_length n)
saturated-item_length n =
    elim (cases_lt n 2147483648) [
      | inl h ↦ let e : saturated n ≡ n = omega arith in rw e
      | inr h ↦ let e : saturated n ≡ 2147483648 = omega arith in rw e (omega (arith, item_length-ge 2147483648, item_length-ge n))
    ]

pub saturated-item : (tag size of_item : ℕ) (contents : List ℕ) → size ≡ saturated (length contents) → of_item ≡ saturated (item_length size) → of_item ≡ saturated (length (item tag contents))
saturated-item tag size of_item contents e f =
    f ∙ ap (λ n. saturated (item_length n)) e ∙ saturated-item_length (length contents) ∙ ap saturated (sym (length-item tag contents))

-- the same of contents that are not saturated
pub exact-item : (tag size of_item : ℕ) (contents : List ℕ) → size ≡ length contents → of_item ≡ saturated (item_length size) → of_item ≡ saturated (length (item tag contents))
exact-item tag size of_item contents e f = f ∙ ap (λ n. saturated (item_length n)) e ∙ ap saturated (sym (length-item tag contents))

-- two parts, each saturated
pub saturated-append : (total size more : ℕ) (octets others : List ℕ) → total ≡ saturated (size + more) → size ≡ saturated (length octets) → more ≡ saturated (length others) → total ≡ saturated (length (octets ++ others))
saturated-append total size more octets others e f g = rw length-append (omega arith)
