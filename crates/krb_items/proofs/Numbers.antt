-- Numbers of an OBJECT IDENTIFIER of more than 64 bits.
use Rattle.std.proofs.Common.{◌≡◌, ℕ, ◌+◌, ◌-◌, ◌*◌, ◌^◌, ◌≤◌, Bool, true, false, ◌&&◌, ◌==◌, List, [], ◌∷◌, ◌++◌, refl, ap, ◌∙◌, arith}
use Rattle.std.specs.Prelude.{nat_lt, if◌then◌else◌}
use Rattle.std.specs.List.{list_all}
use Rattle.std.proofs.lemmas.Bool.Decides.{nat_tests}
use Rattle.std.proofs.lemmas.List.Folds.{list_all-append}
use Rattle.krb_items.specs.Records.{numbers_in}

abbrev are_few : List ℕ → Bool
are_few numbers = list_all (λ number. nat_lt number (2 ^ 64)) numbers

first-wide : (number : ℕ) (numbers : List ℕ) → 2 ^ 64 ≤ number → are_few (number ∷ numbers) ≡ false
first-wide number numbers wide = let test : nat_lt number (2 ^ 64) ≡ false = grind (arith, nat_tests) in rw test refl

either : (test : Bool) (a b : List ℕ) → are_few a ≡ false → are_few b ≡ false → are_few (if test then a else b) ≡ false
either true a b h k = h
either false a b h k = k

-- a part of one makes it as great
part-wide : (part : ℕ) (octets : List ℕ) → 2 ^ 64 ≤ part → are_few (numbers_in part octets) ≡ false
part-wide part [] wide = let test : (part == 0) ≡ false = grind (arith, nat_tests) in rw test (first-wide part [] wide)
part-wide part (octet ∷ octets) wide =
    either (nat_lt octet 0x80) _ _ (first-wide (part * 128 + octet) (numbers_in 0 octets) (omega (arith, wide))) (part-wide (part * 128 + (octet - 0x80)) octets (omega (arith, wide)))

next-wide : (part octet : ℕ) (octets : List ℕ) → 2 ^ 64 ≤ part * 128 → are_few (numbers_in part (octet ∷ octets)) ≡ false
next-wide part octet octets wide =
    either (nat_lt octet 0x80) _ _ (first-wide (part * 128 + octet) (numbers_in 0 octets) (omega (arith, wide))) (part-wide (part * 128 + (octet - 0x80)) octets (omega (arith, wide)))

-- and those before it change nothing of that
pub numbers-wide : (octets left numbers : List ℕ) (part octet : ℕ) (others : List ℕ) → numbers_in 0 octets ≡ numbers ++ numbers_in part left → left ≡ octet ∷ others → 2 ^ 64 ≤ part * 128 → list_all (λ number. nat_lt number (2 ^ 64)) numbers ≡ true
    → list_all (λ number. nat_lt number (2 ^ 64)) (numbers_in 0 octets) ≡ false
numbers-wide octets left numbers part octet others are is wide few =
    ap are_few are ∙ list_all-append (λ number. nat_lt number (2 ^ 64)) numbers (numbers_in part left) ∙ ap (λ a. a && are_few (numbers_in part left)) few
    ∙ ap (λ rest. are_few (numbers_in part rest)) is ∙ next-wide part octet others wide
