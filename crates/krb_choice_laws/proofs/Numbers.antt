-- Numbers are printable.
use Rattle.std.proofs.Common.{◌≡◌, ℕ, zero, suc, ◌+◌, ◌/◌, ◌%◌, ◌≤◌, ◌<◌, ◌==◌, true, false, cond, List, [], ◌∷◌, arith}
use Rattle.std.proofs.lemmas.Bool.Decides.{nat_tests}
use Rattle.std.specs.Fmt.{decimal, digit_glyph, digits, digits_onto}
use Rattle.krb_record.specs.Text.{IsPrintable}

glyph : (d : ℕ) → d < 10 → digit_glyph false d ≡ 48 + d
glyph d h = grind (arith, nat_tests)

digit : (n : ℕ) → (32 ≤ digit_glyph false (n % 10)) × (digit_glyph false (n % 10) ≤ 126)
digit n = let e = glyph (n % 10) (omega arith) in (omega arith, omega arith)

all-digits : (k n : ℕ) (after : List ℕ) → IsPrintable after → IsPrintable (digits_onto k 10 false n after)
all-digits zero n after h = h
all-digits (suc k) n after h =
    elim (n / 10 == 0) as (λ b. IsPrintable (cond b (digit_glyph false (n % 10) ∷ after) (digits_onto k 10 false (n / 10) (digit_glyph false (n % 10) ∷ after)))) [
      | true ↦ (digit n, h)
      | false ↦ all-digits k (n / 10) (digit_glyph false (n % 10) ∷ after) (digit n, h)
    ]

pub number : (n : ℕ) → IsPrintable (decimal n)
unfolding digits
number n = all-digits 64 n [] tt
