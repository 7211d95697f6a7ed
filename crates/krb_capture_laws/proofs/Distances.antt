-- Distances of sequence numbers: the one that separates two of them.
use Rattle.std.proofs.Common.{◌≡◌, ℕ, ◌+◌, ◌%◌, ◌^◌, ◌<◌, ◌≤◌, Bool, true, false, refl, ap, arith}
use Rattle.std.specs.Prelude.{nat_lt}
use Rattle.std.proofs.lemmas.Bool.{ltb-true, ltb-false, lt-ltb, le-ltb}
use Rattle.krb_der.specs.Octets.{when}
use Rattle.krb_flow.specs.declared.serial.Distance.{Distance}
use Rattle.krb_flow.specs.declared.serial.Distance.TheVariants.{Ahead, Behind}
use Rattle.krb_flow.specs.Serial.{from_to, Separates, distance}

separates_by : (expected number : ℕ) → expected < 2 ^ 32 → number < 2 ^ 32 → (is_ahead : Bool) → nat_lt (from_to expected number) (2 ^ 31) ≡ is_ahead → Separates expected number (when is_ahead (λ _. Ahead (from_to expected number)) (λ _. Behind (from_to number expected)))
separates_by expected number small fits true is = let ahead : from_to expected number < 2 ^ 31 = ltb-true _ _ is in (ahead, omega arith)
separates_by expected number small fits false is = let behind : 2 ^ 31 ≤ from_to expected number = ltb-false _ _ is in (omega arith, omega arith, omega arith)

pub separates : (expected number : ℕ) → expected < 2 ^ 32 → number < 2 ^ 32 → Separates expected number (distance expected number)
separates expected number small fits = separates_by expected number small fits _ refl

ahead_is : (expected number count : ℕ) → expected < 2 ^ 32 → number < 2 ^ 32 → count < 2 ^ 31 → number ≡ (expected + count) % 2 ^ 32 → count ≡ from_to expected number
ahead_is expected number count small fits near is = omega arith

behind_is : (expected number count : ℕ) → expected < 2 ^ 32 → number < 2 ^ 32 → 0 < count → count ≤ 2 ^ 31 → expected ≡ (number + count) % 2 ^ 32 → (count ≡ from_to number expected) × (2 ^ 31 ≤ from_to expected number)
behind_is expected number count small fits some near is = (omega arith, omega arith)

pub only_one : (expected number : ℕ) → expected < 2 ^ 32 → number < 2 ^ 32 → (other : Distance) → Separates expected number other → other ≡ distance expected number
only_one expected number small fits (Ahead count) by =
    let same : count ≡ from_to expected number = ahead_is expected number count small fits by.0 by.1 in
    let near : from_to expected number < 2 ^ 31 = omega arith in
    rw (lt-ltb (from_to expected number) (2 ^ 31) near) (ap Ahead same)
only_one expected number small fits (Behind count) by =
    let same = behind_is expected number count small fits by.0 by.1 by.2 in
    rw (le-ltb (from_to expected number) (2 ^ 31) same.1) (ap Behind same.0)
