-- Sequence numbers, which are counted modulo 2^32: serial numbers of 32 bits (RFC 1982; RFC 9293, 3.4).
use Rattle.std.specs.Prelude.{◌≡◌, ℕ, ◌+◌, ◌-◌, ◌%◌, ◌^◌, ◌<◌, ◌≤◌, nat_lt}
use Rattle.krb_der.specs.Octets.{when}
use Rattle.krb_flow.specs.declared.serial.Distance.{Distance}
use Rattle.krb_flow.specs.declared.serial.Distance.TheVariants.{Ahead, Behind}

-- how many numbers after a first one a second one comes
abbrev pub from_to : ℕ → ℕ → ℕ
from_to first second = (second + (2 ^ 32 - first)) % 2 ^ 32

-- The distance of a number from the one that is expected: the shorter way round, after it if that is less than 2^31, and else before it.
abbrev pub distance : ℕ → ℕ → Distance
distance expected number = when (nat_lt (from_to expected number) (2 ^ 31)) (λ _. Ahead (from_to expected number)) (λ _. Behind (from_to number expected))

-- what a distance says of two numbers, as a sum
abbrev pub Separates : ℕ → ℕ → Distance → Type 0
Separates expected number (Ahead count) = (count < 2 ^ 31) × (number ≡ (expected + count) % 2 ^ 32)
Separates expected number (Behind count) = (0 < count) × (count ≤ 2 ^ 31) × (expected ≡ (number + count) % 2 ^ 32)

-- how many numbers after the one that is expected, and how many before it
abbrev pub ahead : Distance → ℕ
ahead (Ahead count) = count
ahead (Behind count) = 0

abbrev pub behind : Distance → ℕ
behind (Ahead count) = 0
behind (Behind count) = count
