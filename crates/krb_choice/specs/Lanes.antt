-- Octets that are looked at many at once.
use Rattle.std.specs.Prelude.{ℕ, ◌==◌, nat_lt, not, Bool, if◌then◌else◌}
use Rattle.std.specs.Int.{trailing_zeros, w64}

-- an octet that is no mark
abbrev pub is_text : ℕ → Bool
is_text octet = not (nat_lt octet 32)

-- the place of the lowest bit that is set, or n
abbrev pub first_set : (mask n : ℕ) → ℕ
first_set mask n = if mask == 0 then n else trailing_zeros w64 mask
