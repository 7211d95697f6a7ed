-- The greatest lengths of the parts of a file.
use Rattle.std.specs.Prelude.{ℕ, ◌+◌, ◌^◌, Bool, nat_lt, min, List, length}

-- too many for a number of 16 bits
abbrev pub is_long16 : {A : Type 0} → List A → Bool
is_long16 xs = nat_lt 65535 (length xs)

-- too many for a number of 32 bits
abbrev pub is_long32 : {A : Type 0} → List A → Bool
is_long32 xs = nat_lt 4294967295 (length xs)

-- the greatest number of octets of a file that is written
abbrev pub greatest : ℕ
greatest = 2 ^ 40

-- a number of octets, or `greatest + 1` if it is more
abbrev pub capped : ℕ → ℕ
capped size = min size (greatest + 1)
