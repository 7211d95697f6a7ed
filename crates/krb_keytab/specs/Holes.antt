-- Holes: the octets of a deleted entry of a keytab, which no key uses.
use Rattle.std.specs.Prelude.{ℕ, ◌^◌, ◌<◌, ◌≤◌, Bool}

-- The number of octets, and whether all of them are 00.
pub record HoleModel : Type 0 where
  pub size : ℕ
  pub clean : Bool

-- The sizes of holes: those whose negation is a number of 32 bits below 0.
abbrev pub IsHoleSize : ℕ → Type 0
IsHoleSize size = (0 < size) × (size ≤ 2 ^ 31)
