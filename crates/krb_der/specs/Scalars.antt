-- The ranges and shapes of the scalars.
use Rattle.std.specs.Prelude.{ℕ, zero, suc, ℤ, pos, negsuc, ◌-◌, ◌/◌, ◌%◌, ◌^◌, ◌≡◌, ◌≤◌, ◌≤ℤ◌, Bool, eqb, List, [], ◌∷◌, slice_index}

-- from -2147483648 to 2147483647 (RFC 4120, 5.2.4)
abbrev pub IsInt32 : ℤ → Type 0
IsInt32 number = (negsuc 2147483647 ≤ℤ number) × (number ≤ℤ pos 2147483647)

-- from -2147483648 to 4294967295
abbrev pub IsWide32 : ℤ → Type 0
IsWide32 number = (negsuc 2147483647 ≤ℤ number) × (number ≤ℤ pos 4294967295)

-- microseconds within a second (RFC 4120, 5.2.4)
abbrev pub IsMicros : ℕ → Type 0
IsMicros number = number ≤ 999999

-- n digits and a Z; a KerberosTime has fourteen (RFC 4120, 5.2.3)
abbrev pub IsTimeFrom : ℕ → List ℕ → Type 0
IsTimeFrom zero (last ∷ []) = last ≡ 90
IsTimeFrom (suc digits) (digit ∷ octets) = (48 ≤ digit) × (digit ≤ 57) × IsTimeFrom digits octets
IsTimeFrom digits octets = ⊥

-- Whether the bit at an index is set. Bit 0 is the high bit of the first octet (X.690, 8.6.2).
abbrev pub has_bit : List ℕ → ℕ → Bool
has_bit octets index = eqb (slice_index octets (index / 8) / 2 ^ (7 - index % 8) % 2) 1
