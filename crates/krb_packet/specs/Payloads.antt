-- Octets of a packet, and the fields of headers in them. Numbers are big-endian.
use Rattle.std.specs.Prelude.{ℕ, ◌+◌, ◌-◌, nat_lt, Option, Some, None, List, length, take, drop}
use Rattle.std.specs.Int.{Width, w8, w16, w32, byte_len, from_be_bytes}
use Rattle.krb_der.specs.Octets.{when}

-- The octets that were captured of a packet, or of what is in one, and how many there are on the wire.
pub record Captured : Type 0 where
  pub octets : List ℕ
  pub size : ℕ

-- nothing can be read that needs a field which was not captured
infixl 10 ◌>>=◌
abbrev pub ◌>>=◌ : {A B : Type 0} → Option A → (A → Option B) → Option B
None >>= next = None
(Some value) >>= next = next value

-- the field of n octets after `at` others
unfoldable pub field : ℕ → ℕ → Captured → Option (List ℕ)
field size at payload = when (nat_lt (length payload.octets) (at + size)) (λ _. None) (λ _. Some (take size (drop at payload.octets)))

abbrev number : Width → ℕ → Captured → Option ℕ
number width at payload = do
  octets ← field (byte_len width) at payload
  Some (from_be_bytes width octets)

unfoldable pub number8 : ℕ → Captured → Option ℕ
number8 = number w8

unfoldable pub number16 : ℕ → Captured → Option ℕ
number16 = number w16

unfoldable pub number32 : ℕ → Captured → Option ℕ
number32 = number w32

-- what follows a header of n octets
unfoldable pub after : ℕ → Captured → Option Captured
after size payload = when (nat_lt (length payload.octets) size) (λ _. None) (λ _. Some (record { octets = drop size payload.octets; size = payload.size - size }))

-- what follows the first n octets on the wire, which need not be captured
unfoldable pub beyond : ℕ → Captured → Option Captured
beyond size payload = when (nat_lt payload.size size) (λ _. None) (λ _. Some (record { octets = drop size payload.octets; size = payload.size - size }))

-- the same, and nothing if there are fewer
unfoldable pub past : ℕ → Captured → Captured
past size payload = record { octets = drop size payload.octets; size = payload.size - size }

-- its first n octets
unfoldable pub within : ℕ → Captured → Captured
within size payload = record { octets = take size payload.octets; size = size }
