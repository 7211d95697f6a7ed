-- The contents of a frame, its length, and a frame as octets.
use Rattle.std.specs.Prelude.{ℕ, ◌^◌, ◌/◌, ◌%◌, ◌==◌, nat_le, nat_lt, if◌then◌else◌, List, [], ◌∷◌, ◌++◌, length, Option, Some, None}
use Rattle.krb_der.specs.declared.why.Why.{Why}
use Rattle.krb_der.specs.declared.why.Why.TheVariants as why

-- why a length is refused, if it is (RFC 4120, 7.2.2)
abbrev pub length_fault : ℕ → ℕ → Option Why
length_fault limit size =
    if nat_le (2 ^ 31) size then Some why.HighBit
    else if nat_lt limit size then Some why.TooLong
    else if size == 0 then Some why.Empty
    else None

-- the four octets of a frame's length, the highest first
abbrev pub frame_length : ℕ → List ℕ
frame_length n = n / 16777216 ∷ n / 65536 % 256 ∷ n / 256 % 256 ∷ n % 256 ∷ []

-- octets after their number
abbrev pub framed : List ℕ → List ℕ
framed octets = frame_length (length octets) ++ octets
