-- How many octets items have.
use Rattle.std.specs.Prelude.{ℕ, ◌+◌, ℤ, pos, negsuc, min, length}
use Rattle.krb_der.specs.Octets.{length_octets}

-- the octets of an item whose contents are n: the tag, the length and these (X.690 8.1.1)
unfoldable pub item_length : ℕ → ℕ
item_length contents = 1 + length (length_octets contents) + contents

-- a number of octets up to 2147483647, and 2147483648 for any greater one
abbrev pub saturated : ℕ → ℕ
saturated n = min n 2147483648

-- the number that the octets of an integer spell, or that their complements spell if it is negative
abbrev pub magnitude : ℤ → ℕ
magnitude (pos n) = n
magnitude (negsuc n) = n
