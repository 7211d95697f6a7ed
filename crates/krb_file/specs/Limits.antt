-- Fields of octets that are longer than a limit, by the numbers of a file that announce them.
use Rattle.std.specs.Prelude.{ℕ, ◌-◌, List, take, drop}
use Rattle.std.specs.Int.{Width, byte_len, from_be_bytes}

-- the number in the octets from a place on
abbrev pub number_from : Width → List ℕ → ℕ → ℕ
number_from width file place = from_be_bytes width (take (byte_len width) (drop place file))

-- the number in the octets before a place, which announces how many octets a field there has
abbrev pub number_before : Width → List ℕ → ℕ → ℕ
number_before width file place = number_from width file (place - byte_len width)
