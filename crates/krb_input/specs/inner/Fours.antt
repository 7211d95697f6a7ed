-- Four characters of base64.
use Rattle.std.specs.Prelude.{ℕ, ◌+◌, ◌*◌, ◌/◌, ◌%◌, List, [], ◌∷◌, Option, Some, None}

-- the value of a character, or 255 of any other octet
abbrev pub value_or_none : Option ℕ → ℕ
value_or_none None = 255
value_or_none (Some value) = value

-- the octets of four characters, if they are characters
abbrev pub octets_of_four : (first second third fourth : Option ℕ) → Option (List ℕ)
octets_of_four (Some a) (Some b) (Some c) (Some d) = Some ((a * 4 + b / 16) ∷ (b % 16 * 16 + c / 4) ∷ (c % 4 * 64 + d) ∷ [])
octets_of_four first second third fourth = None
