-- A text whose lines are sorted octet by octet.
use Rattle.std.specs.Prelude.{ℕ, ◌==◌, ◌++◌, Bool, true, false, if◌then◌else◌, List, [], ◌∷◌, Option, Some, None}
use Rattle.std.specs.Option.{unwrap_or}

-- a line is of a message if it begins with a brace (7B); it is known of one that has begun, which a line feed ends
abbrev pub is_of_message : (begun : Option Bool) → ℕ → Bool
is_of_message begun octet = unwrap_or begun (octet == 0x7B)

abbrev pub begun_after : (of_message : Bool) → ℕ → Option Bool
begun_after of_message octet = if octet == 10 then None else Some of_message

-- an octet of a line of a message, or of one that is said
abbrev pub of_lines : (of_message : Bool) → ℕ → List ℕ
of_lines true octet = octet ∷ []
of_lines false octet = []

abbrev pub of_said : (of_message : Bool) → ℕ → List ℕ
of_said true octet = []
of_said false octet = octet ∷ []

-- those of a text
abbrev pub parted : (of_octet : Bool → ℕ → List ℕ) → (begun : Option Bool) → List ℕ → List ℕ
parted of_octet begun [] = []
parted of_octet begun (octet ∷ text) = of_octet (is_of_message begun octet) octet ++ parted of_octet (begun_after (is_of_message begun octet) octet) text
