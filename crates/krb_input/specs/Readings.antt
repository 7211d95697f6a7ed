-- What a text is read as.
use Rattle.std.specs.Prelude.{ℕ, List, [], ◌∷◌, ◌++◌, Option, Some, None, Result, Ok, Err}

-- The octets of a text, or how many octets are left of it from the first on that does not fit.
abbrev pub Reading : Type 0
Reading = Result (List ℕ) ℕ

-- octets, and then those of what follows them
abbrev pub prepend : List ℕ → Reading → Reading
prepend octets (Ok others) = Ok (octets ++ others)
prepend octets (Err left) = Err left

-- an octet, if there is one, and then those of what follows; or it does not fit
abbrev pub then_octet : Option ℕ → (left : ℕ) → Reading → Reading
then_octet None left following = Err left
then_octet (Some octet) left following = prepend (octet ∷ []) following

-- no octets, unless there is a fault
abbrev pub unless : Option ℕ → Reading
unless None = Ok []
unless (Some left) = Err left
