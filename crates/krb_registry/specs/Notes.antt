-- The notes on a message, which are our own, with their names, in order of number.
-- None of them is a fault; each is of something that a reader of messages may misread.
use Rattle.std.specs.Prelude.{ℕ, ℤ, pos, List, [], ◌∷◌, codes}

abbrev pub notes : List (ℤ × List ℕ)
notes =
    (pos 1, codes "high-octet")
    ∷ (pos 2, codes "short-flags")
    ∷ (pos 3, codes "negative")
    ∷ (pos 4, codes "empty-list")
    ∷ []
