-- The options of an AP-REQ, by the numbers of their bits, with their names, in order of number.
-- RFC 4120, 5.5.1.
use Rattle.std.specs.Prelude.{ℕ, ℤ, pos, List, [], ◌∷◌, codes}

abbrev pub ap_options : List (ℤ × List ℕ)
ap_options =
    (pos 1, codes "use-session-key")
    ∷ (pos 2, codes "mutual-required")
    ∷ []
