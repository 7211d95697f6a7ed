-- The options of PA-PAC-OPTIONS, by the numbers of their bits, with their names, in order of number.
-- MS-KILE, 2.2.10.
use Rattle.std.specs.Prelude.{ℕ, ℤ, pos, List, [], ◌∷◌, codes}

abbrev pub pac_options : List (ℤ × List ℕ)
pac_options =
    (pos 0, codes "claims")
    ∷ (pos 1, codes "branch-aware")
    ∷ (pos 2, codes "forward-to-full-dc")
    ∷ (pos 3, codes "resource-based-constrained-delegation")
    ∷ []
