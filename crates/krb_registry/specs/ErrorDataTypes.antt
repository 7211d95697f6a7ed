-- The types of KERB-ERROR-DATA, with their names, in order of number.
-- MS-KILE, 2.2.2.
use Rattle.std.specs.Prelude.{ℕ, ℤ, pos, List, [], ◌∷◌, codes}

abbrev pub error_data_types : List (ℤ × List ℕ)
error_data_types =
    (pos 2, codes "KERB_AP_ERR_TYPE_SKEW_RECOVERY")
    ∷ (pos 3, codes "KERB_ERR_TYPE_EXTENDED")
    ∷ []
