-- What tells whose writer it is that sorts a text of lines.
use Rattle.std.specs.Prelude.{ℕ, List, [], ◌∷◌, ◌++◌, Option}
use Rattle.std.specs.Coded.{Coded, coded×, coded_ℕ, coded_list, coded_option}
use base.Stored.{Gv, gnil, gnum, gcons}

-- ---- numbers that tell which writer sorts: that to which it writes, what this had, and what lines are told to
abbrev pub numbers_of : Gv → List ℕ
numbers_of gnil = 0 ∷ []
numbers_of (gnum n) = 1 ∷ n ∷ []
numbers_of (gcons a b) = 2 ∷ numbers_of a ++ numbers_of b

abbrev pub key_code : {T : Type 0} → Coded T → Coded (ℕ × (Option (List ℕ) × T))
key_code teller_code = coded× coded_ℕ (coded× (coded_option (coded_list coded_ℕ)) teller_code)

unfoldable pub key : {T : Type 0} → Coded T → (writer : ℕ) → (had : Option (List ℕ)) → (teller : T) → List ℕ
key teller_code writer had teller = numbers_of ((key_code teller_code).code (writer, (had, teller)))
