-- What a writer that chooses writes, and what tells whose writer it is.
use Rattle.std.specs.Prelude.{ℕ, ◌≡◌, ◌-◌, Bool, List, [], ◌∷◌, ◌++◌, length, take, Option, Some, None}
use Rattle.std.specs.Coded.{Coded, coded×, coded_bool, coded_ℕ, coded_list, coded_option}
use base.Stored.{Gv, gnil, gnum, gcons}
use Rattle.krb_choice.specs.Choices.{Choice}
use Rattle.krb_choice.specs.contracts.choice.Choice.{the_row}

-- A first part of a text was appended to what is written: so much as there is more than before.
abbrev pub AppendsFirst : (written_before written_after : Option (List ℕ)) → List ℕ → Type 0
AppendsFirst None after text = Unit {0}
AppendsFirst (Some xs) None text = ⊥
AppendsFirst (Some xs) (Some ys) text = ys ≡ xs ++ take (length ys - length xs) text

-- ---- numbers that tell which writer chooses: that to which it writes, what this had, and what is chosen
abbrev pub numbers_of : Gv → List ℕ
numbers_of gnil = 0 ∷ []
numbers_of (gnum n) = 1 ∷ n ∷ []
numbers_of (gcons a b) = 2 ∷ numbers_of a ++ numbers_of b

abbrev pub key_code : Coded (ℕ × (Option (List ℕ) × (Choice × Bool)))
key_code = coded× coded_ℕ (coded× (coded_option (coded_list coded_ℕ)) (coded× the_row.coded coded_bool))

unfoldable pub key : (writer : ℕ) → (had : Option (List ℕ)) → Choice → (goes_on : Bool) → List ℕ
key writer had c goes_on = numbers_of (key_code.code (writer, (had, (c, goes_on))))
