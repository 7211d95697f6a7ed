-- Octets written in hexadecimal, blanks between them, for worked examples.
use Rattle.std.specs.Prelude.{ℕ, ◌+◌, ◌-◌, ◌*◌, ◌==◌, nat_lt, if◌then◌else◌, List, [], ◌∷◌}
use Rattle.krb_der.specs.Octets.{when}

abbrev digit : ℕ → ℕ
digit code = if nat_lt code 58 then code - 48 else code - 55

abbrev pub hex : List ℕ → List ℕ
hex [] = []
hex (high ∷ []) = []
hex (high ∷ low ∷ rest) = when (high == 32) (λ _. hex (low ∷ rest)) (λ _. (digit high * 16 + digit low) ∷ hex rest)
