-- Directions that ended, by their numbers.
use Rattle.std.specs.Prelude.{ℕ, List, [], ◌∷◌, ◌++◌}
use Rattle.std.specs.Ordering.{nat_cmp}
use Rattle.std.specs.declared.cmp.Ordering.{Ordering}
use Rattle.std.specs.declared.cmp.Reverse.{Reverse}
use Rattle.krb_capture.specs.declared.directions.Gone.{Gone}

-- each that is kept, from the least number on
pub record Ended : Type 0 where
  pub entries : List (ℕ × Gone)

-- ---- the map begins with the greatest number
abbrev pub newest_first : Reverse ℕ → Reverse ℕ → Ordering
newest_first one other = nat_cmp other.0 one.0

-- the same from the least number on
abbrev pub forward : {X : Type 0} → List (Reverse ℕ × X) → List (ℕ × X)
forward [] = []
forward (first ∷ others) = forward others ++ (first.0.0, first.1) ∷ []
