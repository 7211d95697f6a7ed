-- Calls that append octets to a vector with the capacity for them.
use Rattle.std.specs.Prelude.{ℕ, ◌≡◌, ◌+◌, List, ◌++◌, length}
use Rattle.std.specs.Global.{Vec}
use Rattle.std.specs.Vec.{vec_len, vec_capacity}

-- Octets were appended to a vector, and its capacity stayed as it was.
pub record Puts (octets : List ℕ) (old new : Vec ℕ) : Type 0 where
  pub items : new.items ≡ old.items ++ octets
  pub len : vec_len new ≡ vec_len old + length octets
  pub capacity : vec_capacity new ≡ vec_capacity old
