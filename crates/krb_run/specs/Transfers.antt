-- What a reader returns when it is asked.
use Rattle.std.specs.Prelude.{ℕ, ◌≡◌, ◌<◌, List, [], Option}
use Rattle.std.specs.Io.KnownBytes.{Consumes, IsAtEnd}

-- A reader returned a prefix of the octets that it had, and none only at its end, if the buffer has room for one.
pub record ReturnsOctets (had left : Option (List ℕ)) (octets : List ℕ) (room : ℕ) : Type 0 where
  pub taken : Consumes had left octets
  pub ended : octets ≡ [] → 0 < room → IsAtEnd left
