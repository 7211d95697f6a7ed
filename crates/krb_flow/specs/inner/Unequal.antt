-- Octets that are compared with others, one by one.
use Rattle.std.specs.Prelude.{ℕ, ◌+◌, ◌==◌, if◌then◌else◌, List, [], ◌∷◌}

-- the places at which two lists differ, from that of their first octets on
abbrev pub unequal : ℕ → List ℕ → List ℕ → List ℕ
unequal place [] others = []
unequal place (octet ∷ octets) [] = []
unequal place (octet ∷ octets) (other ∷ others) = if octet == other then unequal (place + 1) octets others else place ∷ unequal (place + 1) octets others
