-- The types of addresses, with their names, in order of number.
-- RFC 4120, 7.5.3, with `-` for each blank in a name.
use Rattle.std.specs.Prelude.{ℕ, ℤ, pos, List, [], ◌∷◌, codes}

abbrev pub address_types : List (ℤ × List ℕ)
address_types =
    (pos 2, codes "IPv4")
    ∷ (pos 3, codes "directional")
    ∷ (pos 5, codes "ChaosNet")
    ∷ (pos 6, codes "XNS")
    ∷ (pos 7, codes "ISO")
    ∷ (pos 12, codes "DECNET-Phase-IV")
    ∷ (pos 16, codes "AppleTalk-DDP")
    ∷ (pos 20, codes "NetBios")
    ∷ (pos 24, codes "IPv6")
    ∷ []
