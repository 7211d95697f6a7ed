-- The flags of a ticket, by the numbers of their bits, with their names, in order of number.
-- RFC 4120, 5.3, and 15 (RFC 6806, 11) and 16 (RFC 8062, 3).
use Rattle.std.specs.Prelude.{ℕ, ℤ, pos, List, [], ◌∷◌, codes}

abbrev pub ticket_flags : List (ℤ × List ℕ)
ticket_flags =
    (pos 1, codes "forwardable")
    ∷ (pos 2, codes "forwarded")
    ∷ (pos 3, codes "proxiable")
    ∷ (pos 4, codes "proxy")
    ∷ (pos 5, codes "may-postdate")
    ∷ (pos 6, codes "postdated")
    ∷ (pos 7, codes "invalid")
    ∷ (pos 8, codes "renewable")
    ∷ (pos 9, codes "initial")
    ∷ (pos 10, codes "pre-authent")
    ∷ (pos 11, codes "hw-authent")
    ∷ (pos 12, codes "transited-policy-checked")
    ∷ (pos 13, codes "ok-as-delegate")
    ∷ (pos 15, codes "enc-pa-rep")
    ∷ (pos 16, codes "anonymous")
    ∷ []
