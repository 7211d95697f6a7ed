-- The options of an AS-REQ and a TGS-REQ, by the numbers of their bits, with their names, in order of number.
-- RFC 4120, 5.4.1, and 14 (MS-SFU), 15 (RFC 6806, 3) and 16 (RFC 8062, 3).
use Rattle.std.specs.Prelude.{ℕ, ℤ, pos, List, [], ◌∷◌, codes}

abbrev pub kdc_options : List (ℤ × List ℕ)
kdc_options =
    (pos 1, codes "forwardable")
    ∷ (pos 2, codes "forwarded")
    ∷ (pos 3, codes "proxiable")
    ∷ (pos 4, codes "proxy")
    ∷ (pos 5, codes "allow-postdate")
    ∷ (pos 6, codes "postdated")
    ∷ (pos 8, codes "renewable")
    ∷ (pos 11, codes "opt-hardware-auth")
    ∷ (pos 14, codes "cname-in-addl-tkt")
    ∷ (pos 15, codes "canonicalize")
    ∷ (pos 16, codes "request-anonymous")
    ∷ (pos 26, codes "disable-transited-check")
    ∷ (pos 27, codes "renewable-ok")
    ∷ (pos 28, codes "enc-tkt-in-skey")
    ∷ (pos 30, codes "renew")
    ∷ (pos 31, codes "validate")
    ∷ []
