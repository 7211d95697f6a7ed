-- The types of the names of principals, with their names, in order of number.
-- RFC 4120, 6.2, and 11 (RFC 6111, 3), 12 (RFC 5179) and -128 to -130 (MS-KILE).
use Rattle.std.specs.Prelude.{ℕ, ℤ, pos, neg_ℤ, List, [], ◌∷◌, codes}

abbrev pub name_types : List (ℤ × List ℕ)
name_types =
    (neg_ℤ (pos 130), codes "NT-ENT-PRINCIPAL-AND-ID")
    ∷ (neg_ℤ (pos 129), codes "NT-MS-PRINCIPAL-AND-ID")
    ∷ (neg_ℤ (pos 128), codes "NT-MS-PRINCIPAL")
    ∷ (pos 0, codes "NT-UNKNOWN")
    ∷ (pos 1, codes "NT-PRINCIPAL")
    ∷ (pos 2, codes "NT-SRV-INST")
    ∷ (pos 3, codes "NT-SRV-HST")
    ∷ (pos 4, codes "NT-SRV-XHST")
    ∷ (pos 5, codes "NT-UID")
    ∷ (pos 6, codes "NT-X500-PRINCIPAL")
    ∷ (pos 7, codes "NT-SMTP-NAME")
    ∷ (pos 10, codes "NT-ENTERPRISE")
    ∷ (pos 11, codes "NT-WELLKNOWN")
    ∷ (pos 12, codes "NT-SRV-HST-DOMAIN")
    ∷ []
