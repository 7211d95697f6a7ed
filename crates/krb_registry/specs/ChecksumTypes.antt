-- The checksum types, with their names, in order of number.
-- IANA, "Kerberos Checksum Type Numbers" (RFC 3961, 8; RFC 3962; RFC 4121, 4.1.1; RFC 6803; RFC 8009), and -138 (RFC 4757).
use Rattle.std.specs.Prelude.{ℕ, ℤ, pos, neg_ℤ, List, [], ◌∷◌, codes}

abbrev pub checksum_types : List (ℤ × List ℕ)
checksum_types =
    (neg_ℤ (pos 138), codes "hmac-md5")
    ∷ (pos 1, codes "crc32")
    ∷ (pos 2, codes "rsa-md4")
    ∷ (pos 3, codes "rsa-md4-des")
    ∷ (pos 4, codes "des-mac")
    ∷ (pos 5, codes "des-mac-k")
    ∷ (pos 6, codes "rsa-md4-des-k")
    ∷ (pos 7, codes "rsa-md5")
    ∷ (pos 8, codes "rsa-md5-des")
    ∷ (pos 9, codes "rsa-md5-des3")
    ∷ (pos 10, codes "sha1")
    ∷ (pos 12, codes "hmac-sha1-des3-kd")
    ∷ (pos 13, codes "hmac-sha1-des3")
    ∷ (pos 14, codes "sha1")
    ∷ (pos 15, codes "hmac-sha1-96-aes128")
    ∷ (pos 16, codes "hmac-sha1-96-aes256")
    ∷ (pos 17, codes "cmac-camellia128")
    ∷ (pos 18, codes "cmac-camellia256")
    ∷ (pos 19, codes "hmac-sha256-128-aes128")
    ∷ (pos 20, codes "hmac-sha384-192-aes256")
    ∷ (pos 32771, codes "gss-checksum")
    ∷ []
