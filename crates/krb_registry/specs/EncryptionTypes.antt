-- The encryption types, with their names, in order of number.
-- IANA, "Kerberos Encryption Type Numbers" (RFC 3961, 8; RFC 3962; RFC 4556; RFC 4757; RFC 6803; RFC 8009).
use Rattle.std.specs.Prelude.{ℕ, ℤ, pos, List, [], ◌∷◌, codes}

abbrev pub encryption_types : List (ℤ × List ℕ)
encryption_types =
    (pos 1, codes "des-cbc-crc")
    ∷ (pos 2, codes "des-cbc-md4")
    ∷ (pos 3, codes "des-cbc-md5")
    ∷ (pos 5, codes "des3-cbc-md5")
    ∷ (pos 7, codes "des3-cbc-sha1")
    ∷ (pos 9, codes "dsaWithSHA1-CmsOID")
    ∷ (pos 10, codes "md5WithRSAEncryption-CmsOID")
    ∷ (pos 11, codes "sha1WithRSAEncryption-CmsOID")
    ∷ (pos 12, codes "rc2CBC-EnvOID")
    ∷ (pos 13, codes "rsaEncryption-EnvOID")
    ∷ (pos 14, codes "rsaES-OAEP-ENV-OID")
    ∷ (pos 15, codes "des-ede3-cbc-Env-OID")
    ∷ (pos 16, codes "des3-cbc-sha1-kd")
    ∷ (pos 17, codes "aes128-cts-hmac-sha1-96")
    ∷ (pos 18, codes "aes256-cts-hmac-sha1-96")
    ∷ (pos 19, codes "aes128-cts-hmac-sha256-128")
    ∷ (pos 20, codes "aes256-cts-hmac-sha384-192")
    ∷ (pos 23, codes "rc4-hmac")
    ∷ (pos 24, codes "rc4-hmac-exp")
    ∷ (pos 25, codes "camellia128-cts-cmac")
    ∷ (pos 26, codes "camellia256-cts-cmac")
    ∷ (pos 65, codes "subkey-keymaterial")
    ∷ []
