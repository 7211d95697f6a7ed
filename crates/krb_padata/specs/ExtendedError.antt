-- KERB-EXT-ERROR (MS-KILE, 2.2.1): twelve octets, three numbers of 32 bits, the lowest octet of each first.
use Rattle.std.specs.Prelude.{ℕ, ◌≡◌, ◌==◌, List, length, take, drop, Option, Some, None, codes, if◌then◌else◌, refl}
use Rattle.std.specs.Int.{from_le_bytes, w32}
use Rattle.krb_der.specs.Hex.{hex}
use Rattle.krb_padata.specs.declared.kerb_ext_error.KerbExtError.{KerbExtError}

-- the number of 32 bits after so many octets
abbrev pub number_after : ℕ → List ℕ → ℕ
number_after at octets = from_le_bytes w32 (take 4 (drop at octets))

-- which extended error octets are, if they are twelve
abbrev pub kerb_ext_error_in : List ℕ → Option KerbExtError
kerb_ext_error_in octets =
    if length octets == 12 then Some (record { status = number_after 0 octets; reserved = number_after 4 octets; flags = number_after 8 octets })
    else None

-- STATUS_ACCOUNT_DISABLED
disabled : kerb_ext_error_in (hex (codes "720000C0 00000000 01000000")) ≡ Some (record { status = 0xC0000072; reserved = 0; flags = 1 })
disabled = refl

eleven_octets : kerb_ext_error_in (hex (codes "720000C0 00000000 010000")) ≡ None
eleven_octets = refl
