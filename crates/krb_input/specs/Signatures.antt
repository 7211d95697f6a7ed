-- What files begin with.
use Rattle.std.specs.Prelude.{ℕ, nat_eq, if◌then◌else◌, List, [], ◌∷◌, ◌++◌, codes, Option, Some, None}
use Rattle.std.specs.List.{starts_with}
use Rattle.krb_input.specs.declared.hint.Hint.{Hint}
use Rattle.krb_input.specs.declared.hint.Hint.TheVariants as hint
use Rattle.krb_input.specs.declared.signature.Signature.{Signature as SignatureOfCode}

-- files that begin with octets are of a kind
pub record Signature : Type 0 where
  pub octets : List ℕ
  pub hint : Hint

-- a signature of the code as one of these
abbrev pub signature_of : SignatureOfCode → Signature
signature_of it = record { octets = it.octets.now; hint = it.hint }

abbrev pub sign : List ℕ → Hint → Signature
sign octets hint = record { octets = octets; hint = hint }

abbrev pub signatures : List Signature
signatures =
    -- what compressors write (RFC 1952, 2.3.1; RFC 8878, 3.1.1; the formats of xz and bzip2)
    sign (0x1F ∷ 0x8B ∷ []) hint.Gzip
    ∷ sign (0xFD ∷ 0x37 ∷ 0x7A ∷ 0x58 ∷ 0x5A ∷ 0x00 ∷ []) hint.Xz
    ∷ sign (0x28 ∷ 0xB5 ∷ 0x2F ∷ 0xFD ∷ []) hint.Zstd
    ∷ sign (codes "BZh") hint.Bzip2
    -- keytabs and credential caches; version 1 of both has the order of the machine
    ∷ sign (0x05 ∷ 0x02 ∷ []) hint.Keytab
    ∷ sign (0x05 ∷ 0x03 ∷ []) hint.Ccache
    ∷ sign (0x05 ∷ 0x04 ∷ []) hint.Ccache
    ∷ sign (0x05 ∷ 0x01 ∷ []) hint.VersionOne
    -- pcap, in either order, with microseconds and with nanoseconds, and pcapng
    ∷ sign (0xA1 ∷ 0xB2 ∷ 0xC3 ∷ 0xD4 ∷ []) hint.Capture
    ∷ sign (0xD4 ∷ 0xC3 ∷ 0xB2 ∷ 0xA1 ∷ []) hint.Capture
    ∷ sign (0xA1 ∷ 0xB2 ∷ 0x3C ∷ 0x4D ∷ []) hint.Capture
    ∷ sign (0x4D ∷ 0x3C ∷ 0xB2 ∷ 0xA1 ∷ []) hint.Capture
    ∷ sign (0x0A ∷ 0x0D ∷ 0x0D ∷ 0x0A ∷ []) hint.Capture
    -- pcap as some old systems wrote it, in either order, and snoop (RFC 1761)
    ∷ sign (0xA1 ∷ 0xB2 ∷ 0xCD ∷ 0x34 ∷ []) hint.ModifiedPcap
    ∷ sign (0x34 ∷ 0xCD ∷ 0xB2 ∷ 0xA1 ∷ []) hint.ModifiedPcap
    ∷ sign (codes "snoop" ++ (0x00 ∷ 0x00 ∷ 0x00 ∷ [])) hint.Snoop
    -- PEM (RFC 7468), SQLite
    ∷ sign (codes "-----BEGIN") hint.Pem
    ∷ sign (codes "SQLite") hint.Sqlite
    -- requests and responses of HTTP (RFC 9112, 3 and 4; RFC 9110, 9.3)
    ∷ sign (codes "GET ") hint.Http
    ∷ sign (codes "HEAD ") hint.Http
    ∷ sign (codes "POST ") hint.Http
    ∷ sign (codes "PUT ") hint.Http
    ∷ sign (codes "DELETE ") hint.Http
    ∷ sign (codes "CONNECT ") hint.Http
    ∷ sign (codes "OPTIONS ") hint.Http
    ∷ sign (codes "HTTP/") hint.Http
    ∷ []

-- the first of signatures with which octets begin
abbrev pub first_signed : List Signature → List ℕ → Option Hint
first_signed [] octets = None
first_signed (signature ∷ signatures) octets = if starts_with nat_eq octets signature.octets then Some signature.hint else first_signed signatures octets

abbrev pub signed : List ℕ → Option Hint
signed = first_signed signatures
