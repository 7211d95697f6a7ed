-- Messages that change passwords (RFC 3244, 2): the length of all, the version, and the length of an AP-REQ or AP-REP, of two octets each; that; and the rest, a KRB-PRIV, or a KRB-ERROR if there is no AP-REP.
use Rattle.std.specs.Prelude.{ℕ, ◌+◌, ◌-◌, nat_lt, if◌then◌else◌, List, [], ◌∷◌, ◌++◌, length, take, drop, Some, Result, Ok, Err, codes}
use Rattle.std.specs.Int.{w16, from_be_bytes}
use Rattle.krb_der.specs.declared.profile.Profile.{Profile}
use Rattle.krb_der.specs.declared.why.Why.{Why}
use Rattle.krb_der.specs.declared.why.Why.TheVariants as why
use Rattle.krb_record.specs.declared.extent.Extent.{Extent}
use Rattle.krb_capture.specs.Found.{Found, Faulty, Password}
use Rattle.krb_capture.specs.Messages.{message_found}
use Rattle.krb_capture.specs.declared.password.Field.{Field}
use Rattle.krb_capture.specs.declared.password.Field.TheVariants as fields
use Rattle.krb_capture.specs.declared.password.Fault.{Fault}
use Rattle.krb_capture.specs.declared.password.Header.{Header}

-- the number of octets before a field of the header
abbrev pub place_of : Field → ℕ
place_of fields.Length = 0
place_of fields.Version = 2
place_of fields.ApLength = 4

abbrev pub path_of : Field → List ℕ
path_of fields.Length = codes "KPASSWD.length"
path_of fields.Version = codes "KPASSWD.version"
path_of fields.ApLength = codes "KPASSWD.ap-length"

abbrev pub at : Field → Why → Fault
at field reason = record { field = field; why = reason }

-- a field that is not all there passes the end of the message
abbrev pub number : Field → List ℕ → Result ℕ Fault
number field octets =
    if nat_lt (length octets) (place_of field + 2) then Err (at field why.Overrun)
    else Ok (from_be_bytes w16 (take 2 (drop (place_of field) octets)))

abbrev pub and_then : {A B : Type 0} → Result A Fault → (A → Result B Fault) → Result B Fault
and_then (Err fault) next = Err fault
and_then (Ok value) next = next value

-- the length is that of all octets, and the AP-REQ or AP-REP ends before their end
abbrev pub checked : ℕ → ℕ → ℕ → ℕ → Result Header Fault
checked size length version ap =
    if nat_lt length size then Err (at fields.Length why.Loose)
    else if nat_lt size length then Err (at fields.Length why.Overrun)
    else if nat_lt size (6 + ap) then Err (at fields.ApLength why.Overrun)
    else Ok (record { version = version; ap = ap })

unfoldable pub header : List ℕ → Result Header Fault
header octets =
    and_then (number fields.Length octets) (λ all.
    and_then (number fields.Version octets) (λ version.
    and_then (number fields.ApLength octets) (λ ap.
    checked (length octets) all version ap)))

-- a part that follows others, unless it is left out
abbrev pub part_found : Profile → Extent → ℕ → List ℕ → List Found
part_found profile extent before [] = []
part_found profile extent before (octet ∷ octets) = message_found profile extent before (octet ∷ octets) ∷ []

abbrev pub parts_found : Profile → Extent → ℕ → List ℕ → Result Header Fault → List Found
parts_found profile extent before octets (Err fault) = Faulty (record { place = before + place_of fault.field; why = fault.why }) (Some (path_of fault.field)) extent ∷ []
parts_found profile extent before octets (Ok header) =
    Password octets header.version header.ap (length octets - (6 + header.ap))
    ∷ (part_found profile extent (before + 6) (take header.ap (drop 6 octets)) ++ part_found profile extent (before + (6 + header.ap)) (drop (6 + header.ap) octets))

-- octets that are all there, after others of a frame or a datagram
unfoldable pub password_found : Profile → Extent → ℕ → List ℕ → List Found
password_found profile extent before octets = parts_found profile extent before octets (header octets)
