-- Who could not be reached, and how that is known: ICMP (RFC 792) and ICMPv6 (RFC 4443), with the names of their types and codes.
use Rattle.std.specs.Prelude.{ℕ, ◌==◌, List, Option, Some, None, codes}
use Rattle.krb_der.specs.Octets.{when}
use Rattle.krb_record.specs.declared.unreachable.How.{How}
use Rattle.krb_record.specs.declared.unreachable.How.TheVariants as hows
use Rattle.krb_record.specs.declared.unreachable.IcmpError.{IcmpError}
use Rattle.krb_record.specs.declared.unreachable.IcmpVersion.{IcmpVersion}
use Rattle.krb_record.specs.declared.unreachable.IcmpVersion.TheVariants as versions

abbrev pub version_name : IcmpVersion → List ℕ
version_name versions.V4 = codes "icmp"
version_name versions.V6 = codes "icmpv6"

-- a reset, nothing at all, or an error
abbrev pub how_name : How → List ℕ
how_name hows.Reset = codes "reset"
how_name hows.Silent = codes "silent"
how_name (hows.Error error) = version_name error.version

abbrev pub error_of : How → Option IcmpError
error_of hows.Reset = None
error_of hows.Silent = None
error_of (hows.Error error) = Some error

-- ---- names
-- types of ICMP (RFC 792) and of ICMPv6 (RFC 4443, 3)
abbrev pub type_name4 : ℕ → Option (List ℕ)
type_name4 number =
    when (number == 3) (λ _. Some (codes "destination-unreachable")) (λ _.
    when (number == 11) (λ _. Some (codes "time-exceeded")) (λ _.
    when (number == 12) (λ _. Some (codes "parameter-problem")) (λ _.
    None)))

abbrev pub type_name6 : ℕ → Option (List ℕ)
type_name6 number =
    when (number == 1) (λ _. Some (codes "destination-unreachable")) (λ _.
    when (number == 2) (λ _. Some (codes "packet-too-big")) (λ _.
    when (number == 3) (λ _. Some (codes "time-exceeded")) (λ _.
    when (number == 4) (λ _. Some (codes "parameter-problem")) (λ _.
    None))))

-- of a destination that is unreachable (RFC 792; RFC 1812, 5.2.7.1)
abbrev pub unreachable_code : ℕ → Option (List ℕ)
unreachable_code number =
    when (number == 0) (λ _. Some (codes "net-unreachable")) (λ _.
    when (number == 1) (λ _. Some (codes "host-unreachable")) (λ _.
    when (number == 2) (λ _. Some (codes "protocol-unreachable")) (λ _.
    when (number == 3) (λ _. Some (codes "port-unreachable")) (λ _.
    when (number == 4) (λ _. Some (codes "fragmentation-needed")) (λ _.
    when (number == 5) (λ _. Some (codes "source-route-failed")) (λ _.
    when (number == 6) (λ _. Some (codes "net-unknown")) (λ _.
    when (number == 7) (λ _. Some (codes "host-unknown")) (λ _.
    when (number == 9) (λ _. Some (codes "net-prohibited")) (λ _.
    when (number == 10) (λ _. Some (codes "host-prohibited")) (λ _.
    when (number == 11) (λ _. Some (codes "net-unreachable-for-tos")) (λ _.
    when (number == 12) (λ _. Some (codes "host-unreachable-for-tos")) (λ _.
    when (number == 13) (λ _. Some (codes "communication-prohibited")) (λ _.
    None)))))))))))))

-- of a time that is exceeded (RFC 792)
abbrev pub exceeded_code : ℕ → Option (List ℕ)
exceeded_code number =
    when (number == 0) (λ _. Some (codes "ttl-exceeded")) (λ _.
    when (number == 1) (λ _. Some (codes "reassembly-exceeded")) (λ _.
    None))

-- of a problem with a parameter (RFC 792; RFC 1108)
abbrev pub parameter_code : ℕ → Option (List ℕ)
parameter_code number =
    when (number == 0) (λ _. Some (codes "pointer")) (λ _.
    when (number == 1) (λ _. Some (codes "option-missing")) (λ _.
    when (number == 2) (λ _. Some (codes "bad-length")) (λ _.
    None)))

-- the same of ICMPv6 (RFC 4443, 3)
abbrev pub unreachable_code6 : ℕ → Option (List ℕ)
unreachable_code6 number =
    when (number == 0) (λ _. Some (codes "no-route")) (λ _.
    when (number == 1) (λ _. Some (codes "communication-prohibited")) (λ _.
    when (number == 2) (λ _. Some (codes "beyond-scope")) (λ _.
    when (number == 3) (λ _. Some (codes "address-unreachable")) (λ _.
    when (number == 4) (λ _. Some (codes "port-unreachable")) (λ _.
    when (number == 5) (λ _. Some (codes "source-policy-failed")) (λ _.
    when (number == 6) (λ _. Some (codes "route-rejected")) (λ _.
    None)))))))

abbrev pub exceeded_code6 : ℕ → Option (List ℕ)
exceeded_code6 number =
    when (number == 0) (λ _. Some (codes "hop-limit-exceeded")) (λ _.
    when (number == 1) (λ _. Some (codes "reassembly-exceeded")) (λ _.
    None))

abbrev pub parameter_code6 : ℕ → Option (List ℕ)
parameter_code6 number =
    when (number == 0) (λ _. Some (codes "erroneous-header")) (λ _.
    when (number == 1) (λ _. Some (codes "unrecognized-next-header")) (λ _.
    when (number == 2) (λ _. Some (codes "unrecognized-option")) (λ _.
    None)))

-- ---- by version
abbrev pub type_name : IcmpVersion → ℕ → Option (List ℕ)
type_name versions.V4 number = type_name4 number
type_name versions.V6 number = type_name6 number

abbrev pub code_name4 : ℕ → ℕ → Option (List ℕ)
code_name4 kind number =
    when (kind == 3) (λ _. unreachable_code number) (λ _.
    when (kind == 11) (λ _. exceeded_code number) (λ _.
    when (kind == 12) (λ _. parameter_code number) (λ _. None)))

abbrev pub code_name6 : ℕ → ℕ → Option (List ℕ)
code_name6 kind number =
    when (kind == 1) (λ _. unreachable_code6 number) (λ _.
    when (kind == 3) (λ _. exceeded_code6 number) (λ _.
    when (kind == 4) (λ _. parameter_code6 number) (λ _. None)))

abbrev pub code_name : IcmpVersion → ℕ → ℕ → Option (List ℕ)
code_name versions.V4 kind number = code_name4 kind number
code_name versions.V6 kind number = code_name6 kind number
