-- Flows, as records have them: the protocol, and where octets come from and go to.
use Rattle.std.specs.Prelude.{ℕ, List, ◌++◌, codes, decimal}
use Rattle.std.specs.Net.Text.{ip_text}
use Rattle.std.specs.declared.net.ip_addr.IpAddr.{IpAddr}
use Rattle.std.specs.declared.net.ip_addr.IpAddr.TheVariants as addresses
use Rattle.krb_source.specs.declared.endpoint.Endpoint.{Endpoint}
use Rattle.krb_record.specs.declared.flow.Transport.{Transport}
use Rattle.krb_record.specs.declared.flow.Transport.TheVariants as transports

abbrev pub transport_name : Transport → List ℕ
transport_name transports.Udp = codes "udp"
transport_name transports.Tcp = codes "tcp"

-- an address before a port, an IPv6 address in brackets (RFC 5952, section 6)
abbrev pub host_text : IpAddr → List ℕ
host_text (addresses.V4 a) = ip_text (addresses.V4 a)
host_text (addresses.V6 a) = codes "[" ++ ip_text (addresses.V6 a) ++ codes "]"

abbrev pub endpoint_text : Endpoint → List ℕ
endpoint_text e = host_text e.address ++ codes ":" ++ decimal e.port

abbrev pub endpoint_object : Endpoint → List ℕ
endpoint_object e = codes "{\"address\":\"" ++ ip_text e.address ++ codes "\",\"port\":" ++ decimal e.port ++ codes "}"

abbrev pub flow_text : Transport → Endpoint → Endpoint → List ℕ
flow_text transport source target = transport_name transport ++ codes "/" ++ endpoint_text source ++ codes ">" ++ endpoint_text target

abbrev pub flow_object : Transport → Endpoint → Endpoint → List ℕ
flow_object transport source target =
    codes "{\"over\":\"" ++ transport_name transport
    ++ codes "\",\"source\":" ++ endpoint_object source
    ++ codes ",\"target\":" ++ endpoint_object target ++ codes "}"
