-- What is printed of flows is printable.
use Rattle.std.proofs.Common.{ℕ, ◌≤◌, ◌<◌, ◌^◌, inl, inr, List, [], ◌∷◌, refl, arith, codes, drop, get_or}
use Rattle.std.proofs.NetLemmas.Alphabet.{IsHexOrColon, All-hex_groups_text}
use Rattle.std.proofs.lemmas.List.Elements.{recursion_from_All}
use Rattle.std.specs.List.{AllByRecursion}
use Rattle.std.specs.Net.Addr.{IsIpv4Addr, IsIpv6Addr, MatchIp, ipv4_octets, ipv6_segments, octets_of}
use Rattle.std.specs.Net.Text.{ip_text, ipv4_text, ipv6_text, hex_groups_text}
use Rattle.std.specs.declared.net.ip_addr.IpAddr.{IpAddr}
use Rattle.std.specs.declared.net.ip_addr.IpAddr.TheVariants as addresses
use Rattle.krb_source.specs.declared.endpoint.Endpoint.{Endpoint}
use Rattle.krb_record.specs.Flows.{transport_name, host_text, endpoint_text, endpoint_object, flow_text, flow_object}
use Rattle.krb_record.specs.Text.{IsPrintable}
use Rattle.krb_record.specs.declared.flow.Transport.{Transport}
use Rattle.krb_record.specs.declared.flow.Transport.TheVariants as transports
use Rattle.krb_record.proofs.Printable.{Prints, join, word}
use Rattle.krb_text_laws.proofs.Printable.{either, number}

-- its addresses are as their types have them
abbrev pub IsFlowInRange : Endpoint → Endpoint → Type 0
IsFlowInRange source target = MatchIp source.address IsIpv4Addr IsIpv6Addr × MatchIp target.address IsIpv4Addr IsIpv6Addr

dot : Prints (codes ".")
dot = word (codes ".") refl

in_decimal : (octets : List ℕ) → Prints (ipv4_text octets)
in_decimal octets = join (join (join (join (join (join (number _) dot) (number _)) dot) (number _)) dot) (number _)

hex_or_colon : (c : ℕ) → IsHexOrColon c → (32 ≤ c) × (c ≤ 126)
hex_or_colon c (inl h) = (omega (arith, h.0), omega (arith, h.1))
hex_or_colon c (inr h) = (omega (arith, h.0), omega (arith, h.1))

all_hex_or_colon : (text : List ℕ) → AllByRecursion IsHexOrColon text → IsPrintable text
all_hex_or_colon [] h = tt
all_hex_or_colon (c ∷ cs) h = (hex_or_colon c h.0, all_hex_or_colon cs h.1)

in_groups : (segments : List ℕ) → ((k : ℕ) → get_or segments k 0 < 2 ^ 16) → Prints (hex_groups_text segments)
in_groups segments h = record { all = all_hex_or_colon _ (recursion_from_All IsHexOrColon _ (All-hex_groups_text segments h)) }

pub address : (a : IpAddr) → MatchIp a IsIpv4Addr IsIpv6Addr → Prints (ip_text a)
unfolding ipv6_text
address (addresses.V4 a) h = in_decimal (ipv4_octets a)
address (addresses.V6 a) h = either _ (join (word (codes "::ffff:") refl) (in_decimal (octets_of (drop 6 (ipv6_segments a))))) (in_groups (ipv6_segments a) h.1)

host : (a : IpAddr) → MatchIp a IsIpv4Addr IsIpv6Addr → Prints (host_text a)
host (addresses.V4 a) h = address (addresses.V4 a) h
host (addresses.V6 a) h = join (join (word (codes "[") refl) (address (addresses.V6 a) h)) (word (codes "]") refl)

endpoint : (e : Endpoint) → MatchIp e.address IsIpv4Addr IsIpv6Addr → Prints (endpoint_text e)
endpoint e h = join (join (host e.address h) (word (codes ":") refl)) (number e.port)

endpoint_in_object : (e : Endpoint) → MatchIp e.address IsIpv4Addr IsIpv6Addr → Prints (endpoint_object e)
endpoint_in_object e h =
    join (join (join (join (word (codes "{\"address\":\"") refl) (address e.address h)) (word (codes "\",\"port\":") refl)) (number e.port)) (word (codes "}") refl)

transport : (t : Transport) → Prints (transport_name t)
transport transports.Udp = word _ refl
transport transports.Tcp = word _ refl

pub in_line : (t : Transport) (source target : Endpoint) → IsFlowInRange source target → Prints (flow_text t source target)
in_line t source target h =
    join (join (join (join (transport t) (word (codes "/") refl)) (endpoint source h.0)) (word (codes ">") refl)) (endpoint target h.1)

pub in_object : (t : Transport) (source target : Endpoint) → IsFlowInRange source target → Prints (flow_object t source target)
in_object t source target h =
    join (join (join (join (join (join (word (codes "{\"over\":\"") refl) (transport t)) (word (codes "\",\"source\":") refl)) (endpoint_in_object source h.0)) (word (codes ",\"target\":") refl)) (endpoint_in_object target h.1)) (word (codes "}") refl)
