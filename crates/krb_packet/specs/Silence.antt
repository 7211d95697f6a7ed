-- A packet that is passed over, and the number or the ports that say so: the walk comes to them, and no packet of IP is in what follows.
use Rattle.std.specs.Prelude.{◌≡◌, ℕ, ◌+◌, ◌<◌, ◌≤◌, ◌⊎◌, ◌/◌, ◌%◌, ◌||◌, ◌&&◌, ◌==◌, Bool, true, false, Option, Some, IsSomeAnd, length}
use Rattle.krb_der.specs.Octets.{when}
use Rattle.krb_packet.specs.Contents.{announced, contents_of, ends, extensions, frame, in_either_order, step}
use Rattle.krb_packet.specs.Passed.{is_passed_protocol, is_passed_type}
use Rattle.krb_packet.specs.Payloads.{Captured, ◌>>=◌, number8, number16, number32, after}
use Rattle.krb_packet.specs.Tunnels.{is_served, is_tunnel, payload}
use Rattle.krb_packet.specs.declared.contents.Contents.{Contents}
use Rattle.krb_packet.specs.declared.contents.Contents.TheVariants as contents
use Rattle.krb_packet.specs.declared.header.Addresses.{Addresses}
use Rattle.krb_packet.specs.declared.header.Header.{Header}
use Rattle.krb_packet.specs.declared.header.Header.TheVariants as headers
use Rattle.krb_packet.specs.declared.header.Step.TheVariants as steps
use Rattle.krb_packet.specs.declared.packet.LinkType.{LinkType}
use Rattle.krb_packet.specs.declared.packet.LinkType.TheVariants as links
use Rattle.std.specs.declared.net.ip_addr.IpAddr.{IpAddr}
use Rattle.std.specs.declared.net.ip_addr.IpAddr.TheVariants as ip

-- ---- protocols of IP

-- of IPv4 the tenth octet (RFC 791, 3.1)
abbrev pub protocol4 : Captured → Option ℕ
protocol4 packet = number8 9 packet

-- after the extension headers, the first of which is of this kind, the number that the last one says, or that a fragment's header says (RFC 8200, 4)
abbrev pub protocol_after : ℕ → Captured → Option ℕ
protocol_after kind packet = do
  last ← extensions (length packet.octets + 1) kind packet
  when (last.0 == 44) (λ _. number8 0 last.1) (λ _. Some last.0)

-- of IPv6 the first kind is the seventh octet (RFC 8200, 3)
abbrev pub protocol6 : Captured → Option ℕ
protocol6 packet = do
  size ← number16 4 packet
  kind ← number8 6 packet
  rest ← after 40 packet
  protocol_after kind (announced size rest)

-- one of Passed
abbrev pub IsPassedProtocol : ℕ → Type 0
IsPassedProtocol protocol = is_passed_protocol protocol ≡ true

-- ---- EtherTypes

-- the first four bits after the last label of MPLS are 1: an associated channel (RFC 4385, 5)
abbrev pub IsChannel : ℕ → Type 0
IsChannel first = first / 16 ≡ 1

-- the number of PPP after the six octets of PPPoE, which has one octet if that is odd (RFC 1661, 2)
abbrev pub ppp_number : Captured → Option ℕ
ppp_number packet = do
  first ← number8 6 packet
  when (first % 2 == 1) (λ _. Some first) (λ _. number16 6 packet)

-- A type of Passed, or one that is followed, with a number in its header that is not.
pub data IsPassedType (kind : ℕ) (packet : Captured) : Type 0 where
  listed : is_passed_type kind ≡ true → IsPassedType kind packet
  ipv4 : kind ≡ 0x0800 → IsSomeAnd (protocol4 packet) IsPassedProtocol → IsPassedType kind packet
  ipv6 : kind ≡ 0x86DD → IsSomeAnd (protocol6 packet) IsPassedProtocol → IsPassedType kind packet
  mpls : (kind ≡ 0x8847) ⊎ (kind ≡ 0x8848) → IsSomeAnd (after 4 packet >>= number8 0) IsChannel → IsPassedType kind packet
  pppoe : kind ≡ 0x8864 → IsSomeAnd (ppp_number packet) (λ number. 0x8000 ≤ number) → IsPassedType kind packet

-- ---- 802.2

abbrev pub is_snap : ℕ → ℕ → Bool
is_snap points control = points == 0xAAAA && control == 3

abbrev pub is_ip : ℕ → ℕ → Bool
is_ip points control = points == 0x0606 && control == 3

-- an organization whose numbers are EtherTypes, and the one of bridged frames
abbrev pub has_types : ℕ → ℕ → Bool
has_types high low = high == 0 && (low == 0 || low == 0xF8)

abbrev pub has_bridged : ℕ → ℕ → Bool
has_bridged high low = high == 0x0080 && low == 0xC2

-- SNAP of another organization, or of an EtherType that is passed over
abbrev pub IsPassedSnap : Captured → Type 0
IsPassedSnap packet = IsSomeAnd (number16 3 packet) (λ high. IsSomeAnd (number8 5 packet) (λ low.
    ((has_types high low ≡ false) × (has_bridged high low ≡ false))
    ⊎ ((has_types high low ≡ true) × IsSomeAnd (number16 6 packet) (λ kind. IsSomeAnd (after 8 packet) (IsPassedType kind)))))

-- neither SNAP nor IPv4, or one of them with a number that is passed over
abbrev pub IsPassedLink : Captured → Type 0
IsPassedLink packet = IsSomeAnd (number16 0 packet) (λ points. IsSomeAnd (number8 2 packet) (λ control.
    ((is_snap points control ≡ false) × (is_ip points control ≡ false))
    ⊎ (((is_snap points control ≡ true) × IsPassedSnap packet)
    ⊎ ((is_ip points control ≡ true) × IsSomeAnd (after 3 packet >>= protocol4) IsPassedProtocol))))

-- in Ethernet and in a tag: up to 1500 a length, before 802.2
abbrev pub IsPassedTypeOrLength : ℕ → Captured → Type 0
IsPassedTypeOrLength kind packet = ((kind ≤ 0x05DC) × IsPassedLink packet) ⊎ ((0x05DC < kind) × IsPassedType kind packet)

abbrev pub IsPassedEthernet : Captured → Type 0
IsPassedEthernet packet = IsSomeAnd (number16 12 packet) (λ kind. IsSomeAnd (after 14 packet) (IsPassedTypeOrLength kind))

-- ---- IP, by its version

abbrev pub IsPassedIp : Captured → Type 0
IsPassedIp packet = IsSomeAnd (number8 0 packet) (λ first.
    ((first / 16 ≡ 4) × IsSomeAnd (protocol4 packet) IsPassedProtocol)
    ⊎ ((first / 16 ≡ 6) × IsSomeAnd (protocol6 packet) IsPassedProtocol))

abbrev pub IsPassedPayload : IpAddr → ℕ → Captured → Type 0
IsPassedPayload (ip.V4 source) protocol packet = IsPassedProtocol protocol
IsPassedPayload (ip.V6 source) kind packet = IsSomeAnd (protocol_after kind packet) IsPassedProtocol

-- ---- UDP to the port of a tunnel

-- one octet FF, or four octets 0 first (RFC 3948, 2.2 and 2.3)
abbrev pub IsBesideEsp : Captured → Type 0
IsBesideEsp packet = ((packet.size ≡ 1) × (number8 0 packet ≡ Some 0xFF)) ⊎ (number32 0 packet ≡ Some 0)

-- Between ports that are not of Kerberos: from a server, or beside ESP.
abbrev pub IsPassedTunnel : ℕ → Addresses → Captured → Type 0
IsPassedTunnel port addresses packet = IsSomeAnd (ends addresses.source addresses.target packet) (λ between.
    (is_served port between ≡ false)
    × ((between.source.port < 1024) ⊎ ((between.target.port ≡ 4500) × IsSomeAnd (payload packet) IsBesideEsp)))

-- ---- the walk

-- octets that begin with a header: a number in it is of what is passed over
abbrev pub IsPassedHeader : ℕ → Header → Captured → Type 0
IsPassedHeader port headers.Ethernet packet = IsPassedEthernet packet
IsPassedHeader port (headers.TypeOrLength kind) packet = IsPassedTypeOrLength kind packet
IsPassedHeader port (headers.Type kind) packet = IsPassedType kind packet
IsPassedHeader port headers.Internet packet = IsPassedIp packet
IsPassedHeader port (headers.Protocol addresses kind) packet = IsPassedPayload addresses.source kind packet
IsPassedHeader port (headers.Other addresses protocol) packet = IsPassedProtocol protocol
IsPassedHeader port (headers.Tunnel addresses) packet = IsPassedTunnel port addresses packet

-- or one in a header to which the walk comes from there
pub data IsPassedOver (port : ℕ) : Header → Captured → Type 0 where
  here : (header : Header) (packet : Captured) → IsPassedHeader port header packet → IsPassedOver port header packet
  later : (header next : Header) (packet rest : Captured) → step port header packet ≡ Some (steps.Next next rest) → IsPassedOver port next rest → IsPassedOver port header packet

-- ---- links

-- netlink (824), or by an EtherType, for which 4 is 802.2
abbrev pub IsPassedCooked : ℕ → ℕ → ℕ → Captured → Type 0
IsPassedCooked hardware_at at size packet = IsSomeAnd (number16 hardware_at packet) (λ hardware.
    (hardware ≡ 824)
    ⊎ IsSomeAnd (number16 at packet) (λ kind. IsSomeAnd (after size packet) (λ rest.
    ((kind ≡ 4) × IsPassedLink rest) ⊎ ((kind == 4 ≡ false) × IsPassedType kind rest))))

abbrev pub IsPassedFamily : ℕ → Captured → Type 0
IsPassedFamily family packet =
    ((family ≡ 2) × IsSomeAnd (protocol4 packet) IsPassedProtocol)
    ⊎ ((family == 2 ≡ false) × IsSomeAnd (protocol6 packet) IsPassedProtocol)

abbrev pub IsPassedFrame : LinkType → Captured → Type 0
IsPassedFrame links.Ethernet packet = IsPassedEthernet packet
IsPassedFrame links.LinuxCooked packet = IsPassedCooked 2 14 16 packet
IsPassedFrame links.LinuxCooked2 packet = IsPassedCooked 8 0 20 packet
IsPassedFrame links.RawIp packet = IsPassedIp packet
IsPassedFrame links.Ipv4 packet = IsSomeAnd (protocol4 packet) IsPassedProtocol
IsPassedFrame links.Ipv6 packet = IsSomeAnd (protocol6 packet) IsPassedProtocol
IsPassedFrame links.BsdLoopback packet = IsSomeAnd (number32 0 packet) (λ family. IsSomeAnd (after 4 packet) (IsPassedFamily (in_either_order family)))
IsPassedFrame links.OpenBsdLoopback packet = IsSomeAnd (number32 0 packet) (λ family. IsSomeAnd (after 4 packet) (IsPassedFamily family))
IsPassedFrame (links.Other number) packet = ⊥

-- in the header of the link, or in one to which the walk comes from there
pub data IsPassedPacket (port : ℕ) (link : LinkType) (packet : Captured) : Type 0 where
  at_once : IsPassedFrame link packet → IsPassedPacket port link packet
  within : (header : Header) (rest : Captured) → frame link packet ≡ Some (steps.Next header rest) → IsPassedOver port header rest → IsPassedPacket port link packet

-- ---- the law

-- Of what a packet carries: what is passed over has such a number or ports; a datagram between ports that are not of Kerberos is not to the port of a tunnel, so no packet of IP is in it. TCP has no tunnels. What is unread is counted, and a fragment is kept.
abbrev pub IsAccountedFor : ℕ → LinkType → Captured → Contents → Type 0
IsAccountedFor port link packet contents.Other = IsPassedPacket port link packet
IsAccountedFor port link packet (contents.Datagram datagram) = (is_served port (record { source = datagram.source; target = datagram.target }) ≡ true) ⊎ (is_tunnel datagram.target.port ≡ false)
IsAccountedFor port link packet (contents.Segment segment) = Unit {0}
IsAccountedFor port link packet (contents.Fragment fragment) = Unit {0}
IsAccountedFor port link packet (contents.Error error) = Unit {0}
IsAccountedFor port link packet (contents.UnreadBetween ends) = Unit {0}
IsAccountedFor port link packet contents.Unread = Unit {0}

abbrev pub NothingIsSilent : Type 0
NothingIsSilent = (port : ℕ) (link : LinkType) (packet : Captured) → IsAccountedFor port link packet (contents_of port link packet)
