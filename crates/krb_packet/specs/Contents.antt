-- What a packet carries; None if it cannot be read, since a header is cut or wrong or the link type is not known.
use Rattle.std.specs.Prelude.{ℕ, zero, suc, ◌+◌, ◌*◌, ◌-◌, ◌/◌, ◌%◌, ◌^◌, Bool, not, ◌&&◌, ◌||◌, ◌==◌, nat_le, bit_and, true, false, Option, Some, None, List, length}
use Rattle.std.specs.Option.{option_map_or}
use Rattle.std.specs.Net.Addr.{segments_of}
use Rattle.std.specs.declared.net.ip_addr.IpAddr.{IpAddr}
use Rattle.std.specs.declared.net.ip_addr.IpAddr.TheVariants as ip
use Rattle.krb_der.specs.Octets.{when}
use Rattle.krb_packet.specs.Envelopes.{gre, label, session}
unfoldable pub use Rattle.krb_packet.specs.Headers.{addresses4, addresses6, endpoint, ends, extension, fragment_header, is_option_header, options, skip_headers}
use Rattle.krb_packet.specs.Icmp.{icmp}
use Rattle.krb_packet.specs.Passed.{is_passed_protocol, is_passed_type}
use Rattle.krb_packet.specs.Payloads.{Captured, ◌>>=◌, field, number8, number16, number32, after, beyond, past, within}
use Rattle.krb_packet.specs.Steps.{found, if_valid, next, passed}
use Rattle.krb_packet.specs.Tunnels.{is_served, is_tunnel, tunnel}
use Rattle.krb_source.specs.declared.endpoint.Endpoint.{Endpoint}
use Rattle.krb_packet.specs.declared.contents.Ends.{Ends}
use Rattle.krb_packet.specs.declared.contents.Original.{Original}
use Rattle.krb_packet.specs.declared.contents.Contents.{Contents}
use Rattle.krb_packet.specs.declared.contents.Contents.TheVariants as contents
use Rattle.krb_packet.specs.declared.header.Addresses.{Addresses}
use Rattle.krb_packet.specs.declared.header.Header.{Header}
use Rattle.krb_packet.specs.declared.header.Header.TheVariants as headers
use Rattle.krb_packet.specs.declared.header.Step.{Step}
use Rattle.krb_packet.specs.declared.header.Step.TheVariants as steps
use Rattle.krb_packet.specs.declared.packet.LinkType.{LinkType}
use Rattle.krb_packet.specs.declared.packet.LinkType.TheVariants as links

-- ---- UDP (RFC 768): the length counts the header of eight octets, too. Octets may follow it within the length of IP.

unfoldable pub datagram : Ends → Captured → Option Contents
datagram ends packet = do
  length ← number16 4 packet
  rest ← after 8 packet
  if_valid (nat_le 8 length) (contents.Datagram (record { source = ends.source; target = ends.target; payload = within (length - 8) rest; surplus = past (length - 8) rest }))

-- ---- TCP (RFC 9293, 3.1): the data offset counts words of four octets. The twenty octets before the options have to be captured, and the options have to be on the wire.

abbrev pub is_set : ℕ → ℕ → Bool
is_set flag flags = not (bit_and flags flag == 0)

unfoldable pub segment : Ends → Captured → Option Contents
segment ends packet = do
  sequence ← number32 4 packet
  offset ← number8 12 packet
  flags ← number8 13 packet
  options ← after 20 packet
  rest ← beyond (offset / 16 * 4) packet
  if_valid (nat_le 5 (offset / 16)) (contents.Segment (record { source = ends.source; target = ends.target; sequence = sequence; fin = is_set 1 flags; syn = is_set 2 flags; rst = is_set 4 flags; ack = is_set 16 flags; payload = rest }))

-- ---- The ports come first in both. Between others than one looks for, the rest of the header is of no interest.

abbrev pub or_unread_between : Ends → Option Contents → Contents
or_unread_between between None = contents.UnreadBetween between
or_unread_between between (Some read) = read

-- to the port of a tunnel, which may be in it
unfoldable pub udp : Addresses → Captured → Option Step
udp addresses packet = do
  between ← ends addresses.source addresses.target packet
  when (is_tunnel between.target.port) (λ _. next (headers.Tunnel addresses) packet) (λ _. Some (found (or_unread_between between (datagram between packet))))

-- It is one, unless a port is of Kerberos.
unfoldable pub datagram_or_tunnel : ℕ → Addresses → Captured → Option Step
datagram_or_tunnel port addresses packet = do
  between ← ends addresses.source addresses.target packet
  when (is_served port between) (λ _. Some (found (or_unread_between between (datagram between packet)))) (λ _. tunnel between packet)

unfoldable pub tcp : Addresses → Captured → Option Step
tcp addresses packet = do
  between ← ends addresses.source addresses.target packet
  Some (found (or_unread_between between (segment between packet)))

-- ---- what follows IP, by its protocol. Each that is not named here or in Passed is unread: a packet may be in it.

-- AH (RFC 4302, 2): its length counts words of four octets, less two, and it has three of them at least
unfoldable pub authentication : Addresses → Captured → Option Step
authentication addresses packet = do
  protocol ← number8 0 packet
  words ← number8 1 packet
  rest ← after (4 * words + 8) packet
  if_valid (nat_le 1 words) (steps.Next (headers.Protocol addresses protocol) rest)

-- UDP, TCP, AH, IP in IP and GRE
abbrev pub is_followed : ℕ → Bool
is_followed protocol = protocol == 17 || (protocol == 6 || (protocol == 51 || (protocol == 4 || (protocol == 41 || protocol == 47))))

unfoldable pub of_other_protocol : Addresses → ℕ → Captured → Option Step
of_other_protocol addresses protocol packet =
    when (protocol == 51) (λ _. authentication addresses packet) (λ _.
    when (protocol == 4) (λ _. next (headers.Type 0x0800) packet) (λ _.
    when (protocol == 41) (λ _. next (headers.Type 0x86DD) packet) (λ _.
    when (protocol == 47) (λ _. gre packet) (λ _.
    when (protocol == 1 || protocol == 58) (λ _. Some (found (icmp addresses protocol packet))) (λ _.
    when (is_passed_protocol protocol) (λ _. passed) (λ _.
    None))))))

-- UDP and TCP; all else is left to another step
unfoldable pub of_protocol : Addresses → ℕ → Captured → Option Step
of_protocol addresses protocol packet =
    when (protocol == 17) (λ _. udp addresses packet) (λ _.
    when (protocol == 6) (λ _. tcp addresses packet) (λ _.
    next (headers.Other addresses protocol) packet))

-- ---- IP. Octets after the length in the header are padding; a length of 0, as segmentation offload leaves it, means all octets.

unfoldable pub announced : ℕ → Captured → Captured
announced size packet = when (size == 0) (λ _. packet) (λ _. within size packet)

-- a fragment of an IP datagram: what it has in common with the others, the protocol of what it begins with, its offset, and its octets
abbrev pub fragment_of : Original → ℕ → ℕ → Bool → Captured → Contents
fragment_of original protocol offset is_last payload = contents.Fragment (record { original = original; protocol = protocol; offset = offset; is_last = is_last; payload = payload })

-- It is kept if its protocol is followed, and else passed over or unread as that is.
unfoldable pub of_fragment : Bool → ℕ → Contents → Option Step
of_fragment is_kept protocol fragment =
    when is_kept (λ _. Some (found fragment)) (λ _.
    when (is_passed_protocol protocol) (λ _. passed) (λ _.
    None))

abbrev pub original4 : Addresses → ℕ → ℕ → Original
original4 addresses identification protocol = record { source = addresses.source; target = addresses.target; identification = identification; protocol = Some protocol }

-- IPv4 (RFC 791, 3.1): the header counts words of four octets. The fragment offset, of 13 bits, counts groups of eight; the bit before it says that more fragments follow. Of a whole datagram both are 0.
unfoldable pub ipv4 : Captured → Option Step
ipv4 packet = do
  first ← number8 0 packet
  total ← number16 2 packet
  identification ← number16 4 packet
  flags ← number16 6 packet
  protocol ← number8 9 packet
  source ← field 4 12 packet
  target ← field 4 16 packet
  rest ← after (first % 16 * 4) (announced total packet)
  valid ← if_valid (first / 16 == 4 && nat_le 5 (first % 16)) rest
  when (flags % 2 ^ 14 == 0)
      (λ _. of_protocol (addresses4 source target) protocol valid)
      (λ _. of_fragment (is_followed protocol) protocol (fragment_of (original4 (addresses4 source target) identification protocol) protocol (flags % 2 ^ 13 * 8) (flags / 2 ^ 13 % 2 == 0) valid))

unfoldable pub is_whole : Captured → Bool
is_whole packet = option_map_or (λ offset. offset / 8 == 0 && offset % 2 == 0) (number16 2 packet) false

-- hop-by-hop options, routing, destination options, and the fragment header
abbrev pub is_skipped : ℕ → Captured → Bool
is_skipped kind packet = when (is_option_header kind) (λ _. true) (λ _. when (kind == 44) (λ _. is_whole packet) (λ _. false))

abbrev pub extensions : ℕ → ℕ → Captured → Option (ℕ × Captured)
extensions = skip_headers is_skipped extension

-- a protocol that is followed, or a header that may come before one
abbrev pub may_lead_on : ℕ → Bool
may_lead_on kind = is_followed kind || (kind == 0 || (kind == 43 || (kind == 44 || kind == 60)))

-- any other fragment: the offset counts groups of eight octets, and three bits follow it, of which the last one says that more fragments follow
unfoldable pub fragment : Addresses → Captured → Option Step
fragment addresses packet = do
  next ← number8 0 packet
  offset ← number16 2 packet
  identification ← number32 4 packet
  rest ← after 8 packet
  of_fragment (may_lead_on next) next (fragment_of (record { source = addresses.source; target = addresses.target; identification = identification; protocol = None }) next (offset / 8 * 8) (offset % 2 == 0) rest)

-- what follows the extension headers, the first of which is of this kind
unfoldable pub after_headers : Addresses → ℕ → Captured → Option Step
after_headers addresses kind packet = do
  last ← extensions (length packet.octets + 1) kind packet
  when (last.0 == 44) (λ _. fragment addresses last.1) (λ _. of_protocol addresses last.0 last.1)

-- RFC 8200, 3
unfoldable pub ipv6 : Captured → Option Step
ipv6 packet = do
  first ← number8 0 packet
  size ← number16 4 packet
  kind ← number8 6 packet
  source ← field 16 8 packet
  target ← field 16 24 packet
  rest ← after 40 packet
  valid ← if_valid (first / 16 == 6) (announced size rest)
  after_headers (addresses6 source target) kind valid

-- what follows a header of IP, whose version the addresses have
abbrev pub payload_between : IpAddr → Addresses → ℕ → Captured → Option Step
payload_between (ip.V4 source) addresses kind packet = of_protocol addresses kind packet
payload_between (ip.V6 source) addresses kind packet = after_headers addresses kind packet

unfoldable pub payload_of : Addresses → ℕ → Captured → Option Step
payload_of addresses kind packet = payload_between addresses.source addresses kind packet

-- IPv4 or IPv6, by the version
unfoldable pub raw_ip : Captured → Option Step
raw_ip packet = do
  first ← number8 0 packet
  when (first / 16 == 4) (λ _. ipv4 packet) (λ _. when (first / 16 == 6) (λ _. ipv6 packet) (λ _. None))

-- ---- what follows an EtherType. Each that is not named here or in Passed is unread.

-- tags: IEEE 802.1Q, 802.1ad, and three numbers that were used before these
abbrev pub is_tag : ℕ → Bool
is_tag kind = kind == 0x8100 || (kind == 0x88A8 || (kind == 0x9100 || (kind == 0x9200 || kind == 0x9300)))

unfoldable pub tag : Captured → Option Step
tag packet = do
  kind ← number16 2 packet
  rest ← after 4 packet
  next (headers.TypeOrLength kind) rest

unfoldable pub of_type : ℕ → Captured → Option Step
of_type kind packet =
    when (kind == 0x0800) (λ _. ipv4 packet) (λ _.
    when (kind == 0x86DD) (λ _. ipv6 packet) (λ _.
    when (is_tag kind) (λ _. tag packet) (λ _.
    when (kind == 0x8847 || kind == 0x8848) (λ _. label packet) (λ _.
    when (kind == 0x8864) (λ _. session packet) (λ _.
    when (kind == 0x6558) (λ _. next headers.Ethernet packet) (λ _.
    when (is_passed_type kind) (λ _. passed) (λ _.
    None)))))))

-- ---- 802.2: two service access points and a control octet

-- SNAP (IEEE 802): an organization, and a number of its own. That of 000000 and 0000F8 is an EtherType, and with 0080C2 a bridged frame follows, which is not followed.
unfoldable pub snap_type : Captured → Option Step
snap_type packet = do
  kind ← number16 6 packet
  rest ← after 8 packet
  of_type kind rest

unfoldable pub snap : Captured → Option Step
snap packet = do
  high ← number16 3 packet
  low ← number8 5 packet
  when (high == 0 && (low == 0 || low == 0xF8)) (λ _. snap_type packet) (λ _. when (high == 0x0080 && low == 0xC2) (λ _. None) (λ _. passed))

-- AA AA 03 is SNAP, and 06 06 03 IPv4
unfoldable pub logical_link : Captured → Option Step
logical_link packet = do
  points ← number16 0 packet
  control ← number8 2 packet
  when (points == 0xAAAA && control == 3) (λ _. snap packet) (λ _. when (points == 0x0606 && control == 3) (λ _. after 3 packet >>= ipv4) (λ _. passed))

-- the number in Ethernet and in tags: up to 1500 it is a length, and 802.2 follows (IEEE 802.3, 3.2.6)
unfoldable pub of_type_or_length : ℕ → Captured → Option Step
of_type_or_length kind packet = when (nat_le kind 0x05DC) (λ _. logical_link packet) (λ _. of_type kind packet)

-- ---- Links

-- IP; all else is left to another step
unfoldable pub ethernet : Captured → Option Step
ethernet packet = do
  kind ← number16 12 packet
  rest ← after 14 packet
  when (kind == 0x0800) (λ _. ipv4 rest) (λ _. when (kind == 0x86DD) (λ _. ipv6 rest) (λ _. next (headers.TypeOrLength kind) rest))

-- Linux cooked: a header of n octets, with the type of hardware and an EtherType after so many others. With hardware 824, netlink, no packet follows; with 770 and 803 another header does, which is not read. 4 stands for 802.2.
unfoldable pub cooked_type : ℕ → ℕ → Captured → Option Step
cooked_type at size packet = do
  kind ← number16 at packet
  rest ← after size packet
  when (kind == 4) (λ _. logical_link rest) (λ _. of_type kind rest)

unfoldable pub cooked : ℕ → ℕ → ℕ → Captured → Option Step
cooked hardware_at at size packet = do
  hardware ← number16 hardware_at packet
  when (hardware == 824) (λ _. passed) (λ _. when (hardware == 770 || hardware == 803) (λ _. None) (λ _. cooked_type at size packet))

-- AF_INET, and the numbers of AF_INET6 in Linux, in Windows and in the systems of BSD
unfoldable pub of_family : ℕ → Captured → Option Step
of_family family packet =
    when (family == 2) (λ _. ipv4 packet) (λ _.
    when (family == 10 || (family == 23 || (family == 24 || (family == 28 || family == 30)))) (λ _. ipv6 packet) (λ _.
    None))

unfoldable pub openbsd_loopback : Captured → Option Step
openbsd_loopback packet = do
  family ← number32 0 packet
  rest ← after 4 packet
  of_family family rest

-- the family in either byte order
abbrev pub in_either_order : ℕ → ℕ
in_either_order family = when (family % 2 ^ 24 == 0) (λ _. family / 2 ^ 24) (λ _. family)

unfoldable pub bsd_loopback : Captured → Option Step
bsd_loopback packet = do
  family ← number32 0 packet
  rest ← after 4 packet
  of_family (in_either_order family) rest

unfoldable pub frame : LinkType → Captured → Option Step
frame links.Ethernet packet = ethernet packet
frame links.LinuxCooked packet = cooked 2 14 16 packet
frame links.LinuxCooked2 packet = cooked 8 0 20 packet
frame links.RawIp packet = raw_ip packet
frame links.Ipv4 packet = ipv4 packet
frame links.Ipv6 packet = ipv6 packet
frame links.BsdLoopback packet = bsd_loopback packet
frame links.OpenBsdLoopback packet = openbsd_loopback packet
frame (links.Other number) packet = None

-- ---- the walk, from one header to the next, up to what is found. The port is that of KDCs.

unfoldable pub step : ℕ → Header → Captured → Option Step
step port headers.Ethernet packet = ethernet packet
step port (headers.TypeOrLength kind) packet = of_type_or_length kind packet
step port (headers.Type kind) packet = of_type kind packet
step port headers.Internet packet = raw_ip packet
step port (headers.Protocol addresses kind) packet = payload_of addresses kind packet
step port (headers.Other addresses kind) packet = of_other_protocol addresses kind packet
step port (headers.Tunnel addresses) packet = datagram_or_tunnel port addresses packet

-- what is found, or what the rest of a walk finds
abbrev pub onwards : (Header → Captured → Option Contents) → Step → Option Contents
onwards rest_of_walk (steps.Found read) = Some read
onwards rest_of_walk (steps.Next header packet) = rest_of_walk header packet

-- at most as many steps as the second number
abbrev pub walk : ℕ → ℕ → Header → Captured → Option Contents
walk port zero header packet = None
walk port (suc bound) header packet = step port header packet >>= onwards (walk port bound)

-- ---- a packet. Of three steps one takes four octets or more, so there are no more of them than octets.

abbrev pub or_unread : Option Contents → Contents
or_unread None = contents.Unread
or_unread (Some read) = read

abbrev pub contents_of : ℕ → LinkType → Captured → Contents
contents_of port link packet = or_unread (frame link packet >>= onwards (walk port (length packet.octets)))
