-- Worked examples, computed by the definitions: octets in hexadecimal, and what they are.
use Rattle.std.specs.Prelude.{ℕ, ◌+◌, ◌-◌, ◌≡◌, true, false, Option, Some, None, List, [], ◌∷◌, ◌++◌, codes, length, take, drop, refl}
use Rattle.std.specs.Net.Addr.{segments_of}
use Rattle.std.specs.declared.net.ip_addr.IpAddr.{IpAddr}
use Rattle.std.specs.declared.net.ip_addr.IpAddr.TheVariants as ip
use Rattle.krb_der.specs.Hex.{hex}
use Rattle.krb_file.specs.Fields.{Fault}
use Rattle.krb_source.specs.declared.file_why.FileWhy.{FileWhy}
use Rattle.krb_source.specs.declared.file_why.FileWhy.TheVariants as why
use Rattle.krb_file.specs.declared.field_name.FieldName.{FieldName}
use Rattle.krb_file.specs.declared.field_name.FieldName.TheVariants as fields
use Rattle.krb_file.specs.declared.field_name.FilePart.{FilePart}
use Rattle.krb_file.specs.declared.field_name.FilePart.TheVariants as parts
use Rattle.krb_packet.specs.declared.packet.Packet.{Packet}
use Rattle.krb_packet.specs.declared.packet.LinkType.TheVariants as links
use Rattle.krb_packet.specs.declared.contents.Contents.{Contents}
use Rattle.krb_packet.specs.declared.contents.Contents.TheVariants as contents
use Rattle.krb_packet.specs.declared.contents.Original.{Original}
use Rattle.krb_packet.specs.declared.contents.Fragment.{Fragment}
use Rattle.krb_packet.specs.Payloads.{Captured, field, number8, number16, number32, after, beyond, past, within}
use Rattle.krb_packet.specs.Contents.{after_headers, announced, authentication, contents_of, datagram, ends, ethernet, extension, frame, ipv4, ipv6, logical_link, of_fragment, of_other_protocol, of_protocol, of_type, of_type_or_length, options, payload_of, raw_ip, segment, snap, snap_type, step as header_step, tag, tcp, udp}
use Rattle.krb_packet.specs.Contents.{datagram_or_tunnel}
use Rattle.krb_packet.specs.Envelopes.{after_labels, gre, label, long_ppp, of_gre, of_ppp, pseudowire, session}
use Rattle.krb_packet.specs.Passed.{is_passed_protocol, is_passed_type}
use Rattle.krb_packet.specs.Tunnels.{geneve, is_tunnel, of_port, payload, tunnel, vxlan}
use Rattle.krb_packet.specs.Table.{Table}
use Rattle.krb_packet.specs.Fragments.{no_fragments, step, unread}
use Rattle.krb_packet.specs.Captures.{Packets, packets}

-- ---- a capture with the first segment of a connection from 127.0.0.1:42700 to port 88
abbrev header : List ℕ
header = hex (codes "D4C3B2A1 0200 0400 00000000 00000000 00000400 01000000")

abbrev syn : List ℕ
syn = hex (codes "0000000000000000000000000800 4500003CA4684000400698517F0000017F000001 A6CC0058F4C415CF00000000A002FFD7FE3000000204FFD70402080A4E7F3EED000000000103030A")

abbrev captured : List ℕ
captured = hex (codes "13C7066B27D80100 4A000000 4A000000") ++ syn

abbrev packet : Packet
packet = record { number = 1; time = Some (record { seconds = 1795606291; nanoseconds = 120871000 }); link = links.Ethernet; octets = syn; size = 74 }

abbrev only : List Packet → Packets
only found = record { items = found; end = None }

one_is_read : packets (header ++ captured) ≡ only (packet ∷ [])
one_is_read = refl

-- a file of no packets
none_is_read : packets header ≡ only []
none_is_read = refl

-- ---- a pcapng: a section header, an interface, and a packet of which two octets were not captured
abbrev section : List ℕ
section = hex (codes "0A0D0D0A 1C000000 4D3C2B1A 0100 0000 FFFFFFFFFFFFFFFF 1C000000")

abbrev interface : List ℕ
interface = hex (codes "01000000 14000000 0100 0000 00000400 14000000")

abbrev block : List ℕ
block = hex (codes "06000000 24000000 00000000 18610600E782232B 03000000 05000000 6B657300 24000000")

abbrev in_block : Packet
in_block = record { number = 1; time = Some (record { seconds = 1795606291; nanoseconds = 120871000 }); link = links.Ethernet; octets = hex (codes "6B6573"); size = 5 }

block_is_read : packets (section ++ interface ++ block) ≡ only (in_block ∷ [])
block_is_read = refl

-- of an interface whose times are nanoseconds (9) after the first ten seconds of 1970 (14)
abbrev clocked : List ℕ
clocked = hex (codes "01000000 2C000000 0100 0000 00000400 0900 0100 09000000 0E00 0800 0A00000000000000 0000 0000 2C000000")

abbrev timed : List ℕ
timed = hex (codes "06000000 24000000 00000000 6646EB185872AB2E 03000000 05000000 6B657300 24000000")

clock_is_read : packets (section ++ clocked ++ timed) ≡ only (in_block ∷ [])
clock_is_read = refl

-- ---- refusals: the first field at fault, and the packets before it
abbrev refused : List Packet → Fault → Packets
refused found fault = record { items = found; end = Some fault }

-- in a packet, in a block, or in a field, which begins at the first number
abbrev fault : ℕ → ℕ → FileWhy → Option FilePart → FieldName → Fault
fault begin place reason part name = record { place = place; why = reason; field = Some (record { part = part; name = name }); begin = begin }

magic_is_refused : packets captured ≡ refused [] (fault 0 0 why.Magic None fields.Magic)
magic_is_refused = refl

version_is_refused : packets (hex (codes "A1B23C4D 0002 0003")) ≡ refused [] (fault 4 4 why.Version None fields.Version)
version_is_refused = refl

cut_packet_is_refused : packets (header ++ captured ++ take 50 captured) ≡ refused (packet ∷ []) (fault 114 130 why.Truncated (Some (parts.Packet 1)) fields.Data)
cut_packet_is_refused = refl

long_packet_is_refused : packets (hex (codes "A1B2C3D4 0002 0004 00000000 00000000 00000400 00000065 00000001 00000000 01000001")) ≡ refused [] (fault 24 32 (why.TooLong 0x01000001) (Some (parts.Packet 0)) fields.CapturedLength)
long_packet_is_refused = refl

interface_is_refused : packets (section ++ block) ≡ refused [] (fault 28 36 why.Overrun (Some (parts.Block 1)) fields.Interface)
interface_is_refused = refl

cut_block_is_refused : packets (section ++ interface ++ block ++ take 20 block) ≡ refused (in_block ∷ []) (fault 84 92 why.Truncated (Some (parts.Block 3)) fields.Body)
cut_block_is_refused = refl

length_is_refused : packets (section ++ hex (codes "06000000 0A000000")) ≡ refused [] (fault 28 32 (why.WrongLength 10) (Some (parts.Block 1)) fields.Length)
length_is_refused = refl

-- ---- what a packet carries
abbrev whole : List ℕ → Captured
whole octets = record { octets = octets; size = length octets }

abbrev local : IpAddr
local = ip.V4 (record { octets = 127 ∷ 0 ∷ 0 ∷ 1 ∷ [] })

segment_is_carried : contents_of 88 links.Ethernet (whole syn) ≡ contents.Segment (record { source = record { address = local; port = 42700 }; target = record { address = local; port = 88 }; sequence = 4106491343; fin = false; syn = true; rst = false; ack = false; payload = record { octets = []; size = 0 } })
unfolding frame ethernet of_type_or_length of_type number16 number8 number32 field after beyond within ipv4 announced of_protocol tcp ends segment
segment_is_carried = refl

-- of which the last option is cut, or the last octet before the options, or all but the source's port
abbrev without_octets : ℕ → Captured
without_octets missing = record { octets = take (74 - missing) syn; size = 74 }

cut_options_are_passed : contents_of 88 links.Ethernet (without_octets 1) ≡ contents_of 88 links.Ethernet (whole syn)
unfolding frame ethernet of_type_or_length of_type number16 number8 number32 field after beyond within ipv4 announced of_protocol tcp ends segment
cut_options_are_passed = refl

cut_header_is_unread : contents_of 88 links.Ethernet (without_octets 21) ≡ contents.UnreadBetween (record { source = record { address = local; port = 42700 }; target = record { address = local; port = 88 } })
unfolding frame ethernet of_type_or_length of_type number16 number8 number32 field after beyond within ipv4 announced of_protocol tcp ends segment
cut_header_is_unread = refl

cut_ports_are_unread : contents_of 88 links.Ethernet (without_octets 38) ≡ contents.Unread
unfolding frame ethernet of_type_or_length of_type number16 number8 number32 field after beyond within ipv4 announced of_protocol tcp ends segment
cut_ports_are_unread = refl

-- a datagram in IPv6 after hop-by-hop options and two VLAN tags, of which two octets are padding and two were not captured
abbrev loopback : IpAddr
loopback = ip.V6 (record { segments = segments_of (hex (codes "00000000000000000000000000000001")) })

abbrev tagged : List ℕ
tagged = hex (codes "000000000000 000000000000 88A8 0005 8100 002A 86DD 60000000 0015 00 40 00000000000000000000000000000001 00000000000000000000000000000001 11 00 010400000000 0058 C000 000D 0000 6B6573")

datagram_is_carried : contents_of 88 links.Ethernet (record { octets = tagged; size = length tagged + 4 }) ≡ contents.Datagram (record { source = record { address = loopback; port = 88 }; target = record { address = loopback; port = 49152 }; payload = record { octets = hex (codes "6B6573"); size = 5 }; surplus = record { octets = []; size = 0 } })
unfolding frame ethernet of_type_or_length of_type header_step tag number16 number8 field after past within ipv6 after_headers extension options announced of_protocol udp is_tunnel ends datagram
datagram_is_carried = refl

-- the same datagram in Ethernet after SNAP in a tag, and after an authentication header of IPv4, in which no octet was cut
abbrev udp_octets : List ℕ
udp_octets = hex (codes "0058 C000 000B 0000 6B6573")

abbrev carried_between : IpAddr → Contents
carried_between address = contents.Datagram (record { source = record { address = address; port = 88 }; target = record { address = address; port = 49152 }; payload = whole (hex (codes "6B6573")); surplus = whole [] })

snap_is_carried : contents_of 88 links.Ethernet (whole (hex (codes "000000000000 000000000000 9300 0005 0027 AAAA03 0000F8 0800 45000037 00000000 40330000 7F000001 7F000001 1104 0000 00000000 00000000 000000000000000000000000") ++ udp_octets)) ≡ carried_between local
unfolding frame ethernet of_type_or_length of_type header_step tag logical_link snap snap_type number16 number8 field after past within ipv4 announced of_protocol of_other_protocol authentication payload_of udp is_tunnel ends datagram
snap_is_carried = refl

-- a neighbour is asked for its address, and a packet is encrypted
neighbours_are_passed : contents_of 88 links.Ethernet (whole (hex (codes "000000000000 000000000000 8100 0005 0806"))) ≡ contents.Other
unfolding frame ethernet of_type_or_length of_type header_step tag number16 number8 field after is_passed_type
neighbours_are_passed = refl

encrypted_is_unread : contents_of 88 links.Ethernet (whole (hex (codes "000000000000 000000000000 88E5"))) ≡ contents.Unread
unfolding frame ethernet of_type_or_length of_type header_step number16 field after is_passed_type
encrypted_is_unread = refl

-- the same datagram as a frame of Ethernet, and that in envelopes: in ERSPAN of type I; in VXLAN, whose labels are those of a network of 80; in Geneve, of which an option has four octets; and in a pseudowire of MPLS within a PPPoE session
abbrev framed : List ℕ
framed = hex (codes "020000000001 020000000002 0800 4500001F 00000000 40110000 7F000001 7F000001") ++ udp_octets

erspan_is_carried : contents_of 88 links.RawIp (whole (hex (codes "45000045 00000000 402F0000 C0000201 C0000202 0000 88BE") ++ framed)) ≡ carried_between local
unfolding frame raw_ip ethernet of_type_or_length of_type header_step number16 number8 field after past within ipv4 announced of_protocol of_other_protocol gre of_gre udp is_tunnel ends datagram
erspan_is_carried = refl

vxlan_is_carried : contents_of 88 links.RawIp (whole (hex (codes "45000051 00000000 40110000 C0000201 C0000202 C000 12B5 003D 0000 08000000 00005000") ++ framed)) ≡ carried_between local
unfolding frame raw_ip ethernet of_type_or_length of_type header_step number32 number16 number8 field after past within ipv4 announced of_protocol udp is_tunnel datagram_or_tunnel tunnel payload of_port vxlan ends datagram
vxlan_is_carried = refl

-- to the same port from that of KDCs it is none
reply_is_carried : contents_of 88 links.RawIp (whole (hex (codes "4500001F 00000000 40110000 7F000001 7F000001 0058 12B5 000B 0000 6B6573"))) ≡ contents.Datagram (record { source = record { address = local; port = 88 }; target = record { address = local; port = 4789 }; payload = whole (hex (codes "6B6573")); surplus = whole [] })
unfolding frame raw_ip header_step number16 number8 field after past within ipv4 announced of_protocol udp is_tunnel datagram_or_tunnel ends datagram
reply_is_carried = refl

-- an answer of a name server to that port is passed over, and anything else unread
answer_is_passed : contents_of 88 links.RawIp (whole (hex (codes "4500001F 00000000 40110000 7F000001 7F000001 0035 12B5 000B 0000 6B6573"))) ≡ contents.Other
unfolding frame raw_ip header_step number32 number16 number8 field after past within ipv4 announced of_protocol udp is_tunnel datagram_or_tunnel tunnel payload of_port vxlan ends datagram
answer_is_passed = refl

geneve_is_carried : contents_of 88 links.RawIp (whole (hex (codes "45000055 00000000 40110000 C0000201 C0000202 C000 17C1 0041 0000 01006558 00005000 00000000") ++ framed)) ≡ carried_between local
unfolding frame raw_ip ethernet of_type_or_length of_type header_step number32 number16 number8 field after past within ipv4 announced of_protocol udp is_tunnel datagram_or_tunnel tunnel payload of_port geneve ends datagram
geneve_is_carried = refl

pseudowire_is_carried : contents_of 88 links.Ethernet (whole (hex (codes "000000000000 000000000000 8864 1100 0001 0000 0281 00010040 00020140 00000000") ++ framed)) ≡ carried_between local
unfolding frame ethernet of_type_or_length of_type header_step session long_ppp of_ppp label after_labels pseudowire number16 number8 field after past within ipv4 announced of_protocol udp is_tunnel ends datagram
pseudowire_is_carried = refl

-- ---- fragments: the segment above in two, of 16 octets and of 24
abbrev segment_octets : List ℕ
segment_octets = drop 34 syn

abbrev first_octets : List ℕ
first_octets = take 16 segment_octets

abbrev second_octets : List ℕ
second_octets = drop 16 segment_octets

abbrev original : Original
original = record { source = local; target = local; identification = 0xA468; protocol = Some 6 }

abbrev first : Fragment
first = record { original = original; protocol = 6; offset = 0; is_last = false; payload = whole first_octets }

abbrev second : Fragment
second = record { original = original; protocol = 6; offset = 16; is_last = true; payload = whole second_octets }

first_is_carried : contents_of 88 links.RawIp (whole (hex (codes "45000024 A4682000 40060000 7F000001 7F000001") ++ first_octets)) ≡ contents.Fragment first
unfolding frame raw_ip number16 number8 field after within ipv4 announced of_fragment
first_is_carried = refl

second_is_carried : contents_of 88 links.RawIp (whole (hex (codes "4500002C A4680002 40060000 7F000001 7F000001") ++ second_octets)) ≡ contents.Fragment second
unfolding frame raw_ip number16 number8 field after within ipv4 announced of_fragment
second_is_carried = refl

-- a fragment of ICMP is passed over
other_is_passed : contents_of 88 links.RawIp (whole (hex (codes "45000024 A4682000 40010000 7F000001 7F000001") ++ first_octets)) ≡ contents.Other
unfolding frame raw_ip number16 number8 field after within ipv4 announced of_fragment is_passed_protocol
other_is_passed = refl

-- one of ESP is unread
envelope_is_unread : contents_of 88 links.RawIp (whole (hex (codes "45000024 A4682000 40320000 7F000001 7F000001") ++ first_octets)) ≡ contents.Unread
unfolding frame raw_ip number16 number8 field after within ipv4 announced of_fragment is_passed_protocol
envelope_is_unread = refl

-- one after another, and what comes of the last one
abbrev after_all : Table → List Fragment → Table
after_all table [] = table
after_all table (fragment ∷ fragments) = after_all (step table fragment).1 fragments

abbrev table_after : List Fragment → Table
table_after = after_all no_fragments

-- in the other order, the second one twice
fragments_are_put_together : (step (table_after (second ∷ second ∷ [])) first).0 ≡ Some (record { original = original; protocol = 6; octets = segment_octets })
unfolding step
fragments_are_put_together = refl

none_is_left : table_after (second ∷ second ∷ first ∷ []) ≡ no_fragments
unfolding step
none_is_left = refl

-- eight octets of the second one again, as the first ones of a third
abbrev third : Fragment
third = record { original = original; protocol = 6; offset = 8; is_last = false; payload = whole (take 16 (drop 8 segment_octets)) }

overlap_discards : (step (table_after (first ∷ third ∷ [])) second).0 ≡ None
unfolding step
overlap_discards = refl

discarded_are_unread : unread (table_after (first ∷ third ∷ second ∷ [])) ≡ 3
unfolding step unread
discarded_are_unread = refl
