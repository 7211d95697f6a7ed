-- The walk from one header to the next keeps to the octets of a packet.
use Rattle.std.proofs.Common.{ℕ, zero, suc, ◌+◌, ◌*◌, ◌/◌, ◌%◌, ◌^◌, ◌==◌, ◌||◌, ◌&&◌, nat_le, Bool, length, Option, Some, None, IfSome, arith}
use Rattle.std.specs.declared.net.ip_addr.IpAddr.{IpAddr}
use Rattle.std.specs.declared.net.ip_addr.IpAddr.TheVariants as ip
use Rattle.krb_packet.specs.Contents.{after_headers, announced, bsd_loopback, contents_of, cooked, cooked_type, ethernet, extensions, fragment, frame, ipv4, ipv6, is_skipped, is_tag, logical_link, of_family, of_fragment, of_type, of_type_or_length, onwards, openbsd_loopback, or_unread, payload_between, payload_of, raw_ip, snap, snap_type, step, tag, walk}
use Rattle.krb_packet.specs.Headers.{addresses4, addresses6}
use Rattle.krb_packet.specs.Payloads.{Captured, ◌>>=◌, after, field, number16, number32, number8}
use Rattle.krb_packet.specs.Passed.{is_passed_protocol, is_passed_type}
use Rattle.krb_packet.specs.Steps.{if_valid}
use Rattle.krb_packet.specs.declared.contents.Contents.{Contents}
use Rattle.krb_packet.specs.declared.header.Addresses.{Addresses}
use Rattle.krb_packet.specs.declared.header.Header.{Header}
use Rattle.krb_packet.specs.declared.header.Header.TheVariants as headers
use Rattle.krb_packet.specs.declared.header.Step.{Step}
use Rattle.krb_packet.specs.declared.header.Step.TheVariants as steps
use Rattle.krb_packet.specs.declared.packet.LinkType.{LinkType}
use Rattle.krb_packet.specs.declared.packet.LinkType.TheVariants as links
use Rattle.krb_tool_laws.proofs.CaptureParts.{AreSoMany, HasOctets, IsNumber, after_octets, either_has, either_if, field_octets, host4, host6, number16_small, then_any, then_if, valid_if, within_octets}
use Rattle.krb_tool_laws.proofs.ContentOctets.{AreContents, AreHosts, FollowsKind, IsHeader, IsStep, label_is, other_is, protocol_is, served_is, session_is, skipped_is}

-- ---- IP
announced_is : (size : ℕ) (packet : Captured) → IsNumber 16 size → HasOctets packet → HasOctets (announced size packet)
unfolding announced
announced_is size packet small are = either_has HasOctets (size == 0) _ _ are (within_octets size packet (omega (arith, small)) are)

kept_is : (is_kept : Bool) (protocol : ℕ) (fragment : Contents) → AreContents fragment → IfSome (of_fragment is_kept protocol fragment) IsStep
unfolding of_fragment
kept_is is_kept protocol fragment is = either_if IsStep is_kept _ _ is (either_if IsStep (is_passed_protocol protocol) _ _ tt tt)

ipv4_is : (packet : Captured) → HasOctets packet → IfSome (ipv4 packet) IsStep
unfolding ipv4
ipv4_is packet are =
    then_any IsStep (number8 0 packet) _ (λ first.
    then_if (IsNumber 16) IsStep (number16 2 packet) _ (number16_small 2 packet are) (λ total small.
    then_any IsStep (number16 4 packet) _ (λ identification.
    then_any IsStep (number16 6 packet) _ (λ flags.
    then_any IsStep (number8 9 packet) _ (λ protocol.
    then_if (AreSoMany 4) IsStep (field 4 12 packet) _ (field_octets 4 12 packet are) (λ source from.
    then_if (AreSoMany 4) IsStep (field 4 16 packet) _ (field_octets 4 16 packet are) (λ target to.
    then_if HasOctets IsStep (after (first % 16 * 4) (announced total packet)) _ (after_octets (first % 16 * 4) (announced total packet) (announced_is total packet small are)) (λ rest rest_are.
    then_if HasOctets IsStep (if_valid (first / 16 == 4 && nat_le 5 (first % 16)) rest) _ (valid_if HasOctets (first / 16 == 4 && nat_le 5 (first % 16)) rest rest_are) (λ valid valid_are.
    either_if IsStep (flags % 2 ^ 14 == 0) _ _
    (protocol_is (addresses4 source target) protocol valid (host4 source from, host4 target to) valid_are)
    (kept_is _ protocol _ ((host4 source from, host4 target to), valid_are)))))))))))

fragment_is : (addresses : Addresses) (packet : Captured) → AreHosts addresses → HasOctets packet → IfSome (fragment addresses packet) IsStep
unfolding fragment
fragment_is addresses packet hosts are =
    then_any IsStep (number8 0 packet) _ (λ next.
    then_any IsStep (number16 2 packet) _ (λ offset.
    then_any IsStep (number32 4 packet) _ (λ identification.
    then_if HasOctets IsStep (after 8 packet) _ (after_octets 8 packet are) (λ rest rest_are.
    kept_is _ next _ (hosts, rest_are)))))

headers_are : (addresses : Addresses) (kind : ℕ) (packet : Captured) → AreHosts addresses → HasOctets packet → IfSome (after_headers addresses kind packet) IsStep
unfolding after_headers
headers_are addresses kind packet hosts are =
    then_if FollowsKind IsStep (extensions (length packet.octets + 1) kind packet) _ (skipped_is is_skipped (length packet.octets + 1) kind packet are) (λ last last_are.
    either_if IsStep (last.0 == 44) _ _ (fragment_is addresses last.1 hosts last_are) (protocol_is addresses last.0 last.1 hosts last_are))

ipv6_is : (packet : Captured) → HasOctets packet → IfSome (ipv6 packet) IsStep
unfolding ipv6
ipv6_is packet are =
    then_any IsStep (number8 0 packet) _ (λ first.
    then_if (IsNumber 16) IsStep (number16 4 packet) _ (number16_small 4 packet are) (λ size small.
    then_any IsStep (number8 6 packet) _ (λ kind.
    then_if (AreSoMany 16) IsStep (field 16 8 packet) _ (field_octets 16 8 packet are) (λ source from.
    then_if (AreSoMany 16) IsStep (field 16 24 packet) _ (field_octets 16 24 packet are) (λ target to.
    then_if HasOctets IsStep (after 40 packet) _ (after_octets 40 packet are) (λ rest rest_are.
    then_if HasOctets IsStep (if_valid (first / 16 == 6) (announced size rest)) _ (valid_if HasOctets (first / 16 == 6) (announced size rest) (announced_is size rest small rest_are)) (λ valid valid_are.
    headers_are (addresses6 source target) kind valid (host6 source from, host6 target to) valid_are)))))))

between_is : (from : IpAddr) (addresses : Addresses) (kind : ℕ) (packet : Captured) → AreHosts addresses → HasOctets packet → IfSome (payload_between from addresses kind packet) IsStep
between_is (ip.V4 from) addresses kind packet hosts are = protocol_is addresses kind packet hosts are
between_is (ip.V6 from) addresses kind packet hosts are = headers_are addresses kind packet hosts are

payload_of_is : (addresses : Addresses) (kind : ℕ) (packet : Captured) → AreHosts addresses → HasOctets packet → IfSome (payload_of addresses kind packet) IsStep
unfolding payload_of
payload_of_is addresses kind packet hosts are = between_is addresses.source addresses kind packet hosts are

raw_is : (packet : Captured) → HasOctets packet → IfSome (raw_ip packet) IsStep
unfolding raw_ip
raw_is packet are = then_any IsStep (number8 0 packet) _ (λ first. either_if IsStep (first / 16 == 4) _ _ (ipv4_is packet are) (either_if IsStep (first / 16 == 6) _ _ (ipv6_is packet are) tt))

-- ---- what follows an EtherType
tag_is : (packet : Captured) → HasOctets packet → IfSome (tag packet) IsStep
unfolding tag
tag_is packet are =
    then_any IsStep (number16 2 packet) _ (λ kind.
    then_if HasOctets IsStep (after 4 packet) _ (after_octets 4 packet are) (λ rest rest_are. (tt, rest_are)))

type_is : (kind : ℕ) (packet : Captured) → HasOctets packet → IfSome (of_type kind packet) IsStep
unfolding of_type
type_is kind packet are =
    either_if IsStep (kind == 0x0800) _ _ (ipv4_is packet are)
    (either_if IsStep (kind == 0x86DD) _ _ (ipv6_is packet are)
    (either_if IsStep (is_tag kind) _ _ (tag_is packet are)
    (either_if IsStep (kind == 0x8847 || kind == 0x8848) _ _ (label_is packet are)
    (either_if IsStep (kind == 0x8864) _ _ (session_is packet are)
    (either_if IsStep (kind == 0x6558) _ _ (tt, are)
    (either_if IsStep (is_passed_type kind) _ _ tt tt))))))

snap_type_is : (packet : Captured) → HasOctets packet → IfSome (snap_type packet) IsStep
unfolding snap_type
snap_type_is packet are =
    then_any IsStep (number16 6 packet) _ (λ kind.
    then_if HasOctets IsStep (after 8 packet) _ (after_octets 8 packet are) (λ rest rest_are. type_is kind rest rest_are))

snap_is : (packet : Captured) → HasOctets packet → IfSome (snap packet) IsStep
unfolding snap
snap_is packet are = then_any IsStep (number16 3 packet) _ (λ high. then_any IsStep (number8 5 packet) _ (λ low. either_if IsStep (high == 0 && (low == 0 || low == 0xF8)) _ _ (snap_type_is packet are) (either_if IsStep (high == 0x0080 && low == 0xC2) _ _ tt tt)))

logical_is : (packet : Captured) → HasOctets packet → IfSome (logical_link packet) IsStep
unfolding logical_link
logical_is packet are =
    then_any IsStep (number16 0 packet) _ (λ points.
    then_any IsStep (number8 2 packet) _ (λ control.
    either_if IsStep (points == 0xAAAA && control == 3) _ _ (snap_is packet are)
    (either_if IsStep (points == 0x0606 && control == 3) _ _ (then_if HasOctets IsStep (after 3 packet) ipv4 (after_octets 3 packet are) ipv4_is) tt)))

length_is : (kind : ℕ) (packet : Captured) → HasOctets packet → IfSome (of_type_or_length kind packet) IsStep
unfolding of_type_or_length
length_is kind packet are = either_if IsStep (nat_le kind 0x05DC) _ _ (logical_is packet are) (type_is kind packet are)

-- ---- links
ethernet_is : (packet : Captured) → HasOctets packet → IfSome (ethernet packet) IsStep
unfolding ethernet
ethernet_is packet are =
    then_any IsStep (number16 12 packet) _ (λ kind.
    then_if HasOctets IsStep (after 14 packet) _ (after_octets 14 packet are) (λ rest rest_are.
    either_if IsStep (kind == 0x0800) _ _ (ipv4_is rest rest_are) (either_if IsStep (kind == 0x86DD) _ _ (ipv6_is rest rest_are) (tt, rest_are))))

cooked_type_is : (at size : ℕ) (packet : Captured) → HasOctets packet → IfSome (cooked_type at size packet) IsStep
unfolding cooked_type
cooked_type_is at size packet are =
    then_any IsStep (number16 at packet) _ (λ kind.
    then_if HasOctets IsStep (after size packet) _ (after_octets size packet are) (λ rest rest_are.
    either_if IsStep (kind == 4) _ _ (logical_is rest rest_are) (type_is kind rest rest_are)))

cooked_is : (hardware_at at size : ℕ) (packet : Captured) → HasOctets packet → IfSome (cooked hardware_at at size packet) IsStep
unfolding cooked
cooked_is hardware_at at size packet are =
    then_any IsStep (number16 hardware_at packet) _ (λ hardware. either_if IsStep (hardware == 824) _ _ tt (either_if IsStep (hardware == 770 || hardware == 803) _ _ tt (cooked_type_is at size packet are)))

family_is : (family : ℕ) (packet : Captured) → HasOctets packet → IfSome (of_family family packet) IsStep
unfolding of_family
family_is family packet are = either_if IsStep (family == 2) _ _ (ipv4_is packet are) (either_if IsStep (family == 10 || (family == 23 || (family == 24 || (family == 28 || family == 30)))) _ _ (ipv6_is packet are) tt)

openbsd_is : (packet : Captured) → HasOctets packet → IfSome (openbsd_loopback packet) IsStep
unfolding openbsd_loopback
openbsd_is packet are =
    then_any IsStep (number32 0 packet) _ (λ family.
    then_if HasOctets IsStep (after 4 packet) _ (after_octets 4 packet are) (λ rest rest_are. family_is family rest rest_are))

bsd_is : (packet : Captured) → HasOctets packet → IfSome (bsd_loopback packet) IsStep
unfolding bsd_loopback
bsd_is packet are =
    then_any IsStep (number32 0 packet) _ (λ family.
    then_if HasOctets IsStep (after 4 packet) _ (after_octets 4 packet are) (λ rest rest_are. family_is _ rest rest_are))

frame_is : (link : LinkType) (packet : Captured) → HasOctets packet → IfSome (frame link packet) IsStep
unfolding frame
frame_is links.Ethernet packet are = ethernet_is packet are
frame_is links.LinuxCooked packet are = cooked_is 2 14 16 packet are
frame_is links.LinuxCooked2 packet are = cooked_is 8 0 20 packet are
frame_is links.RawIp packet are = raw_is packet are
frame_is links.Ipv4 packet are = ipv4_is packet are
frame_is links.Ipv6 packet are = ipv6_is packet are
frame_is links.BsdLoopback packet are = bsd_is packet are
frame_is links.OpenBsdLoopback packet are = openbsd_is packet are
frame_is (links.Other number) packet are = tt

-- ---- the walk
step_is : (port : ℕ) (header : Header) (packet : Captured) → IsHeader header → HasOctets packet → IfSome (step port header packet) IsStep
unfolding step
step_is port headers.Ethernet packet is are = ethernet_is packet are
step_is port (headers.TypeOrLength kind) packet is are = length_is kind packet are
step_is port (headers.Type kind) packet is are = type_is kind packet are
step_is port headers.Internet packet is are = raw_is packet are
step_is port (headers.Protocol addresses kind) packet is are = payload_of_is addresses kind packet is are
step_is port (headers.Other addresses kind) packet is are = other_is addresses kind packet is are
step_is port (headers.Tunnel addresses) packet is are = served_is port addresses packet is are

onwards_is : (others : Header → Captured → Option Contents) → ((header : Header) (packet : Captured) → IsHeader header → HasOctets packet → IfSome (others header packet) AreContents) → (read : Step) → IsStep read → IfSome (onwards others read) AreContents
onwards_is others each (steps.Found read) is = is
onwards_is others each (steps.Next header packet) is = each header packet is.0 is.1

walk_is : (port bound : ℕ) (header : Header) (packet : Captured) → IsHeader header → HasOctets packet → IfSome (walk port bound header packet) AreContents
walk_is port zero header packet is are = tt
walk_is port (suc bound) header packet is are =
    then_if IsStep AreContents (step port header packet) (onwards (walk port bound)) (step_is port header packet is are) (onwards_is (walk port bound) (walk_is port bound))

unread_is : (read : Option Contents) → IfSome read AreContents → AreContents (or_unread read)
unread_is None is = tt
unread_is (Some read) is = is

pub walked_is : (port bound : ℕ) (header : Header) (packet : Captured) → IsHeader header → HasOctets packet → AreContents (or_unread (walk port bound header packet))
walked_is port bound header packet is are = unread_is (walk port bound header packet) (walk_is port bound header packet is are)

pub contents_are : (port : ℕ) (link : LinkType) (packet : Captured) → HasOctets packet → AreContents (contents_of port link packet)
contents_are port link packet are =
    unread_is (frame link packet >>= onwards (walk port (length packet.octets)))
    (then_if IsStep AreContents (frame link packet) (onwards (walk port (length packet.octets))) (frame_is link packet are) (onwards_is (walk port (length packet.octets)) (walk_is port (length packet.octets))))
