-- What a packet carries is of its octets, and between addresses and ports as their types have them.
use Rattle.std.proofs.Common.{ℕ, zero, suc, ◌+◌, ◌-◌, ◌*◌, ◌/◌, ◌%◌, ◌^◌, ◌<◌, ◌==◌, ◌&&◌, ◌||◌, nat_le, nat_lt, Bool, length, Option, Some, None, IfSome, arith}
use Rattle.std.specs.declared.net.ip_addr.IpAddr.{IpAddr}
use Rattle.krb_packet.specs.Contents.{authentication, datagram, datagram_or_tunnel, fragment, of_other_protocol, of_protocol, or_unread_between, segment, tcp, udp}
use Rattle.std.specs.Prelude.{bit_and}
use Rattle.krb_packet.specs.Envelopes.{after_labels, gre, label, long_ppp, mirrored2, mirrored3, of_frame_kind, of_gre, of_ppp, pseudowire, session}
use Rattle.krb_packet.specs.Headers.{addresses4, addresses6, ends, extension, fragment_header, options, skip_headers}
use Rattle.krb_packet.specs.Icmp.{error, is_error, is_passed_in_quote, icmp, or_passed, protocol_of, quoted, quoted4, quoted6, quoted_after, skip_quoted}
use Rattle.krb_packet.specs.Payloads.{Captured, ◌>>=◌, after, beyond, field, number16, number32, number8}
use Rattle.krb_packet.specs.Passed.{is_passed_protocol}
use Rattle.krb_packet.specs.Steps.{if_valid, passed}
use Rattle.krb_packet.specs.Tunnels.{beside_esp, geneve, keep_alive, key_exchange, of_port, or_answer, is_served, is_tunnel, payload, tunnel, vxlan}
use Rattle.krb_packet.specs.declared.contents.Contents.{Contents}
use Rattle.krb_packet.specs.declared.contents.Contents.TheVariants as contents
use Rattle.krb_packet.specs.declared.contents.Datagram.{Datagram}
use Rattle.krb_packet.specs.declared.contents.Ends.{Ends}
use Rattle.krb_packet.specs.declared.contents.Fragment.{Fragment}
use Rattle.krb_packet.specs.declared.contents.IcmpError.{IcmpError}
use Rattle.krb_packet.specs.declared.contents.QuotedProtocol.{QuotedProtocol}
use Rattle.krb_packet.specs.declared.contents.Segment.{Segment}
use Rattle.krb_packet.specs.declared.header.Addresses.{Addresses}
use Rattle.krb_packet.specs.declared.header.Header.{Header}
use Rattle.krb_packet.specs.declared.header.Header.TheVariants as headers
use Rattle.krb_packet.specs.declared.header.Step.{Step}
use Rattle.krb_packet.specs.declared.header.Step.TheVariants as steps
use Rattle.krb_tool_laws.proofs.CaptureParts.{AreSoMany, HasOctets, IsHost, IsNumber, IsPort, after_octets, beyond_octets, either_if, field_octets, host4, host6, number16_small, number8_small, past_octets, then_any, then_if, valid_if, within_octets}

-- ---- what is shown of each
abbrev pub AreHosts : Addresses → Type 0
AreHosts addresses = IsHost addresses.source × IsHost addresses.target

abbrev pub AreEnds : Ends → Type 0
AreEnds ends = IsPort ends.source × IsPort ends.target

abbrev pub IsFragment : Fragment → Type 0
IsFragment fragment = (IsHost fragment.original.source × IsHost fragment.original.target) × HasOctets fragment.payload

-- its type and its code have an octet each
pub record IsError (error : IcmpError) : Type 0 where
  pub by : IsHost error.by
  pub error_type : error.error_type < 2 ^ 8
  pub code : error.code < 2 ^ 8
  pub ends : AreEnds error.ends

abbrev pub IsDatagram : Datagram → Type 0
IsDatagram datagram = (IsPort datagram.source × IsPort datagram.target) × (HasOctets datagram.payload × HasOctets datagram.surplus)

abbrev pub IsSegment : Segment → Type 0
IsSegment segment = (IsPort segment.source × IsPort segment.target) × HasOctets segment.payload

abbrev pub AreContents : Contents → Type 0
AreContents (contents.Datagram datagram) = IsDatagram datagram
AreContents (contents.Segment segment) = IsSegment segment
AreContents (contents.Fragment fragment) = IsFragment fragment
AreContents (contents.Error error) = IsError error
AreContents contents.Other = Unit {0}
AreContents (contents.UnreadBetween ends) = Unit {0}
AreContents contents.Unread = Unit {0}

abbrev pub IsHeader : Header → Type 0
IsHeader headers.Ethernet = Unit {0}
IsHeader (headers.TypeOrLength kind) = Unit {0}
IsHeader (headers.Type kind) = Unit {0}
IsHeader headers.Internet = Unit {0}
IsHeader (headers.Protocol addresses kind) = AreHosts addresses
IsHeader (headers.Other addresses kind) = AreHosts addresses
IsHeader (headers.Tunnel addresses) = AreHosts addresses

abbrev pub IsStep : Step → Type 0
IsStep (steps.Found read) = AreContents read
IsStep (steps.Next header packet) = IsHeader header × HasOctets packet

-- ---- ports, and what follows them
ends_between : (from to : IpAddr) (packet : Captured) → IsHost from → IsHost to → HasOctets packet → IfSome (ends from to packet) AreEnds
unfolding ends
ends_between from to packet a b are =
    then_if (IsNumber 16) AreEnds (number16 0 packet) _ (number16_small 0 packet are) (λ source from_small.
    then_if (IsNumber 16) AreEnds (number16 2 packet) _ (number16_small 2 packet are) (λ target to_small. (record { host = a; small = from_small }, record { host = b; small = to_small })))

datagram_is : (between : Ends) (packet : Captured) → AreEnds between → HasOctets packet → IfSome (datagram between packet) AreContents
unfolding datagram
datagram_is between packet its are =
    then_if (IsNumber 16) AreContents (number16 4 packet) _ (number16_small 4 packet are) (λ length small.
    then_if HasOctets AreContents (after 8 packet) _ (after_octets 8 packet are) (λ rest rest_are.
    valid_if AreContents (nat_le 8 length) _ (its, (within_octets (length - 8) rest (omega (arith, small)) rest_are, past_octets (length - 8) rest rest_are))))

segment_is : (between : Ends) (packet : Captured) → AreEnds between → HasOctets packet → IfSome (segment between packet) AreContents
unfolding segment
segment_is between packet its are =
    then_any AreContents (number32 4 packet) _ (λ sequence.
    then_any AreContents (number8 12 packet) _ (λ offset.
    then_any AreContents (number8 13 packet) _ (λ flags.
    then_any AreContents (after 20 packet) _ (λ options.
    then_if HasOctets AreContents (beyond (offset / 16 * 4) packet) _ (beyond_octets (offset / 16 * 4) packet are) (λ rest rest_are.
    valid_if AreContents (nat_le 5 (offset / 16)) _ (its, rest_are))))))

read_or_unread : (between : Ends) (read : Option Contents) → IfSome read AreContents → AreContents (or_unread_between between read)
read_or_unread between None is = tt
read_or_unread between (Some read) is = is

udp_is : (addresses : Addresses) (packet : Captured) → AreHosts addresses → HasOctets packet → IfSome (udp addresses packet) IsStep
unfolding udp
udp_is addresses packet hosts are =
    then_if AreEnds IsStep (ends addresses.source addresses.target packet) _ (ends_between addresses.source addresses.target packet hosts.0 hosts.1 are) (λ between its.
    either_if IsStep (is_tunnel between.target.port) _ _ (hosts, are) (read_or_unread between (datagram between packet) (datagram_is between packet its are)))

tcp_is : (addresses : Addresses) (packet : Captured) → AreHosts addresses → HasOctets packet → IfSome (tcp addresses packet) IsStep
unfolding tcp
tcp_is addresses packet hosts are =
    then_if AreEnds IsStep (ends addresses.source addresses.target packet) _ (ends_between addresses.source addresses.target packet hosts.0 hosts.1 are) (λ between its.
    read_or_unread between (segment between packet) (segment_is between packet its are))

-- ---- tunnels
vxlan_is : (packet : Captured) → HasOctets packet → IfSome (vxlan packet) IsStep
unfolding vxlan
vxlan_is packet are =
    then_any IsStep (number32 0 packet) _ (λ flags.
    then_any IsStep (number8 7 packet) _ (λ last.
    then_if HasOctets IsStep (after 8 packet) _ (after_octets 8 packet are) (λ rest rest_are.
    valid_if IsStep ((flags == 0x08000000 || flags / 2 ^ 24 == 0x88) && last == 0) _ (tt, rest_are))))

geneve_is : (packet : Captured) → HasOctets packet → IfSome (geneve packet) IsStep
unfolding geneve
geneve_is packet are =
    then_any IsStep (number8 0 packet) _ (λ first.
    then_any IsStep (number8 1 packet) _ (λ flags.
    then_any IsStep (number16 2 packet) _ (λ kind.
    then_any IsStep (number8 7 packet) _ (λ last.
    then_if HasOctets IsStep (after (first % 64 * 4 + 8) packet) _ (after_octets (first % 64 * 4 + 8) packet are) (λ rest rest_are.
    valid_if IsStep ((first / 64 == 0 && flags % 64 == 0) && (last == 0 && nat_le 0x0600 kind)) _ (tt, rest_are))))))

esp_is : (packet : Captured) → IfSome (beside_esp packet) IsStep
unfolding beside_esp keep_alive key_exchange
esp_is packet = either_if IsStep (packet.size == 1) _ _ (then_any IsStep (number8 0 packet) _ (λ first. valid_if IsStep (first == 0xFF) _ tt)) (then_any IsStep (number32 0 packet) _ (λ marker. valid_if IsStep (marker == 0) _ tt))

port_is : (port : ℕ) (packet : Captured) → HasOctets packet → IfSome (of_port port packet) IsStep
unfolding of_port
port_is port packet are = either_if IsStep (port == 4789 || port == 8472) _ _ (vxlan_is packet are) (either_if IsStep (port == 6081) _ _ (geneve_is packet are) (either_if IsStep (port == 4500) _ _ (esp_is packet) tt))

payload_is : (packet : Captured) → HasOctets packet → IfSome (payload packet) HasOctets
unfolding payload
payload_is packet are =
    then_if (IsNumber 16) HasOctets (number16 4 packet) _ (number16_small 4 packet are) (λ length small.
    then_if HasOctets HasOctets (after 8 packet) _ (after_octets 8 packet are) (λ rest rest_are.
    valid_if HasOctets (nat_le 8 length) _ (within_octets (length - 8) rest (omega (arith, small)) rest_are)))

answer_is : (source : ℕ) (read : Option Step) → IfSome read IsStep → IfSome (or_answer source read) IsStep
answer_is source None is = either_if IsStep (nat_lt source 1024) (λ _. passed) (λ _. None) tt tt
answer_is source (Some read) is = is

tunnel_is : (between : Ends) (packet : Captured) → HasOctets packet → IfSome (tunnel between packet) IsStep
unfolding tunnel
tunnel_is between packet are =
    answer_is between.source.port (payload packet >>= of_port between.target.port)
    (then_if HasOctets IsStep (payload packet) (of_port between.target.port) (payload_is packet are) (λ rest rest_are. port_is between.target.port rest rest_are))

pub served_is : (port : ℕ) (addresses : Addresses) (packet : Captured) → AreHosts addresses → HasOctets packet → IfSome (datagram_or_tunnel port addresses packet) IsStep
unfolding datagram_or_tunnel
served_is port addresses packet hosts are =
    then_if AreEnds IsStep (ends addresses.source addresses.target packet) _ (ends_between addresses.source addresses.target packet hosts.0 hosts.1 are) (λ between its.
    either_if IsStep (is_served port between) _ _ (read_or_unread between (datagram between packet) (datagram_is between packet its are)) (tunnel_is between packet are))

-- ---- envelopes
wire_is : (packet : Captured) → HasOctets packet → IfSome (pseudowire packet) IsStep
unfolding pseudowire
wire_is packet are =
    then_any IsStep (number16 0 packet) _ (λ flags.
    then_if HasOctets IsStep (after 4 packet) _ (after_octets 4 packet are) (λ rest rest_are.
    valid_if IsStep (flags == 0) _ (tt, rest_are)))

labels_is : (packet : Captured) → HasOctets packet → IfSome (after_labels packet) IsStep
unfolding after_labels
labels_is packet are = then_any IsStep (number8 0 packet) _ (λ first. either_if IsStep (first / 16 == 4 || first / 16 == 6) _ _ (tt, are) (either_if IsStep (first / 16 == 1) _ _ tt (wire_is packet are)))

pub label_is : (packet : Captured) → HasOctets packet → IfSome (label packet) IsStep
unfolding label
label_is packet are =
    then_any IsStep (number8 2 packet) _ (λ third.
    then_if HasOctets IsStep (after 4 packet) _ (after_octets 4 packet are) (λ rest rest_are.
    either_if IsStep (third % 2 == 0) _ _ (tt, rest_are) (labels_is rest rest_are)))

ppp_is : (number : ℕ) (packet : Captured) → HasOctets packet → IfSome (of_ppp number packet) IsStep
unfolding of_ppp
ppp_is number packet are = either_if IsStep (number == 0x0021) _ _ (tt, are) (either_if IsStep (number == 0x0057) _ _ (tt, are) (either_if IsStep (number == 0x0281 || number == 0x0283) _ _ (tt, are) (either_if IsStep (nat_le 0x8000 number) _ _ tt tt)))

long_is : (packet : Captured) → HasOctets packet → IfSome (long_ppp packet) IsStep
unfolding long_ppp
long_is packet are =
    then_any IsStep (number16 6 packet) _ (λ number.
    then_if HasOctets IsStep (after 8 packet) _ (after_octets 8 packet are) (λ rest rest_are. ppp_is number rest rest_are))

pub session_is : (packet : Captured) → HasOctets packet → IfSome (session packet) IsStep
unfolding session
session_is packet are =
    then_any IsStep (number16 0 packet) _ (λ version.
    then_any IsStep (number8 6 packet) _ (λ first.
    then_if HasOctets IsStep (if_valid (version == 0x1100) packet) _ (valid_if HasOctets (version == 0x1100) packet are) (λ valid valid_are.
    either_if IsStep (first % 2 == 1) _ _
    (then_if HasOctets IsStep (after 7 valid) (of_ppp first) (after_octets 7 valid valid_are) (λ rest rest_are. ppp_is first rest rest_are))
    (long_is valid valid_are))))

mirrored2_is : (packet : Captured) → HasOctets packet → IfSome (mirrored2 packet) IsStep
unfolding mirrored2
mirrored2_is packet are =
    then_any IsStep (number8 0 packet) _ (λ first.
    then_if HasOctets IsStep (after 8 packet) _ (after_octets 8 packet are) (λ rest rest_are.
    valid_if IsStep (first / 16 == 1) _ (tt, rest_are)))

frame_kind_is : (kind : ℕ) (packet : Captured) → HasOctets packet → IfSome (of_frame_kind kind packet) IsStep
unfolding of_frame_kind
frame_kind_is kind packet are = either_if IsStep (kind == 0) _ _ (tt, are) (either_if IsStep (kind == 2) _ _ (tt, are) tt)

mirrored3_is : (packet : Captured) → HasOctets packet → IfSome (mirrored3 packet) IsStep
unfolding mirrored3
mirrored3_is packet are =
    then_any IsStep (number8 0 packet) _ (λ first.
    then_any IsStep (number8 10 packet) _ (λ kind.
    then_any IsStep (number8 11 packet) _ (λ last.
    then_if HasOctets IsStep (after (last % 2 * 8 + 12) packet) _ (after_octets (last % 2 * 8 + 12) packet are) (λ rest rest_are.
    then_if HasOctets IsStep (if_valid (first / 16 == 2) rest) _ (valid_if HasOctets (first / 16 == 2) rest rest_are) (λ valid valid_are.
    frame_kind_is (kind / 4 % 32) valid valid_are)))))

of_gre_is : (is_numbered : Bool) (kind : ℕ) (packet : Captured) → HasOctets packet → IfSome (of_gre is_numbered kind packet) IsStep
unfolding of_gre
of_gre_is is_numbered kind packet are =
    either_if IsStep (kind == 0x88BE) _ _ (either_if IsStep is_numbered _ _ (mirrored2_is packet are) (tt, are)) (either_if IsStep (kind == 0x22EB) _ _ (mirrored3_is packet are) (tt, are))

pub gre_is : (packet : Captured) → HasOctets packet → IfSome (gre packet) IsStep
unfolding gre
gre_is packet are =
    then_any IsStep (number16 0 packet) _ (λ flags.
    then_any IsStep (number16 2 packet) _ (λ kind.
    then_if HasOctets IsStep (after ((flags / 2 ^ 15 + flags / 2 ^ 13 % 2 + flags / 2 ^ 12 % 2) * 4 + 4) packet) _ (after_octets ((flags / 2 ^ 15 + flags / 2 ^ 13 % 2 + flags / 2 ^ 12 % 2) * 4 + 4) packet are) (λ rest rest_are.
    then_if HasOctets IsStep (if_valid (bit_and flags 0x4C07 == 0) rest) _ (valid_if HasOctets (bit_and flags 0x4C07 == 0) rest rest_are) (λ valid valid_are.
    of_gre_is _ kind valid valid_are))))

-- ---- headers that are skipped
abbrev pub FollowsKind : ℕ × Captured → Type 0
FollowsKind next = HasOctets next.1

options_is : (packet : Captured) → HasOctets packet → IfSome (options packet) FollowsKind
unfolding options
options_is packet are =
    then_any FollowsKind (number8 0 packet) _ (λ next.
    then_any FollowsKind (number8 1 packet) _ (λ size.
    then_if HasOctets FollowsKind (after (8 * size + 8) packet) _ (after_octets (8 * size + 8) packet are) (λ rest rest_are. rest_are)))

fragment_header_is : (packet : Captured) → HasOctets packet → IfSome (fragment_header packet) FollowsKind
unfolding fragment_header
fragment_header_is packet are =
    then_any FollowsKind (number8 0 packet) _ (λ next.
    then_if HasOctets FollowsKind (after 8 packet) _ (after_octets 8 packet are) (λ rest rest_are. rest_are))

extension_is : (kind : ℕ) (packet : Captured) → HasOctets packet → IfSome (extension kind packet) FollowsKind
unfolding extension
extension_is kind packet are = either_if FollowsKind (kind == 44) _ _ (fragment_header_is packet are) (options_is packet are)

pub skipped_is : (is_skipped : ℕ → Captured → Bool) (bound kind : ℕ) (packet : Captured) → HasOctets packet → IfSome (skip_headers is_skipped extension bound kind packet) FollowsKind
skipped_is is_skipped zero kind packet are = tt
skipped_is is_skipped (suc bound) kind packet are =
    either_if FollowsKind (is_skipped kind packet) _ _
    (then_if FollowsKind FollowsKind (extension kind packet) _ (extension_is kind packet are) (λ next next_are. skipped_is is_skipped bound next.0 next.1 next_are))
    are

-- ---- errors of ICMP
abbrev IsQuote : QuotedProtocol × Ends → Type 0
IsQuote quote = AreEnds quote.1

quoted_after_is : (addresses : Addresses) (protocol : ℕ) (packet : Captured) → AreHosts addresses → HasOctets packet → IfSome (quoted_after addresses protocol packet) IsQuote
unfolding quoted_after
quoted_after_is addresses protocol packet hosts are =
    then_any IsQuote (protocol_of protocol) _ (λ its.
    then_if AreEnds IsQuote (ends addresses.source addresses.target packet) _ (ends_between addresses.source addresses.target packet hosts.0 hosts.1 are) (λ between its. its))

quoted4_is : (packet : Captured) → HasOctets packet → IfSome (quoted4 packet) IsQuote
unfolding quoted4
quoted4_is packet are =
    then_any IsQuote (number8 0 packet) _ (λ first.
    then_any IsQuote (number16 6 packet) _ (λ flags.
    then_any IsQuote (number8 9 packet) _ (λ protocol.
    then_if (AreSoMany 4) IsQuote (field 4 12 packet) _ (field_octets 4 12 packet are) (λ source from.
    then_if (AreSoMany 4) IsQuote (field 4 16 packet) _ (field_octets 4 16 packet are) (λ target to.
    then_if HasOctets IsQuote (after (first % 16 * 4) packet) _ (after_octets (first % 16 * 4) packet are) (λ rest rest_are.
    then_if HasOctets IsQuote (if_valid (nat_le 5 (first % 16) && flags % 2 ^ 13 == 0) rest) _ (valid_if HasOctets (nat_le 5 (first % 16) && flags % 2 ^ 13 == 0) rest rest_are) (λ valid valid_are.
    quoted_after_is (addresses4 source target) protocol valid (host4 source from, host4 target to) valid_are)))))))

quoted6_is : (packet : Captured) → HasOctets packet → IfSome (quoted6 packet) IsQuote
unfolding quoted6
quoted6_is packet are =
    then_any IsQuote (number8 6 packet) _ (λ kind.
    then_if (AreSoMany 16) IsQuote (field 16 8 packet) _ (field_octets 16 8 packet are) (λ source from.
    then_if (AreSoMany 16) IsQuote (field 16 24 packet) _ (field_octets 16 24 packet are) (λ target to.
    then_if HasOctets IsQuote (after 40 packet) _ (after_octets 40 packet are) (λ rest rest_are.
    then_if FollowsKind IsQuote (skip_quoted (length rest.octets + 1) kind rest) _ (skipped_is is_passed_in_quote (length rest.octets + 1) kind rest rest_are) (λ last last_are.
    quoted_after_is (addresses6 source target) last.0 last.1 (host6 source from, host6 target to) last_are)))))

quoted_is : (packet : Captured) → HasOctets packet → IfSome (quoted packet) IsQuote
unfolding quoted
quoted_is packet are = then_any IsQuote (number8 0 packet) _ (λ first. either_if IsQuote (first / 16 == 4) _ _ (quoted4_is packet are) (either_if IsQuote (first / 16 == 6) _ _ (quoted6_is packet are) tt))

error_is : (by : IpAddr) (protocol : ℕ) (packet : Captured) → IsHost by → HasOctets packet → IfSome (error by protocol packet) IsError
unfolding error
error_is by protocol packet host are =
    then_if (IsNumber 8) IsError (number8 0 packet) _ (number8_small 0 packet are) (λ kind kind_small.
    then_if (IsNumber 8) IsError (number8 1 packet) _ (number8_small 1 packet are) (λ code code_small.
    then_if HasOctets IsError (after 8 packet) _ (after_octets 8 packet are) (λ quote quote_are.
    then_if HasOctets IsError (if_valid (is_error by protocol kind) quote) _ (valid_if HasOctets (is_error by protocol kind) quote quote_are) (λ valid valid_are.
    then_if IsQuote IsError (quoted valid) _ (quoted_is valid valid_are) (λ found its. record { by = host; error_type = kind_small; code = code_small; ends = its })))))

passed_is : (read : Option IcmpError) → IfSome read IsError → AreContents (or_passed read)
passed_is None is = tt
passed_is (Some read) is = is

icmp_is : (addresses : Addresses) (protocol : ℕ) (packet : Captured) → AreHosts addresses → HasOctets packet → AreContents (icmp addresses protocol packet)
icmp_is addresses protocol packet hosts are = passed_is (error addresses.source protocol packet) (error_is addresses.source protocol packet hosts.0 are)

-- ---- what follows IP
ah_is : (addresses : Addresses) (packet : Captured) → AreHosts addresses → HasOctets packet → IfSome (authentication addresses packet) IsStep
unfolding authentication
ah_is addresses packet hosts are =
    then_any IsStep (number8 0 packet) _ (λ protocol.
    then_any IsStep (number8 1 packet) _ (λ words.
    then_if HasOctets IsStep (after (4 * words + 8) packet) _ (after_octets (4 * words + 8) packet are) (λ rest rest_are.
    valid_if IsStep (nat_le 1 words) _ (hosts, rest_are))))

pub other_is : (addresses : Addresses) (protocol : ℕ) (packet : Captured) → AreHosts addresses → HasOctets packet → IfSome (of_other_protocol addresses protocol packet) IsStep
unfolding of_other_protocol
other_is addresses protocol packet hosts are =
    either_if IsStep (protocol == 51) _ _ (ah_is addresses packet hosts are)
    (either_if IsStep (protocol == 4) _ _ (tt, are)
    (either_if IsStep (protocol == 41) _ _ (tt, are)
    (either_if IsStep (protocol == 47) _ _ (gre_is packet are)
    (either_if IsStep (protocol == 1 || protocol == 58) _ _ (icmp_is addresses protocol packet hosts are)
    (either_if IsStep (is_passed_protocol protocol) _ _ tt tt)))))

pub protocol_is : (addresses : Addresses) (protocol : ℕ) (packet : Captured) → AreHosts addresses → HasOctets packet → IfSome (of_protocol addresses protocol packet) IsStep
unfolding of_protocol
protocol_is addresses protocol packet hosts are =
    either_if IsStep (protocol == 17) _ _ (udp_is addresses packet hosts are) (either_if IsStep (protocol == 6) _ _ (tcp_is addresses packet hosts are) (hosts, are))
