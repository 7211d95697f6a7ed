-- Errors of ICMP (RFC 792) and ICMPv6 (RFC 4443, 3), which quote the packet that they are about. All else of ICMP is passed over.
use Rattle.std.specs.Prelude.{ℕ, zero, suc, ◌+◌, ◌*◌, ◌/◌, ◌%◌, ◌^◌, Bool, true, false, ◌&&◌, ◌||◌, ◌==◌, nat_le, Option, Some, None, length}
use Rattle.std.specs.Option.{option_map_or}
use Rattle.std.specs.declared.net.ip_addr.IpAddr.{IpAddr}
use Rattle.std.specs.declared.net.ip_addr.IpAddr.TheVariants as ip
use Rattle.krb_der.specs.Octets.{when}
use Rattle.krb_packet.specs.Headers.{addresses4, addresses6, ends, extension, is_option_header, skip_headers}
use Rattle.krb_packet.specs.Payloads.{Captured, ◌>>=◌, field, number8, number16, after}
use Rattle.krb_packet.specs.Steps.{if_valid}
use Rattle.krb_packet.specs.declared.contents.Contents.{Contents}
use Rattle.krb_packet.specs.declared.contents.Contents.TheVariants as contents
use Rattle.krb_packet.specs.declared.contents.Ends.{Ends}
use Rattle.krb_packet.specs.declared.contents.IcmpError.{IcmpError}
use Rattle.krb_packet.specs.declared.contents.QuotedProtocol.{QuotedProtocol}
use Rattle.krb_packet.specs.declared.contents.QuotedProtocol.TheVariants as protocols
use Rattle.krb_packet.specs.declared.header.Addresses.{Addresses}

-- unreachable destinations, times that are exceeded, problems with parameters; of ICMPv6 also packets that are too big
abbrev pub is_error : IpAddr → ℕ → ℕ → Bool
is_error (ip.V4 by) protocol kind = protocol == 1 && (kind == 3 || (kind == 11 || kind == 12))
is_error (ip.V6 by) protocol kind = protocol == 58 && (nat_le 1 kind && nat_le kind 4)

-- ---- the quote: the header of IP of UDP or TCP, not of a later fragment, and the ports
abbrev pub protocol_of : ℕ → Option QuotedProtocol
protocol_of protocol = when (protocol == 17) (λ _. Some protocols.Udp) (λ _. when (protocol == 6) (λ _. Some protocols.Tcp) (λ _. None))

unfoldable pub quoted_after : Addresses → ℕ → Captured → Option (QuotedProtocol × Ends)
quoted_after addresses protocol packet = do
  quoted ← protocol_of protocol
  between ← ends addresses.source addresses.target packet
  Some (quoted, between)

unfoldable pub quoted4 : Captured → Option (QuotedProtocol × Ends)
quoted4 packet = do
  first ← number8 0 packet
  flags ← number16 6 packet
  protocol ← number8 9 packet
  source ← field 4 12 packet
  target ← field 4 16 packet
  rest ← after (first % 16 * 4) packet
  valid ← if_valid (nat_le 5 (first % 16) && flags % 2 ^ 13 == 0) rest
  quoted_after (addresses4 source target) protocol valid

unfoldable pub is_first : Captured → Bool
is_first packet = option_map_or (λ offset. offset / 8 == 0) (number16 2 packet) false

abbrev pub is_passed_in_quote : ℕ → Captured → Bool
is_passed_in_quote kind packet = is_option_header kind || (kind == 44 && is_first packet)

abbrev pub skip_quoted : ℕ → ℕ → Captured → Option (ℕ × Captured)
skip_quoted = skip_headers is_passed_in_quote extension

unfoldable pub quoted6 : Captured → Option (QuotedProtocol × Ends)
quoted6 packet = do
  kind ← number8 6 packet
  source ← field 16 8 packet
  target ← field 16 24 packet
  rest ← after 40 packet
  last ← skip_quoted (length rest.octets + 1) kind rest
  quoted_after (addresses6 source target) last.0 last.1

unfoldable pub quoted : Captured → Option (QuotedProtocol × Ends)
quoted packet = do
  first ← number8 0 packet
  when (first / 16 == 4) (λ _. quoted4 packet) (λ _. when (first / 16 == 6) (λ _. quoted6 packet) (λ _. None))

-- ---- an error: eight octets, and the quote
unfoldable pub error : IpAddr → ℕ → Captured → Option IcmpError
error by protocol packet = do
  kind ← number8 0 packet
  code ← number8 1 packet
  quote ← after 8 packet
  valid ← if_valid (is_error by protocol kind) quote
  found ← quoted valid
  Some (record { by = by; error_type = kind; code = code; protocol = found.0; ends = found.1 })

abbrev pub or_passed : Option IcmpError → Contents
or_passed None = contents.Other
or_passed (Some error) = contents.Error error

abbrev pub icmp : Addresses → ℕ → Captured → Contents
icmp addresses protocol packet = or_passed (error addresses.source protocol packet)
