-- Headers that packets and what errors quote of packets have in common: the ports, addresses, and the extension headers of IPv6.
use Rattle.std.specs.Prelude.{ℕ, zero, suc, ◌+◌, ◌*◌, ◌==◌, ◌||◌, Bool, Option, Some, None, List}
use Rattle.std.specs.Net.Addr.{segments_of}
use Rattle.std.specs.declared.net.ip_addr.IpAddr.{IpAddr}
use Rattle.std.specs.declared.net.ip_addr.IpAddr.TheVariants as ip
use Rattle.krb_der.specs.Octets.{when}
use Rattle.krb_packet.specs.Payloads.{Captured, ◌>>=◌, number8, number16, after}
use Rattle.krb_packet.specs.declared.contents.Ends.{Ends}
use Rattle.krb_packet.specs.declared.header.Addresses.{Addresses}
use Rattle.krb_source.specs.declared.endpoint.Endpoint.{Endpoint}

abbrev pub endpoint : IpAddr → ℕ → Endpoint
endpoint address port = record { address = address; port = port }

-- UDP and TCP begin with the ports
unfoldable pub ends : IpAddr → IpAddr → Captured → Option Ends
ends from to packet = do
  source ← number16 0 packet
  target ← number16 2 packet
  Some (record { source = endpoint from source; target = endpoint to target })

abbrev pub addresses4 : List ℕ → List ℕ → Addresses
addresses4 from to = record { source = ip.V4 (record { octets = from }); target = ip.V4 (record { octets = to }) }

abbrev pub addresses6 : List ℕ → List ℕ → Addresses
addresses6 from to = record { source = ip.V6 (record { segments = segments_of from }); target = ip.V6 (record { segments = segments_of to }) }

-- skips headers of some kinds, each of which has the kind of the next one; at most as many as the first number
abbrev pub skip_headers : (ℕ → Captured → Bool) → (ℕ → Captured → Option (ℕ × Captured)) → ℕ → ℕ → Captured → Option (ℕ × Captured)
skip_headers is_skipped pass zero kind packet = None
skip_headers is_skipped pass (suc bound) kind packet =
    when (is_skipped kind packet) (λ _. pass kind packet >>= λ next. skip_headers is_skipped pass bound next.0 next.1) (λ _. Some (kind, packet))

-- IPv6 (RFC 8200, 4.3, 4.4, 4.6): the length of an extension header counts groups of eight octets after the first
unfoldable pub options : Captured → Option (ℕ × Captured)
options packet = do
  next ← number8 0 packet
  size ← number8 1 packet
  rest ← after (8 * size + 8) packet
  Some (next, rest)

-- the fragment header (4.5), which is skipped in an atomic fragment (RFC 6946), which is a whole datagram: its offset is 0, and no more fragments follow
unfoldable pub fragment_header : Captured → Option (ℕ × Captured)
fragment_header packet = do
  next ← number8 0 packet
  rest ← after 8 packet
  Some (next, rest)

-- hop-by-hop options, routing, destination options
abbrev pub is_option_header : ℕ → Bool
is_option_header kind = kind == 0 || (kind == 43 || kind == 60)

unfoldable pub extension : ℕ → Captured → Option (ℕ × Captured)
extension kind packet = when (kind == 44) (λ _. fragment_header packet) (λ _. options packet)
