-- Envelopes in datagrams of UDP, which the port of the target tells, if none of the two ports is of Kerberos.
use Rattle.std.specs.Prelude.{ℕ, ◌+◌, ◌*◌, ◌/◌, ◌%◌, ◌-◌, ◌^◌, Bool, ◌&&◌, ◌||◌, ◌==◌, nat_le, nat_lt, Option, Some, None}
use Rattle.krb_der.specs.Octets.{when}
use Rattle.krb_packet.specs.Payloads.{Captured, ◌>>=◌, number8, number16, number32, after, within}
use Rattle.krb_packet.specs.Steps.{found, if_valid, passed}
use Rattle.krb_packet.specs.declared.contents.Contents.TheVariants as contents
use Rattle.krb_packet.specs.declared.contents.Ends.{Ends}
use Rattle.krb_packet.specs.declared.header.Header.TheVariants as headers
use Rattle.krb_packet.specs.declared.header.Step.{Step}
use Rattle.krb_packet.specs.declared.header.Step.TheVariants as steps

-- the port of KDCs, or that of changes of passwords (RFC 3244, 2)
abbrev pub is_served : ℕ → Ends → Bool
is_served port ends = ends.source.port == port || (ends.target.port == port || (ends.source.port == 464 || ends.target.port == 464))

-- VXLAN (4789; 8472 before that was assigned) and Geneve (6081)
abbrev pub is_followed_port : ℕ → Bool
is_followed_port port = port == 4789 || (port == 8472 || port == 6081)

-- those that are not followed: L2TP, GTP-U, Teredo, LISP, ESP, VXLAN-GPE, CAPWAP, GUE and MPLS
abbrev pub is_other_tunnel : ℕ → Bool
is_other_tunnel port = port == 1701 || (port == 2152 || (port == 3544 || (port == 4341 || (port == 4500 || (port == 4790 || (port == 5247 || (port == 6080 || port == 6635)))))))

unfoldable pub is_tunnel : ℕ → Bool
is_tunnel port = is_followed_port port || is_other_tunnel port

-- VXLAN (RFC 7348, 5): eight octets and a frame of Ethernet. The first octet is 08 and the next three are 0, or it is 88, with a group policy; the last one is 0.
unfoldable pub vxlan : Captured → Option Step
vxlan packet = do
  flags ← number32 0 packet
  last ← number8 7 packet
  rest ← after 8 packet
  if_valid ((flags == 0x08000000 || flags / 2 ^ 24 == 0x88) && last == 0) (steps.Next headers.Ethernet rest)

-- Geneve (RFC 8926, 3.4): version 0 and the number of words of options, in the other six bits; two flags and six bits that are 0; an EtherType; three octets and one that is 0; the options, which are within the datagram
unfoldable pub geneve : Captured → Option Step
geneve packet = do
  first ← number8 0 packet
  flags ← number8 1 packet
  kind ← number16 2 packet
  last ← number8 7 packet
  rest ← after (first % 64 * 4 + 8) packet
  if_valid ((first / 64 == 0 && flags % 64 == 0) && (last == 0 && nat_le 0x0600 kind)) (steps.Next (headers.Type kind) rest)

-- beside ESP: one octet FF alone, which keeps a translation of addresses alive, and the exchange of keys after four octets 0 (RFC 3948, 2.2 and 2.3)
unfoldable pub keep_alive : Captured → Option Step
keep_alive packet = do
  first ← number8 0 packet
  if_valid (first == 0xFF) (found contents.Other)

unfoldable pub key_exchange : Captured → Option Step
key_exchange packet = do
  marker ← number32 0 packet
  if_valid (marker == 0) (found contents.Other)

unfoldable pub beside_esp : Captured → Option Step
beside_esp packet = when (packet.size == 1) (λ _. keep_alive packet) (λ _. key_exchange packet)

unfoldable pub of_port : ℕ → Captured → Option Step
of_port port packet =
    when (port == 4789 || port == 8472) (λ _. vxlan packet) (λ _.
    when (port == 6081) (λ _. geneve packet) (λ _.
    when (port == 4500) (λ _. beside_esp packet) (λ _.
    None)))

-- the octets of a datagram, after its header (RFC 768)
unfoldable pub payload : Captured → Option Captured
payload packet = do
  length ← number16 4 packet
  rest ← after 8 packet
  if_valid (nat_le 8 length) (within (length - 8) rest)

-- What is of no such form is passed over if it comes from a port below 1024: a server answers a client that has this port by chance.
abbrev pub or_answer : ℕ → Option Step → Option Step
or_answer source None = when (nat_lt source 1024) (λ _. passed) (λ _. None)
or_answer source (Some step) = Some step

unfoldable pub tunnel : Ends → Captured → Option Step
tunnel ends packet = or_answer ends.source.port (payload packet >>= of_port ends.target.port)
