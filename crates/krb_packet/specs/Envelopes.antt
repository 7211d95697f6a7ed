-- Headers of envelopes, in which a packet is carried.
use Rattle.std.specs.Prelude.{ℕ, ◌+◌, ◌*◌, ◌/◌, ◌%◌, ◌^◌, Bool, ◌||◌, ◌==◌, nat_le, bit_and, Option, None}
use Rattle.krb_der.specs.Octets.{when}
use Rattle.krb_packet.specs.Payloads.{Captured, ◌>>=◌, number8, number16, after}
use Rattle.krb_packet.specs.Steps.{if_valid, next, passed}
use Rattle.krb_packet.specs.declared.header.Header.TheVariants as headers
use Rattle.krb_packet.specs.declared.header.Step.{Step}
use Rattle.krb_packet.specs.declared.header.Step.TheVariants as steps

-- ---- MPLS (RFC 3032, 2.1): labels of four octets. The last bit of the third octet says that a label is the last one.

-- A pseudowire of Ethernet: a control word of four octets (RFC 4385, 3), of which the first two are 0. One without it is not followed, since it may begin as IP does (RFC 4928).
unfoldable pub pseudowire : Captured → Option Step
pseudowire packet = do
  flags ← number16 0 packet
  rest ← after 4 packet
  if_valid (flags == 0) (steps.Next headers.Ethernet rest)

-- Nothing says what follows the last label but its first four bits: the version of IP, or 1 for an associated channel (RFC 4385, 5), which is passed over.
unfoldable pub after_labels : Captured → Option Step
after_labels packet = do
  first ← number8 0 packet
  when (first / 16 == 4 || first / 16 == 6) (λ _. next headers.Internet packet) (λ _. when (first / 16 == 1) (λ _. passed) (λ _. pseudowire packet))

unfoldable pub label : Captured → Option Step
label packet = do
  third ← number8 2 packet
  rest ← after 4 packet
  when (third % 2 == 0) (λ _. next (headers.Type 0x8847) rest) (λ _. after_labels rest)

-- ---- PPPoE (RFC 2516, 4): version and type 1, the code 0 of a session, four octets, and a number of PPP (RFC 1661, 2), which has one octet if that is odd

-- IPv4, IPv6 and MPLS; numbers from 8000 on set up the link (RFC 1661, 2)
unfoldable pub of_ppp : ℕ → Captured → Option Step
of_ppp number packet =
    when (number == 0x0021) (λ _. next (headers.Type 0x0800) packet) (λ _.
    when (number == 0x0057) (λ _. next (headers.Type 0x86DD) packet) (λ _.
    when (number == 0x0281 || number == 0x0283) (λ _. next (headers.Type 0x8847) packet) (λ _.
    when (nat_le 0x8000 number) (λ _. passed) (λ _.
    None))))

unfoldable pub long_ppp : Captured → Option Step
long_ppp packet = do
  number ← number16 6 packet
  rest ← after 8 packet
  of_ppp number rest

unfoldable pub session : Captured → Option Step
session packet = do
  version ← number16 0 packet
  first ← number8 6 packet
  valid ← if_valid (version == 0x1100) packet
  when (first % 2 == 1) (λ _. after 7 valid >>= of_ppp first) (λ _. long_ppp valid)

-- ---- ERSPAN, a frame of Ethernet that a switch mirrors

-- type II: version 1, and eight octets in all
unfoldable pub mirrored2 : Captured → Option Step
mirrored2 packet = do
  first ← number8 0 packet
  rest ← after 8 packet
  if_valid (first / 16 == 1) (steps.Next headers.Ethernet rest)

-- type III: version 2, and twelve octets in all, or twenty if the last bit of the twelfth is set. Bits 1 to 5 of the eleventh are the kind of frame: 0 Ethernet, and 2 a packet of IP.
unfoldable pub of_frame_kind : ℕ → Captured → Option Step
of_frame_kind kind packet = when (kind == 0) (λ _. next headers.Ethernet packet) (λ _. when (kind == 2) (λ _. next headers.Internet packet) (λ _. None))

unfoldable pub mirrored3 : Captured → Option Step
mirrored3 packet = do
  first ← number8 0 packet
  kind ← number8 10 packet
  last ← number8 11 packet
  rest ← after (last % 2 * 8 + 12) packet
  valid ← if_valid (first / 16 == 2) rest
  of_frame_kind (kind / 4 % 32) valid

-- ---- GRE (RFC 2784, 2; RFC 2890, 2): flags and an EtherType. A checksum, a key and a sequence number have four octets each, if their flags 8000, 2000 and 1000 are set.

-- 88BE is ERSPAN of type I without a sequence number, which has no header, and else of type II; 22EB is of type III
unfoldable pub of_gre : Bool → ℕ → Captured → Option Step
of_gre is_numbered kind packet =
    when (kind == 0x88BE) (λ _. when is_numbered (λ _. mirrored2 packet) (λ _. next headers.Ethernet packet)) (λ _.
    when (kind == 0x22EB) (λ _. mirrored3 packet) (λ _.
    next (headers.Type kind) packet))

-- with routing, a reserved flag or another version it is not followed
unfoldable pub gre : Captured → Option Step
gre packet = do
  flags ← number16 0 packet
  kind ← number16 2 packet
  rest ← after ((flags / 2 ^ 15 + flags / 2 ^ 13 % 2 + flags / 2 ^ 12 % 2) * 4 + 4) packet
  valid ← if_valid (bit_and flags 0x4C07 == 0) rest
  of_gre (flags / 2 ^ 12 % 2 == 1) kind valid
