-- The numbers before the octets of a packet of a pcap, in sixteen octets that are there.
use Rattle.std.specs.Prelude.{ℕ, Result, Ok, Err, List, take, drop}
use Rattle.std.specs.Int.{w32}
use Rattle.krb_source.specs.declared.file_why.FileWhy.{FileWhy}
use Rattle.krb_packet.specs.declared.order.ByteOrder.{ByteOrder}
use Rattle.krb_packet.specs.declared.pcap.PacketHead.{PacketHead}
use Rattle.krb_packet.specs.Numbers.{in_order}
use Rattle.krb_packet.specs.Pcaps.{captured}

-- the number of 32 bits after `at` octets
abbrev pub number_after : ByteOrder → ℕ → List ℕ → ℕ
number_after order at octets = in_order w32 order (take 4 (drop at octets))

abbrev pub with_captured : ByteOrder → List ℕ → Result ℕ FileWhy → Result PacketHead FileWhy
with_captured order octets (Ok size) = Ok (record { seconds = number_after order 0 octets; fraction = number_after order 4 octets; captured = size; original = number_after order 12 octets })
with_captured order octets (Err reason) = Err reason

-- the numbers that sixteen octets spell, unless too many octets were captured
abbrev pub packet_head_of : ByteOrder → List ℕ → Result PacketHead FileWhy
packet_head_of order octets = with_captured order octets (captured (number_after order 8 octets))
