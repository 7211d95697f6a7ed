-- Capture files, pcap and pcapng, read from left to right, up to the first fault.
use Rattle.std.specs.Prelude.{ℕ, zero, suc, ◌+◌, Option, Some, None, Result, Ok, Err, List, [], length}
use Rattle.krb_file.specs.Fields.{Source, source_of, Fault, limited, Reader, ◌>>=◌, succeed, in_part}
use Rattle.krb_file.specs.Items.{Items, no_items, with_first}
use Rattle.krb_file.specs.declared.field_name.FilePart.TheVariants as parts
use Rattle.krb_packet.specs.declared.order.ByteOrder.TheVariants as orders
use Rattle.krb_packet.specs.declared.packet.Packet.{Packet}
use Rattle.krb_packet.specs.declared.pcap.Header.{Header}
use Rattle.krb_packet.specs.declared.pcap.Magic.{Magic}
use Rattle.krb_packet.specs.declared.pcap.Magic.TheVariants as magics
use Rattle.krb_packet.specs.declared.block.BlockKind.TheVariants as kinds
use Rattle.krb_packet.specs.declared.format.Format.{Format}
use Rattle.krb_packet.specs.declared.format.Format.TheVariants as formats
use Rattle.krb_packet.specs.declared.format.Next.{Next}
use Rattle.krb_packet.specs.declared.format.Next.TheVariants as nexts
use Rattle.krb_packet.specs.Pcaps.{magic_at, header_at, most_captured, next_at}
use Rattle.krb_packet.specs.Blocks.{block_after, next_block}

-- the next packet of a pcap, which is a part of the file
abbrev pub packet_in : Header → ℕ → Reader (Option Packet)
packet_in header count = in_part (parts.Packet count) (next_at header count)

-- ---- A file is read in steps: the header of a pcap or the first block, and then packets or blocks.

abbrev pub after_magic : ℕ → Magic → Reader Next
after_magic count (magics.Pcap form) = header_at form >>= λ header. succeed (nexts.NoPacket (formats.Pcap header))
after_magic count magics.Pcapng = block_after kinds.Section (record { order = orders.BigEndian; interfaces = []; blocks = 0 }) count

abbrev pub begin_in : ℕ → Reader Next
begin_in count = magic_at >>= after_magic count

abbrev pub after_packet : Header → Option Packet → Next
after_packet header None = nexts.End
after_packet header (Some packet) = nexts.Packet packet (formats.Pcap header)

-- the step after `count` packets
abbrev pub next_in : Format → ℕ → Reader Next
next_in formats.Unknown count = begin_in count
next_in (formats.Pcap header) count = packet_in header count >>= λ packet. succeed (after_packet header packet)
next_in (formats.Pcapng section) count = next_block section count

-- the number of blocks that were read
abbrev pub blocks_of : Format → ℕ
blocks_of formats.Unknown = 0
blocks_of (formats.Pcap header) = 0
blocks_of (formats.Pcapng section) = section.blocks

-- ---- The packets before the end of the file or the first fault; and that fault.
abbrev pub Packets : Type 0
Packets = Items Packet (Option Fault)

-- the packet of a step, if it has one, and then the others
abbrev pub with_others : ℕ → Next → Source → (Format → ℕ → Source → Packets) → Packets
with_others count (nexts.Packet packet format) source others = with_first packet (others format (count + 1) source)
with_others count (nexts.NoPacket format) source others = others format count source
with_others count nexts.End source others = no_items None

abbrev pub packets_from : ℕ → Result (Next × Source) Fault → (Format → ℕ → Source → Packets) → Packets
packets_from count (Err fault) others = no_items (Some fault)
packets_from count (Ok read) others = with_others count read.0 read.1 others

-- at most as many steps as the first number
abbrev pub packets_within : ℕ → Format → ℕ → Source → Packets
packets_within zero format count source = no_items None
packets_within (suc bound) format count source = packets_from count (next_in format count (limited (Some most_captured)) source) (packets_within bound)

-- the packets of what is left; each step but the last one reads an octet at least
abbrev pub packets_after : Format → ℕ → Source → Packets
packets_after format count source = packets_within (suc (length source.octets)) format count source

abbrev pub packets : List ℕ → Packets
packets file = packets_after formats.Unknown 0 (source_of file)
