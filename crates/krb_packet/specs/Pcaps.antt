-- The fields of a pcap (draft-ietf-opsawg-pcap, 4 and 5), and the magic, which says which format a capture file has.
use Rattle.std.specs.Prelude.{ℕ, ◌+◌, ◌*◌, ◌%◌, ◌^◌, max, ◌==◌, nat_lt, Option, Some, None, Result, Ok, Err}
use Rattle.std.specs.Int.{w32}
use Rattle.krb_der.specs.Octets.{when}
use Rattle.krb_file.specs.Fields.{Reader, ◌>>=◌, succeed, called, octets_at, number_at, is_empty}
use Rattle.krb_source.specs.declared.file_why.FileWhy.{FileWhy}
use Rattle.krb_source.specs.declared.file_why.FileWhy.TheVariants as why
use Rattle.krb_file.specs.declared.field_name.FieldName.TheVariants as fields
use Rattle.krb_packet.specs.declared.order.ByteOrder.{ByteOrder}
use Rattle.krb_packet.specs.declared.order.ByteOrder.TheVariants as orders
use Rattle.krb_packet.specs.declared.packet.Packet.{Packet}
use Rattle.krb_packet.specs.declared.pcap.Precision.{Precision}
use Rattle.krb_packet.specs.declared.pcap.Precision.TheVariants as precisions
use Rattle.krb_packet.specs.declared.pcap.Form.{Form}
use Rattle.krb_packet.specs.declared.pcap.Header.{Header}
use Rattle.krb_packet.specs.declared.pcap.PacketHead.{PacketHead}
use Rattle.krb_packet.specs.declared.pcap.Magic.{Magic}
use Rattle.krb_packet.specs.declared.pcap.Magic.TheVariants as magics
use Rattle.krb_packet.specs.Numbers.{field_in, checked_number}
use Rattle.krb_packet.specs.Values.{link_type, time_of}

-- ---- the magic: the format and, of a pcap, the byte order and the unit of the fractions of seconds

abbrev pub pcap : ByteOrder → Precision → Result Magic FileWhy
pcap order precision = Ok (magics.Pcap (record { order = order; precision = precision }))

abbrev pub magic_of : ℕ → Result Magic FileWhy
magic_of number =
    when (number == 0xA1B2C3D4) (λ _. pcap orders.BigEndian precisions.Microseconds) (λ _.
    when (number == 0xD4C3B2A1) (λ _. pcap orders.LittleEndian precisions.Microseconds) (λ _.
    when (number == 0xA1B23C4D) (λ _. pcap orders.BigEndian precisions.Nanoseconds) (λ _.
    when (number == 0x4D3CB2A1) (λ _. pcap orders.LittleEndian precisions.Nanoseconds) (λ _.
    when (number == 0x0A0D0D0A) (λ _. Ok magics.Pcapng) (λ _.
    Err why.Magic)))))

abbrev pub magic_at : Reader Magic
magic_at = checked_number fields.Magic w32 orders.BigEndian magic_of

-- ---- the header of a pcap, after the magic

-- 2 and 4, each of 16 bits
abbrev pub known_version : ByteOrder → ℕ
known_version orders.BigEndian = 0x00020004
known_version orders.LittleEndian = 0x00040002

abbrev pub version : ByteOrder → ℕ → Result (Unit {0}) FileWhy
version order number = when (number == known_version order) (λ _. Ok tt) (λ _. Err why.Version)

-- After the version come thiszone, sigfigs and snaplen, which are not read; the low 26 bits of the last number are the link type, and above them is the size of the frame check sequence, which follows each frame as padding does.
abbrev pub header_at : Form → Reader Header
header_at form = do
  version ← checked_number fields.Version w32 form.order (version form.order)
  thiszone ← called fields.ThisZone (number_at w32)
  sigfigs ← called fields.SigFigs (number_at w32)
  snaplen ← called fields.SnapLen (number_at w32)
  link ← field_in fields.LinkType w32 form.order
  succeed (record { form = form; link = link_type (link % 2 ^ 26) })

-- ---- a packet of a pcap

abbrev pub unit : Precision → ℕ
unit precisions.Microseconds = 1000
unit precisions.Nanoseconds = 1

-- the greatest number of octets of a packet that may be captured, 2^24
abbrev pub most_captured : ℕ
most_captured = 16777216

abbrev pub captured : ℕ → Result ℕ FileWhy
captured size = when (nat_lt most_captured size) (λ _. Err (why.TooLong size)) (λ _. Ok size)

-- the numbers before its octets
abbrev pub packet_head_at : ByteOrder → Reader PacketHead
packet_head_at order = do
  seconds ← field_in fields.Seconds w32 order
  fraction ← field_in fields.Fraction w32 order
  size ← checked_number fields.CapturedLength w32 order captured
  original ← field_in fields.OriginalLength w32 order
  succeed (record { seconds = seconds; fraction = fraction; captured = size; original = original })

-- the packet after `count` others
abbrev pub packet_at : Header → ℕ → Reader Packet
packet_at header count = do
  head ← packet_head_at header.form.order
  octets ← called fields.Data (octets_at head.captured)
  succeed (record { number = count + 1; time = time_of (head.seconds * 10 ^ 9 + head.fraction * unit header.form.precision); link = header.link; octets = octets; size = max head.captured head.original })

-- the next packet, or none at the end of the file
abbrev pub next_at : Header → ℕ → Reader (Option Packet)
next_at header count = λ bounds source.
    when (is_empty source.octets) (λ _. Ok (None, source)) (λ _. (packet_at header count >>= λ packet. succeed (Some packet)) bounds source)
