-- What is before the bodies of the blocks of a pcapng, and the bodies (draft-ietf-opsawg-pcapng, 3.1 and 4).
use Rattle.std.specs.Prelude.{ℕ, ◌+◌, ◌-◌, ◌*◌, ◌%◌, ◌^◌, min, max, not, ◌||◌, ◌==◌, nat_lt, Option, Some, None, Result, Ok, Err, List, length, slice_get}
use Rattle.std.specs.Int.{w16, w32}
use Rattle.krb_der.specs.Octets.{when}
use Rattle.krb_file.specs.Fields.{Source, Fault, ended, source_of, Reader, ◌>>=◌, succeed, called, next_octets_at, octets_at, octets_to_end, is_empty}
use Rattle.krb_source.specs.declared.file_why.FileWhy.{FileWhy}
use Rattle.krb_source.specs.declared.file_why.FileWhy.TheVariants as why
use Rattle.krb_file.specs.declared.field_name.FieldName.TheVariants as fields
use Rattle.krb_packet.specs.declared.order.ByteOrder.{ByteOrder}
use Rattle.krb_packet.specs.declared.order.ByteOrder.TheVariants as orders
use Rattle.krb_packet.specs.declared.packet.Packet.{Packet}
use Rattle.krb_packet.specs.declared.interface.Interface.{Interface}
use Rattle.krb_packet.specs.declared.block.BlockKind.{BlockKind}
use Rattle.krb_packet.specs.declared.block.BlockKind.TheVariants as kinds
use Rattle.krb_packet.specs.declared.block.Head.{Head}
use Rattle.krb_packet.specs.declared.body.Content.{Content}
use Rattle.krb_packet.specs.declared.body.Content.TheVariants as contents
use Rattle.krb_packet.specs.Numbers.{in_order, field_in, checked_at, from_here, checked_number}
use Rattle.krb_packet.specs.Interfaces.{interface_at, clock_time}

-- ---- before a body (3.1): the type, and the length of the block, a multiple of 4

abbrev pub block_kind : ℕ → BlockKind
block_kind number =
    when (number == 0x0A0D0D0A) (λ _. kinds.Section) (λ _.
    when (number == 1) (λ _. kinds.Interface) (λ _.
    when (number == 2) (λ _. kinds.OldPacket) (λ _.
    when (number == 3) (λ _. kinds.SimplePacket) (λ _.
    when (number == 6) (λ _. kinds.EnhancedPacket) (λ _.
    kinds.Other)))))

-- the type of the next block, or none at the end of the file
abbrev pub next_kind_at : ByteOrder → Reader (Option BlockKind)
next_kind_at order = λ bounds source.
    when (is_empty source.octets) (λ _. Ok (None, source)) (λ _. (field_in fields.Type w32 order >>= λ number. succeed (Some (block_kind number))) bounds source)

-- the size of a body: that of the block without the type and the two lengths; a block has at most 2^24 octets
abbrev pub body_size : ℕ → Result ℕ FileWhy
body_size length =
    when (nat_lt length 12 || not (length % 4 == 0)) (λ _. Err (why.WrongLength length)) (λ _.
    when (nat_lt 16777216 length) (λ _. Err (why.TooLong length)) (λ _.
    Ok (length - 12)))

abbrev pub whole_head : ByteOrder → ℕ → Result ℕ FileWhy → Result Head FileWhy
whole_head order length (Ok size) = Ok (record { order = order; length = length; left = size })
whole_head order length (Err reason) = Err reason

abbrev pub head_of : ByteOrder → ℕ → Result Head FileWhy
head_of order length = whole_head order length (body_size length)

-- The body of a section header (4.1) begins with the byte-order magic, which says the byte order of the length before it, too.
abbrev pub byte_order : ℕ → Result ByteOrder FileWhy
byte_order number =
    when (number == 0x1A2B3C4D) (λ _. Ok orders.BigEndian) (λ _.
    when (number == 0x4D3C2B1A) (λ _. Ok orders.LittleEndian) (λ _.
    Err why.Magic))

abbrev pub after_byte_order : ℕ → Result ℕ FileWhy
after_byte_order size = when (nat_lt size 4) (λ _. Err why.Overrun) (λ _. Ok (size - 4))

abbrev pub section_head_at : Reader Head
section_head_at = from_here (λ place. do
  octets ← called fields.Length (next_octets_at None 4)
  order ← checked_number fields.ByteOrder w32 orders.BigEndian byte_order
  size ← checked_at fields.Length place (body_size (in_order w32 order octets))
  left ← checked_at fields.ByteOrder (place + 4) (after_byte_order size)
  succeed (record { order = order; length = in_order w32 order octets; left = left }))

abbrev pub head_at : BlockKind → ByteOrder → Reader Head
head_at kinds.Section order = section_head_at
head_at kind order = checked_number fields.Length w32 order (head_of order)

-- the length at the end of the block
abbrev pub same_length : ℕ → ℕ → Result (Unit {0}) FileWhy
same_length length again = when (again == length) (λ _. Ok tt) (λ _. Err why.Overrun)

-- ---- bodies: that of a section header, after the byte-order magic

-- the major version; the minor one is not read
abbrev pub section_version : ℕ → Result (Unit {0}) FileWhy
section_version number = when (number == 1) (λ _. Ok tt) (λ _. Err why.Version)

-- ---- the bodies of packets (4.3, 4.4, A)

-- the interface of an index, or its refusal if there is none
abbrev pub is_announced : Option Interface → Result Interface FileWhy
is_announced None = Err why.Overrun
is_announced (Some interface) = Ok interface

abbrev pub announced : List Interface → ℕ → Result Interface FileWhy
announced interfaces index = is_announced (slice_get interfaces index)

-- a time, in units of the interface
abbrev pub timestamp_at : ByteOrder → Reader ℕ
timestamp_at order = do
  high ← field_in fields.Timestamp w32 order
  low ← field_in fields.Timestamp w32 order
  succeed (high * 2 ^ 32 + low)

abbrev pub timed_packet_at : ByteOrder → ℕ → Interface → Reader Packet
timed_packet_at order count interface = do
  units ← timestamp_at order
  captured ← field_in fields.CapturedLength w32 order
  original ← field_in fields.OriginalLength w32 order
  octets ← called fields.Data (octets_at captured)
  succeed (record { number = count + 1; time = clock_time interface.clock units; link = interface.link; octets = octets; size = max captured original })

abbrev pub enhanced_packet_at : ByteOrder → ℕ → List Interface → Reader Packet
enhanced_packet_at order count interfaces = do
  interface ← checked_number fields.Interface w32 order (announced interfaces)
  timed_packet_at order count interface

abbrev pub old_packet_at : ByteOrder → ℕ → List Interface → Reader Packet
old_packet_at order count interfaces = do
  interface ← checked_number fields.Interface w16 order (announced interfaces)
  drops ← field_in fields.Drops w16 order
  timed_packet_at order count interface

-- the number of octets of a packet that are captured: at most the snaplen of the interface, if that is not 0
abbrev pub most_of : ℕ → ℕ → ℕ
most_of snaplen original = when (snaplen == 0) (λ _. original) (λ _. min original snaplen)

-- `most` octets, or those that are left of the body if these are fewer
abbrev pub most_octets_at : ℕ → Reader (List ℕ)
most_octets_at most = λ bounds source. octets_at (min most (octets_to_end bounds.end source.place)) bounds source

-- the first interface, which a simple packet block is of
abbrev pub first_interface : List Interface → Reader Interface
first_interface interfaces = from_here (λ place. checked_at fields.Interface place (announced interfaces 0))

abbrev pub simple_packet_at : ByteOrder → ℕ → List Interface → Reader Packet
simple_packet_at order count interfaces = do
  interface ← first_interface interfaces
  original ← field_in fields.OriginalLength w32 order
  octets ← called fields.Data (most_octets_at (most_of interface.snaplen original))
  succeed (record { number = count + 1; time = None; link = interface.link; octets = octets; size = original })

-- ---- any body

abbrev pub content_at : BlockKind → ByteOrder → ℕ → List Interface → Reader Content
content_at kinds.Section order count interfaces = checked_number fields.Version w16 order section_version >>= λ version. succeed (contents.Section order)
content_at kinds.Interface order count interfaces = interface_at order >>= λ interface. succeed (contents.Interface interface)
content_at kinds.OldPacket order count interfaces = old_packet_at order count interfaces >>= λ packet. succeed (contents.Packet packet)
content_at kinds.SimplePacket order count interfaces = simple_packet_at order count interfaces >>= λ packet. succeed (contents.Packet packet)
content_at kinds.EnhancedPacket order count interfaces = enhanced_packet_at order count interfaces >>= λ packet. succeed (contents.Packet packet)
content_at kinds.Other order count interfaces = succeed contents.Other

abbrev pub value_of : {A : Type 0} → Result (A × Source) Fault → Result A Fault
value_of (Ok read) = Ok read.0
value_of (Err fault) = Err fault

-- fields that have to be inside a body; places are counted from its first octet
abbrev pub in_body : {A : Type 0} → Reader A → List ℕ → Result A Fault
in_body reader body = value_of (reader (ended (Some (length body))) (source_of body))
