-- The packets of a file are counted: each has the number after that of the one before it.
use Rattle.std.proofs.Common.{◌≡◌, ℕ, zero, suc, ◌+◌, ◌-◌, Bool, true, false, List, [], ◌∷◌, length, Option, Some, None, Result, Ok, Err, refl}
use Rattle.krb_der.specs.Octets.{when}
use Rattle.std.specs.Int.{w16, w32}
use Rattle.krb_file.specs.FieldReaders.{skipped_at}
use Rattle.krb_file.specs.Fields.{Bounds, Fault, Source, and_then, begun_at, called, ended, in_part, is_empty, limited, octets_at, source_of, with_part}
use Rattle.krb_file.specs.Fields.{refused_at as in_field}
use Rattle.krb_file.specs.declared.field_name.FieldName.TheVariants as fields
use Rattle.krb_file.specs.declared.field_name.FilePart.{FilePart}
use Rattle.krb_file.specs.declared.field_name.FilePart.TheVariants as parts
use Rattle.krb_packet.specs.declared.block.BlockKind.{BlockKind}
use Rattle.krb_packet.specs.declared.block.BlockKind.TheVariants as kinds
use Rattle.krb_packet.specs.declared.block.Head.{Head}
use Rattle.krb_packet.specs.declared.block.Section.{Section}
use Rattle.krb_packet.specs.declared.body.Content.{Content}
use Rattle.krb_packet.specs.declared.body.Content.TheVariants as contents
use Rattle.krb_packet.specs.declared.format.Format.{Format}
use Rattle.krb_packet.specs.declared.format.Format.TheVariants as formats
use Rattle.krb_packet.specs.declared.format.Next.{Next}
use Rattle.krb_packet.specs.declared.format.Next.TheVariants as nexts
use Rattle.krb_packet.specs.declared.interface.Interface.{Interface}
use Rattle.krb_packet.specs.declared.order.ByteOrder.{ByteOrder}
use Rattle.krb_packet.specs.declared.order.ByteOrder.TheVariants as orders
use Rattle.krb_packet.specs.declared.packet.Packet.{Packet}
use Rattle.krb_packet.specs.declared.pcap.Header.{Header}
use Rattle.krb_packet.specs.declared.pcap.Magic.{Magic}
use Rattle.krb_packet.specs.declared.pcap.Magic.TheVariants as magics
use Rattle.krb_packet.specs.Blocks.{after_content, after_kind, block_after, block_in, body_in, content_in_file, end_in, next_block, read_body}
use Rattle.krb_packet.specs.Bodies.{announced, content_at, enhanced_packet_at, first_interface, head_at, most_octets_at, most_of, next_kind_at, old_packet_at, section_version, simple_packet_at, timed_packet_at, timestamp_at, value_of}
use Rattle.krb_packet.specs.Interfaces.{interface_at}
use Rattle.krb_packet.specs.Numbers.{checked_number, field_in, refused_at}
use Rattle.krb_packet.specs.Captures.{after_magic, after_packet, begin_in, next_in, packet_in, packets, packets_from, packets_within, with_others}
use Rattle.krb_packet.specs.Pcaps.{header_at, magic_at, most_captured, next_at, packet_at, packet_head_at}

-- ---- what a value is that was read
abbrev IfRead : {A E : Type 0} → (A → Type 0) → Result (A × Source) E → Type 0
IfRead P (Ok read) = P read.0
IfRead P (Err fault) = Unit {0}

record OnRead {A E : Type 0} (P : A → Type 0) (r : Result (A × Source) E) : Type 0 where
  is : IfRead P r

-- whatever was read before it
read_next : {A B : Type 0} (P : B → Type 0) (r : Result (A × Source) Fault) (next : A × Source → Result (B × Source) Fault) → ((read : A × Source) → OnRead P (next read)) → OnRead P (and_then r next)
read_next P (Ok read) next p = p read
read_next P (Err fault) next p = record { is = tt }

-- as it was read before
read_from : {A B : Type 0} (Q : A → Type 0) (P : B → Type 0) (r : Result (A × Source) Fault) (next : A × Source → Result (B × Source) Fault) → OnRead Q r → ((read : A × Source) → Q read.0 → OnRead P (next read)) → OnRead P (and_then r next)
read_from Q P (Ok read) next q p = p read q.is
read_from Q P (Err fault) next q p = record { is = tt }

on_part : {A : Type 0} (P : A → Type 0) (part : FilePart) (place : ℕ) (r : Result (A × Source) Fault) → OnRead P r → OnRead P (begun_at place (in_field (with_part part) r))
on_part P part place (Ok read) p = record { is = p.is }
on_part P part place (Err fault) p = record { is = tt }

-- ---- the packet after `count` others
module _ (count : ℕ) where
  abbrev IsNext : Packet → Type 0
  IsNext packet = packet.number ≡ count + 1

  abbrev IfPacket : Option Packet → Type 0
  IfPacket None = Unit {0}
  IfPacket (Some packet) = IsNext packet

  abbrev IfContent : Content → Type 0
  IfContent (contents.Section order) = Unit {0}
  IfContent (contents.Interface interface) = Unit {0}
  IfContent (contents.Packet packet) = IsNext packet
  IfContent contents.Other = Unit {0}

  abbrev IfNext : Next → Type 0
  IfNext (nexts.Packet packet format) = IsNext packet
  IfNext (nexts.NoPacket format) = Unit {0}
  IfNext nexts.End = Unit {0}

  -- of a pcap
  packet-read : (header : Header) (bounds : Bounds) (source : Source) → OnRead IsNext (packet_at header count bounds source)
  packet-read header bounds source = read_next IsNext (packet_head_at header.form.order bounds source) _ (λ head. read_next IsNext (called fields.Data (octets_at head.0.captured) bounds head.1) _ (λ octets. record { is = refl }))

  next-read : (header : Header) (bounds : Bounds) (source : Source) → OnRead IfPacket (next_at header count bounds source)
  next-read header bounds source = by (is_empty source.octets)
    where
      by : (b : Bool) → OnRead IfPacket (when b (λ _. Ok (None, source)) (λ _. and_then (packet_at header count bounds source) (λ read. Ok (Some read.0, read.1))))
      by true = record { is = tt }
      by false = read_from IsNext IfPacket (packet_at header count bounds source) (λ read. Ok (Some read.0, read.1)) (packet-read header bounds source) (λ read p. record { is = p })

  pcap-next : (header : Header) (bounds : Bounds) (source : Source) → OnRead IfNext (next_in (formats.Pcap header) count bounds source)
  pcap-next header bounds source = read_from IfPacket IfNext (packet_in header count bounds source) (λ read. Ok (after_packet header read.0, read.1)) (on_part IfPacket (parts.Packet count) source.place (next_at header count bounds source) (next-read header bounds source)) (λ read p. record { is = by read.0 p })
    where
      by : (packet : Option Packet) → IfPacket packet → IfNext (after_packet header packet)
      by None p = tt
      by (Some packet) p = p

  -- of a block
  module _ (order : ByteOrder) (bounds : Bounds) where
    timed-read : (interface : Interface) (source : Source) → OnRead IsNext (timed_packet_at order count interface bounds source)
    timed-read interface source =
        read_next IsNext (timestamp_at order bounds source) _ (λ units.
        read_next IsNext (field_in fields.CapturedLength w32 order bounds units.1) _ (λ captured.
        read_next IsNext (field_in fields.OriginalLength w32 order bounds captured.1) _ (λ original.
        read_next IsNext (called fields.Data (octets_at captured.0) bounds original.1) _ (λ octets. record { is = refl }))))

    enhanced-read : (interfaces : List Interface) (source : Source) → OnRead IsNext (enhanced_packet_at order count interfaces bounds source)
    enhanced-read interfaces source = read_next IsNext (checked_number fields.Interface w32 order (announced interfaces) bounds source) _ (λ interface. timed-read interface.0 interface.1)

    old-read : (interfaces : List Interface) (source : Source) → OnRead IsNext (old_packet_at order count interfaces bounds source)
    old-read interfaces source = read_next IsNext (checked_number fields.Interface w16 order (announced interfaces) bounds source) _ (λ interface. read_next IsNext (field_in fields.Drops w16 order bounds interface.1) _ (λ drops. timed-read interface.0 drops.1))

    simple-read : (interfaces : List Interface) (source : Source) → OnRead IsNext (simple_packet_at order count interfaces bounds source)
    simple-read interfaces source =
        read_next IsNext (first_interface interfaces bounds source) _ (λ interface.
        read_next IsNext (field_in fields.OriginalLength w32 order bounds interface.1) _ (λ original.
        read_next IsNext (called fields.Data (most_octets_at (most_of interface.0.snaplen original.0)) bounds original.1) _ (λ octets. record { is = refl })))

    content-read : (kind : BlockKind) (interfaces : List Interface) (source : Source) → OnRead IfContent (content_at kind order count interfaces bounds source)
    content-read kinds.Section interfaces source = read_next IfContent (checked_number fields.Version w16 order section_version bounds source) _ (λ version. record { is = tt })
    content-read kinds.Interface interfaces source = read_next IfContent (interface_at order bounds source) _ (λ interface. record { is = tt })
    content-read kinds.OldPacket interfaces source = read_from IsNext IfContent (old_packet_at order count interfaces bounds source) _ (old-read interfaces source) (λ read p. record { is = p })
    content-read kinds.SimplePacket interfaces source = read_from IsNext IfContent (simple_packet_at order count interfaces bounds source) _ (simple-read interfaces source) (λ read p. record { is = p })
    content-read kinds.EnhancedPacket interfaces source = read_from IsNext IfContent (enhanced_packet_at order count interfaces bounds source) _ (enhanced-read interfaces source) (λ read p. record { is = p })
    content-read kinds.Other interfaces source = record { is = tt }

  module _ (section : Section) (bounds : Bounds) where
    in_file : (begin : ℕ) (r : Result (Content × Source) Fault) (source : Source) → OnRead IfContent r → OnRead IfContent (content_in_file begin (value_of r) bounds source)
    in_file begin (Ok read) source p = record { is = p.is }
    in_file begin (Err fault) source p = record { is = tt }

    body-read : (kind : BlockKind) (place : ℕ) (head : Head) (source : Source) → OnRead IfContent (read_body kind section count place head bounds source)
    body-read kind place head source = read_next IfContent (refused_at place (called fields.Body (octets_at head.left)) bounds source) _ (λ octets. in_file source.place (content_at kind head.order count section.interfaces (ended (Some (length octets.0))) (source_of octets.0)) octets.1 (content-read head.order (ended (Some (length octets.0))) kind section.interfaces (source_of octets.0)))

    any-body : (kind : BlockKind) (place : ℕ) (head : Head) (source : Source) → OnRead IfContent (body_in kind section count place head bounds source)
    any-body kinds.Other place head source = read_next IfContent (called fields.Body (skipped_at head.left) bounds source) _ (λ zeros. record { is = tt })
    any-body kinds.Section place head source = body-read kinds.Section place head source
    any-body kinds.Interface place head source = body-read kinds.Interface place head source
    any-body kinds.OldPacket place head source = body-read kinds.OldPacket place head source
    any-body kinds.SimplePacket place head source = body-read kinds.SimplePacket place head source
    any-body kinds.EnhancedPacket place head source = body-read kinds.EnhancedPacket place head source

    block-content : (kind : BlockKind) (source : Source) → OnRead IfContent (block_in kind section count bounds source)
    block-content kind source = read_next IfContent (head_at kind section.order bounds source) _ (λ head. read_from IfContent IfContent (body_in kind section count (source.place + 4) head.0 bounds head.1) _ (any-body kind (source.place + 4) head.0 head.1) (λ content p. read_next IfContent (end_in head.0 bounds content.1) _ (λ same. record { is = p })))

    block-next : (kind : BlockKind) (source : Source) → OnRead IfNext (block_after kind section count bounds source)
    block-next kind source = read_from IfContent IfNext (begun_at (source.place - 4) (in_field (with_part (parts.Block section.blocks)) (block_in kind section count bounds source))) (λ read. Ok (after_content section read.0, read.1)) (on_part IfContent (parts.Block section.blocks) (source.place - 4) (block_in kind section count bounds source) (block-content kind source)) (λ read p. record { is = by read.0 p })
      where
        by : (content : Content) → IfContent content → IfNext (after_content section content)
        by (contents.Section order) p = tt
        by (contents.Interface interface) p = tt
        by (contents.Packet packet) p = p
        by contents.Other p = tt

    kind-next : (kind : Option BlockKind) (source : Source) → OnRead IfNext (after_kind section count kind bounds source)
    kind-next None source = record { is = tt }
    kind-next (Some kind) source = block-next kind source

    pcapng-next : (source : Source) → OnRead IfNext (next_block section count bounds source)
    pcapng-next source = read_next IfNext (in_part (parts.Block section.blocks) (next_kind_at section.order) bounds source) _ (λ kind. kind-next kind.0 kind.1)

  -- of either
  first-next : (bounds : Bounds) (source : Source) → OnRead IfNext (begin_in count bounds source)
  first-next bounds source = read_next IfNext (magic_at bounds source) _ (λ magic. by magic.0 magic.1)
    where
      by : (magic : Magic) (source : Source) → OnRead IfNext (after_magic count magic bounds source)
      by (magics.Pcap form) source = read_next IfNext (header_at form bounds source) _ (λ header. record { is = tt })
      by magics.Pcapng source = block-next (record { order = orders.BigEndian; interfaces = []; blocks = 0 }) bounds kinds.Section source

  any-next : (format : Format) (bounds : Bounds) (source : Source) → OnRead IfNext (next_in format count bounds source)
  any-next formats.Unknown bounds source = first-next bounds source
  any-next (formats.Pcap header) bounds source = pcap-next header bounds source
  any-next (formats.Pcapng section) bounds source = pcapng-next section bounds source

-- ---- all packets
abbrev pub AreCounted : ℕ → List Packet → Type 0
AreCounted count [] = Unit {0}
AreCounted count (packet ∷ packets) = (packet.number ≡ count + 1) × AreCounted (count + 1) packets

counted : (bound : ℕ) (format : Format) (count : ℕ) (source : Source) → AreCounted count (packets_within bound format count source).items
counted zero format count source = tt
counted (suc bound) format count source = by (next_in format count (limited (Some most_captured)) source) (any-next count format (limited (Some most_captured)) source) (λ format count left. counted bound format count left)
  where
    after : (next : Next) (left : Source) → IfNext count next → ((format : Format) (n : ℕ) (left : Source) → AreCounted n (packets_within bound format n left).items) → AreCounted count (with_others count next left (packets_within bound)).items
    after (nexts.Packet packet format) left is rest = (is, rest format (count + 1) left)
    after (nexts.NoPacket format) left is rest = rest format count left
    after nexts.End left is rest = tt

    by : (r : Result (Next × Source) Fault) → OnRead (IfNext count) r → ((format : Format) (n : ℕ) (left : Source) → AreCounted n (packets_within bound format n left).items) → AreCounted count (packets_from count r (packets_within bound)).items
    by (Ok read) p rest = after read.0 read.1 p.is rest
    by (Err fault) p rest = tt

pub packets_are_counted : (file : List ℕ) → AreCounted 0 (packets file).items
packets_are_counted file = counted (suc (length file)) formats.Unknown 0 (source_of file)
