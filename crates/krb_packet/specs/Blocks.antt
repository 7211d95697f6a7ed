-- The blocks of a pcapng, and the progress in a file after each.
use Rattle.std.specs.Prelude.{ℕ, ◌+◌, ◌-◌, Option, Some, None, Result, Ok, Err, [], ◌∷◌, ◌++◌}
use Rattle.std.specs.Int.{w32}
use Rattle.krb_file.specs.Fields.{Fault, Reader, ◌>>=◌, succeed, called, begun_at, with_part, in_part, octets_at}
use Rattle.krb_file.specs.Fields.{refused_at as in_field}
use Rattle.krb_file.specs.FieldReaders.{skipped_at}
use Rattle.krb_file.specs.declared.fault.FileFault.{FileFault}
use Rattle.krb_file.specs.declared.fault.FileFault.TheVariants as faults
use Rattle.krb_file.specs.declared.field_name.FieldName.TheVariants as fields
use Rattle.krb_file.specs.declared.field_name.FilePart.{FilePart}
use Rattle.krb_file.specs.declared.field_name.FilePart.TheVariants as parts
use Rattle.krb_packet.specs.declared.block.BlockKind.{BlockKind}
use Rattle.krb_packet.specs.declared.block.BlockKind.TheVariants as kinds
use Rattle.krb_packet.specs.declared.block.Head.{Head}
use Rattle.krb_packet.specs.declared.block.Section.{Section}
use Rattle.krb_packet.specs.declared.body.Content.{Content}
use Rattle.krb_packet.specs.declared.body.Content.TheVariants as contents
use Rattle.krb_packet.specs.declared.format.Format.TheVariants as formats
use Rattle.krb_packet.specs.declared.format.Next.{Next}
use Rattle.krb_packet.specs.declared.format.Next.TheVariants as nexts
use Rattle.krb_packet.specs.Numbers.{checked_number, from_here, refused_at}
use Rattle.krb_packet.specs.Bodies.{next_kind_at, head_at, content_at, in_body, same_length}

-- ---- a block, after its type

-- the body of another block is skipped
abbrev pub skipped_body : Head → Reader Content
skipped_body head = called fields.Body (skipped_at head.left) >>= λ zeros. succeed contents.Other

-- the content of a body that begins at a place, with places in the file for those in the body
abbrev pub content_in_file : ℕ → Result Content Fault → Reader Content
content_in_file begin (Ok content) = succeed content
content_in_file begin (Err fault) = λ bounds source. Err (record fault { place = begin + fault.place })

-- the content of a body, all of which has to be in the file; it begins at `place`, and some of it may be read already
abbrev pub read_body : BlockKind → Section → ℕ → ℕ → Head → Reader Content
read_body kind section count place head = from_here (λ begin.
    refused_at place (called fields.Body (octets_at head.left)) >>= λ octets.
    content_in_file begin (in_body (content_at kind head.order count section.interfaces) octets))

abbrev pub body_in : BlockKind → Section → ℕ → ℕ → Head → Reader Content
body_in kinds.Other section count place head = skipped_body head
body_in kind section count place head = read_body kind section count place head

abbrev pub end_in : Head → Reader (Unit {0})
end_in head = checked_number fields.LengthAgain w32 head.order (same_length head.length)

abbrev pub block_in : BlockKind → Section → ℕ → Reader Content
block_in kind section count = from_here (λ start. do
  head ← head_at kind section.order
  content ← body_in kind section count (start + 4) head
  same ← end_in head
  succeed content)

-- the same reader, of a part that begins at this place
abbrev pub part_from : {A : Type 0} → FilePart → ℕ → Reader A → Reader A
part_from part place reader = λ bounds source. begun_at place (in_field (with_part part) (reader bounds source))

-- a block, which begins with the four octets of its type
abbrev pub whole_block_in : BlockKind → Section → ℕ → Reader Content
whole_block_in kind section count = from_here (λ start. part_from (parts.Block section.blocks) (start - 4) (block_in kind section count))

-- ---- the progress after a block: a section header begins with no interfaces

abbrev pub after_content : Section → Content → Next
after_content section (contents.Section order) = nexts.NoPacket (formats.Pcapng (record { order = order; interfaces = []; blocks = section.blocks + 1 }))
after_content section (contents.Interface interface) = nexts.NoPacket (formats.Pcapng (record { order = section.order; interfaces = section.interfaces ++ interface ∷ []; blocks = section.blocks + 1 }))
after_content section (contents.Packet packet) = nexts.Packet packet (formats.Pcapng (record section { blocks = section.blocks + 1 }))
after_content section contents.Other = nexts.NoPacket (formats.Pcapng (record section { blocks = section.blocks + 1 }))

abbrev pub block_after : BlockKind → Section → ℕ → Reader Next
block_after kind section count = whole_block_in kind section count >>= λ content. succeed (after_content section content)

abbrev pub after_kind : Section → ℕ → Option BlockKind → Reader Next
after_kind section count None = succeed nexts.End
after_kind section count (Some kind) = block_after kind section count

-- the next block, or the end of the file
abbrev pub next_block : Section → ℕ → Reader Next
next_block section count = in_part (parts.Block section.blocks) (next_kind_at section.order) >>= after_kind section count

-- ---- for results of functions

-- the same fault, whose place is counted from another one
abbrev pub fault_from : ℕ → FileFault → FileFault
fault_from begin (faults.Refused fault) = faults.Refused (record fault { place = begin + fault.place })
fault_from begin faults.Read = faults.Read
fault_from begin faults.Memory = faults.Memory

-- the place of a refusal
abbrev pub place_of : FileFault → ℕ
place_of (faults.Refused fault) = fault.place
place_of faults.Read = 0
place_of faults.Memory = 0
