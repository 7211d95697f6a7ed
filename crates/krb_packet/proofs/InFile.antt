-- A refusal of a capture file is at a place of the file or at its end.
use Rattle.std.proofs.Common.{◌≡◌, ℕ, ◌+◌, ◌-◌, ◌≤◌, inl, inr, Option, Some, None, Result, Ok, Err, List, [], ◌∷◌, length, refl, ap, ◌∙◌, arith}
use Rattle.std.specs.Prelude.{◌*◌, ◌%◌, ◌^◌, max}
use Rattle.std.specs.Int.{w32, from_be_bytes}
use Rattle.std.proofs.lemmas.List.{length-take-le}
use Rattle.krb_der.specs.Octets.{when}
use Rattle.krb_file.specs.Fields.{Source, Fault, Bounds, Reader, ◌>>=◌, succeed, called, with_name, in_part, is_empty, source_of, ended, octets_at, next_octets_at, number_at, are_zero}
use Rattle.krb_source.specs.declared.file_why.FileWhy.{FileWhy}
use Rattle.krb_file.specs.declared.field_name.FieldName.{FieldName}
use Rattle.krb_file.specs.declared.field_name.FieldName.TheVariants as fields
use Rattle.krb_file.specs.declared.field_name.FilePart.TheVariants as parts
use Rattle.krb_file.specs.FieldReaders.{skipped_at}
use Rattle.krb_file.proofs.Fields.{err_is, and_then-err, refused_at-ok, piece-ok, at}
use Rattle.krb_packet.specs.declared.order.ByteOrder.{ByteOrder}
use Rattle.krb_packet.specs.declared.order.ByteOrder.TheVariants as orders
use Rattle.krb_packet.specs.declared.block.BlockKind.{BlockKind}
use Rattle.krb_packet.specs.declared.block.BlockKind.TheVariants as kinds
use Rattle.krb_packet.specs.declared.block.Head.{Head}
use Rattle.krb_packet.specs.declared.block.Section.{Section}
use Rattle.krb_packet.specs.declared.body.Content.{Content}
use Rattle.krb_packet.specs.declared.body.Content.TheVariants as contents
use Rattle.krb_packet.specs.declared.pcap.Form.{Form}
use Rattle.krb_packet.specs.declared.pcap.Header.{Header}
use Rattle.krb_packet.specs.declared.pcap.Magic.{Magic}
use Rattle.krb_packet.specs.declared.pcap.Magic.TheVariants as magics
use Rattle.krb_packet.specs.declared.format.Format.{Format}
use Rattle.krb_packet.specs.declared.format.Format.TheVariants as formats
use Rattle.krb_packet.specs.declared.format.Next.TheVariants as nexts
use Rattle.krb_packet.specs.Numbers.{in_order, field_in, checked_at, from_here, checked_number, refused_at}
use Rattle.krb_packet.specs.Values.{link_type, time_of}
use Rattle.krb_packet.specs.Pcaps.{magic_of, magic_at, version, header_at, captured, packet_head_at, packet_at, next_at, unit}
use Rattle.krb_packet.specs.Bodies.{byte_order, body_size, after_byte_order, section_head_at, head_of, head_at, same_length, next_kind_at, content_at, in_body, block_kind}
use Rattle.krb_packet.specs.Blocks.{skipped_body, content_in_file, read_body, body_in, end_in, block_in, whole_block_in, after_content, block_after, after_kind}
use Rattle.krb_packet.specs.Captures.{packet_in, after_magic, after_packet, next_in}
use Rattle.krb_packet.proofs.Reaching.{Passed, Passes, Passes-succeed, Passes-then, Passes-fewer, Passes-piece, Passes-octets, Passes-refused, Passes-called, Passes-checked_at, Passes-check, Passes-from_here, Stops, Stops-succeed, Stops-then, Stops-piece, Stops-octets, Stops-called, Stops-part, Stops-field, Stops-checked_at, moved-ok, moved-err, checked_at-err}
use Rattle.krb_packet.proofs.Bodies.{Stops-content, value-err}

-- within the octets that are left
abbrev pub Within : Source → Fault → Type 0
Within s f = f.place ≤ s.place + length s.octets

-- what is within the octets that are left later is within those of before
pub later : (s t : Source) (f : Fault) → t.place + length t.octets ≡ s.place + length s.octets → Within t f → Within s f
later s t f same within = omega (arith, same, within)

Stops-plain : (name : FieldName) → Stops (called name (number_at w32))
Stops-plain name = Stops-called name (number_at w32) (Stops-then (next_octets_at None 4) _ (Stops-piece 4) (λ octets. Stops-succeed (from_be_bytes w32 octets)))

-- a reader that reads nothing at the end of the file
module _ {A B : Type 0} (reader : Reader A) (make : A → B) (end : B) where
  abbrev made : Reader B
  made = reader >>= λ value. succeed (make value)

  abbrev pub or_end : Reader B
  or_end = λ bounds source. when (is_empty source.octets) (λ _. Ok (end, source)) (λ _. made bounds source)

  module _ (stops : Stops reader) where
    some : Stops made
    some = Stops-then reader (λ value. succeed (make value)) stops (λ value. Stops-succeed (make value))

    moves : (bounds : Bounds) (place : ℕ) (octets : List ℕ) (v : B) (t : Source) → or_end bounds (at place octets) ≡ Ok (v, t) → Passed 0 (at place octets) t
    moves bounds place [] v t e = (Stops-succeed end).passes.goes bounds (at place []) v t e
    moves bounds place (octet ∷ octets) v t e = some.passes.goes bounds (at place (octet ∷ octets)) v t e

    upto_end : (bounds : Bounds) (place : ℕ) (octets : List ℕ) (f : Fault) → or_end bounds (at place octets) ≡ Err f → f.place ≤ place + length octets
    upto_end bounds place [] f e = absurd cc
    upto_end bounds place (octet ∷ octets) f e = some.upto bounds (at place (octet ∷ octets)) f e

    Stops-or_end : Stops or_end
    Stops-or_end = record {
      passes = record { goes = λ bounds s v t e. moves bounds s.place s.octets v t e };
      upto = λ bounds s f e. upto_end bounds s.place s.octets f e;
    }

-- ---- readers whose faults are at a place that was read before, or at one of the octets that are left, or at their end
record StopsFrom {A : Type 0} (place : ℕ) (reader : Reader A) : Type 0 where
  passes : Passes 0 reader
  upto : (bounds : Bounds) (s : Source) (f : Fault) → place ≤ s.place + length s.octets → reader bounds s ≡ Err f → f.place ≤ s.place + length s.octets

stops_from : {A : Type 0} (place : ℕ) (reader : Reader A) → Stops reader → StopsFrom place reader
stops_from place reader stops = record { passes = stops.passes; upto = λ bounds s f near e. stops.upto bounds s f e }

stops_then : {A B : Type 0} (place : ℕ) (reader : Reader A) (next : A → Reader B) → StopsFrom place reader → ((value : A) → StopsFrom place (next value)) → StopsFrom place (reader >>= next)
stops_then place reader next first others = record {
  passes = Passes-then 0 0 reader next first.passes (λ value. (others value).passes);
  upto = λ bounds s f near e.
      elim (and_then-err (reader bounds s) (λ p. next p.0 bounds p.1) f e) [
        | inl a ↦ first.upto bounds s f near a
        | inr a ↦
            let same = (first.passes.goes bounds s a.0.0 a.0.1 a.1).same in
            let there = (others a.0.0).upto bounds a.0.1 f (omega (arith, near, same)) a.2 in
            omega (arith, there, same)
      ];
}

stops_check : {A : Type 0} (name : FieldName) (place before : ℕ) (check : Result A FileWhy) → before ≤ place → StopsFrom place (checked_at name before check)
stops_check name place before check le = record {
  passes = Passes-check name before check;
  upto = λ bounds s f near e. let here = checked_at-err name before check bounds s f e in omega (arith, near, here);
}

-- four octets, and then a reader that may refuse them
after_four : {A B : Type 0} (reader : Reader A) (next : ℕ → A → Reader B) → Stops reader → Passes 4 reader → ((place : ℕ) (value : A) → StopsFrom (place + 4) (next place value)) → Stops (from_here (λ place. reader >>= next place))
after_four reader next stops passes others = record {
  passes = Passes-from_here 0 _ (λ place. Passes-then 0 0 reader (next place) stops.passes (λ value. (others place value).passes));
  upto = λ bounds s f e.
      elim (and_then-err (reader bounds s) (λ p. next s.place p.0 bounds p.1) f e) [
        | inl a ↦ stops.upto bounds s f a
        | inr a ↦
            let goes = passes.goes bounds s a.0.0 a.0.1 a.1 in
            let there = (others s.place a.0.0).upto bounds a.0.1 f (omega (arith, goes.on)) a.2 in
            omega (arith, there, goes.same)
      ];
}

-- ---- the head of a block
-- the fields of the head of a section after its length
abbrev after_length : ℕ → List ℕ → Reader Head
after_length place octets = checked_number fields.ByteOrder w32 orders.BigEndian byte_order >>= λ order. checked_at fields.Length place (body_size (in_order w32 order octets)) >>= λ size. checked_at fields.ByteOrder (place + 4) (after_byte_order size) >>= λ left. succeed (record { order = order; length = in_order w32 order octets; left = left })

section_stops : (place : ℕ) (octets : List ℕ) → StopsFrom (place + 4) (after_length place octets)
section_stops place octets =
    stops_then (place + 4) (checked_number fields.ByteOrder w32 orders.BigEndian byte_order) _ (stops_from (place + 4) _ (Stops-checked_at fields.ByteOrder w32 orders.BigEndian byte_order)) (λ order.
    stops_then (place + 4) (checked_at fields.Length place (body_size (in_order w32 order octets))) _ (stops_check fields.Length (place + 4) place (body_size (in_order w32 order octets)) (omega arith)) (λ size.
    stops_then (place + 4) (checked_at fields.ByteOrder (place + 4) (after_byte_order size)) _ (stops_check fields.ByteOrder (place + 4) (place + 4) (after_byte_order size) (omega arith)) (λ left.
    stops_from (place + 4) _ (Stops-succeed (record { order = order; length = in_order w32 order octets; left = left })))))

abbrev length_octets : Reader (List ℕ)
length_octets = called fields.Length (next_octets_at None 4)

Stops-section : Stops section_head_at
Stops-section = after_four length_octets after_length (Stops-called fields.Length (next_octets_at None 4) (Stops-piece 4)) (Passes-called 4 fields.Length (next_octets_at None 4) (Passes-piece 4)) section_stops

Passes-section_4 : Passes 4 section_head_at
Passes-section_4 = Passes-from_here 4 _ (λ place. Passes-then 4 0 length_octets (after_length place) (Passes-called 4 fields.Length (next_octets_at None 4) (Passes-piece 4)) (λ octets. (section_stops place octets).passes))

Stops-block_head : (order : ByteOrder) → Stops (checked_number fields.Length w32 order (head_of order))
Stops-block_head order = Stops-checked_at fields.Length w32 order (head_of order)

Passes-block_4 : (order : ByteOrder) → Passes 4 (checked_number fields.Length w32 order (head_of order))
Passes-block_4 order = Passes-checked_at fields.Length w32 order (head_of order)

-- of any kind
each_head : (P : Reader Head → Type 0) → P section_head_at → ((order : ByteOrder) → P (checked_number fields.Length w32 order (head_of order))) → (kind : BlockKind) (order : ByteOrder) → P (head_at kind order)
each_head P section other kinds.Section order = section
each_head P section other kinds.Interface order = other order
each_head P section other kinds.OldPacket order = other order
each_head P section other kinds.SimplePacket order = other order
each_head P section other kinds.EnhancedPacket order = other order
each_head P section other kinds.Other order = other order

-- ---- a body, which begins at a place that was read before, and all of whose octets are in the file
content_upto : (begin size : ℕ) (content : Result Content Fault) (bounds : Bounds) (t : Source) (f : Fault) → ((g : Fault) → content ≡ Err g → g.place ≤ size) → content_in_file begin content bounds t ≡ Err f → f.place ≤ begin + size
content_upto begin size (Ok content) bounds t f within e = absurd cc
content_upto begin size (Err g) bounds t f within e =
    let moved : Fault = record g { place = begin + g.place } in
    let there : begin + g.place ≡ f.place = ap (λ (x : Fault). x.place) (err_is (Content × Source) moved f e) in
    let few : g.place ≤ size = within g refl in
    omega (arith, there, few)

Passes-content : (begin : ℕ) (r : Result Content Fault) → Passes 0 (content_in_file begin r)
Passes-content begin (Ok content) = Passes-succeed content
Passes-content begin (Err fault) = record { goes = λ bounds s v t e. absurd cc }

Passes-read : (kind : BlockKind) (section : Section) (count place : ℕ) (head : Head) → Passes 0 (read_body kind section count place head)
Passes-read kind section count place head =
    Passes-from_here 0 _ (λ begin.
    Passes-then 0 0 (refused_at place (called fields.Body (octets_at head.left))) _ (Passes-refused 0 place _ (Passes-called 0 fields.Body (octets_at head.left) (Passes-fewer head.left _ (Passes-octets head.left)))) (λ octets.
    Passes-content begin (in_body (content_at kind head.order count section.interfaces) octets)))

read_upto : (kind : BlockKind) (section : Section) (count place : ℕ) (head : Head) (bounds : Bounds) (s : Source) (f : Fault) → place ≤ s.place + length s.octets → read_body kind section count place head bounds s ≡ Err f → f.place ≤ s.place + length s.octets
read_upto kind section count place head bounds s f near e =
    let reader = called fields.Body (octets_at head.left) in
    let content : List ℕ → Result Content Fault = λ octets. in_body (content_at kind head.order count section.interfaces) octets in
    elim (and_then-err (refused_at place reader bounds s) (λ p. content_in_file s.place (content p.0) bounds p.1) f e) [
      | inl a ↦ let here = moved-err place (reader bounds s) f a in omega (arith, near, here)
      | inr a ↦
          let read = refused_at-ok (with_name fields.Body) (octets_at head.left bounds s) a.0 (moved-ok place (reader bounds s) a.0 a.1) in
          let piece = piece-ok bounds.limit head.left bounds s a.0.1 a.0.0 read in
          let long : head.left ≤ length s.octets = piece.long in
          let size : length a.0.0 ≡ head.left = ap (λ (l : List ℕ). length l) piece.octets ∙ length-take-le head.left s.octets piece.long in
          let upto = content_upto s.place (length a.0.0) (content a.0.0) bounds a.0.1 f
          (λ g is.
          let at_end = (Stops-content kind head.order count section.interfaces).upto (ended (Some (length a.0.0))) (source_of a.0.0) g (value-err (content_at kind head.order count section.interfaces (ended (Some (length a.0.0))) (source_of a.0.0)) g is) in
          omega (arith, at_end)) a.2 in
          omega (arith, upto, size, long)
    ]

read_stops : (kind : BlockKind) (section : Section) (count place : ℕ) (head : Head) → StopsFrom place (read_body kind section count place head)
read_stops kind section count place head = record { passes = Passes-read kind section count place head; upto = read_upto kind section count place head }

skipped_stops : (head : Head) → Stops (skipped_body head)
skipped_stops head =
    Stops-then (called fields.Body (skipped_at head.left)) _ (Stops-called fields.Body (skipped_at head.left) (Stops-then (next_octets_at None head.left) _ (Stops-piece head.left) (λ octets. Stops-succeed (are_zero octets))))
    (λ zeros. Stops-succeed contents.Other)

body_stops : (kind : BlockKind) (section : Section) (count place : ℕ) (head : Head) → StopsFrom place (body_in kind section count place head)
body_stops kinds.Section section count place head = read_stops kinds.Section section count place head
body_stops kinds.Interface section count place head = read_stops kinds.Interface section count place head
body_stops kinds.OldPacket section count place head = read_stops kinds.OldPacket section count place head
body_stops kinds.SimplePacket section count place head = read_stops kinds.SimplePacket section count place head
body_stops kinds.EnhancedPacket section count place head = read_stops kinds.EnhancedPacket section count place head
body_stops kinds.Other section count place head = stops_from place (skipped_body head) (skipped_stops head)

-- ---- a block after its type
abbrev after_head : BlockKind → Section → ℕ → ℕ → Head → Reader Content
after_head kind section count start head = body_in kind section count (start + 4) head >>= λ content. end_in head >>= λ same. succeed content

after_head_stops : (kind : BlockKind) (section : Section) (count start : ℕ) (head : Head) → StopsFrom (start + 4) (after_head kind section count start head)
after_head_stops kind section count start head =
    stops_then (start + 4) (body_in kind section count (start + 4) head) _ (body_stops kind section count (start + 4) head) (λ content.
    stops_from (start + 4) _ (Stops-then (end_in head) _ (Stops-checked_at fields.LengthAgain w32 head.order (same_length head.length)) (λ same. Stops-succeed content)))

Stops-block : (kind : BlockKind) (section : Section) (count : ℕ) → Stops (block_in kind section count)
Stops-block kind section count =
    after_four (head_at kind section.order) (after_head kind section count) (each_head (λ (reader : Reader Head). Stops reader) Stops-section Stops-block_head kind section.order) (each_head (λ (reader : Reader Head). Passes 4 reader) Passes-section_4 Passes-block_4 kind section.order) (after_head_stops kind section count)

pub Stops-whole_block : (kind : BlockKind) (section : Section) (count : ℕ) → Stops (whole_block_in kind section count)
Stops-whole_block kind section count = Stops-part (parts.Block section.blocks) (λ start. start - 4) (block_in kind section count) (Stops-block kind section count)

Stops-after : (kind : BlockKind) (section : Section) (count : ℕ) → Stops (block_after kind section count)
Stops-after kind section count =
    Stops-then (whole_block_in kind section count) _ (Stops-whole_block kind section count) (λ content. Stops-succeed (after_content section content))

-- ---- the next block
Stops-kind : (section : Section) (count : ℕ) (kind : Option BlockKind) → Stops (after_kind section count kind)
Stops-kind section count None = Stops-succeed nexts.End
Stops-kind section count (Some kind) = Stops-after kind section count

Stops-next_kind : (order : ByteOrder) → Stops (next_kind_at order)
Stops-next_kind order = Stops-or_end (field_in fields.Type w32 order) (λ number. Some (block_kind number)) None (Stops-field fields.Type w32 order)

-- ---- a pcap
pub Stops-header : (form : Form) → Stops (header_at form)
Stops-header form =
    Stops-then (checked_number fields.Version w32 form.order (version form.order)) _ (Stops-checked_at fields.Version w32 form.order (version form.order)) (λ version.
    Stops-then (called fields.ThisZone (number_at w32)) _ (Stops-plain fields.ThisZone) (λ thiszone.
    Stops-then (called fields.SigFigs (number_at w32)) _ (Stops-plain fields.SigFigs) (λ sigfigs.
    Stops-then (called fields.SnapLen (number_at w32)) _ (Stops-plain fields.SnapLen) (λ snaplen.
    Stops-then (field_in fields.LinkType w32 form.order) _ (Stops-field fields.LinkType w32 form.order) (λ link.
    Stops-succeed (record { form = form; link = link_type (link % 2 ^ 26) }))))))

Stops-packet : (header : Header) (count : ℕ) → Stops (packet_at header count)
Stops-packet header count =
    let order = header.form.order in
    Stops-then (packet_head_at order) _ (
    Stops-then (field_in fields.Seconds w32 order) _ (Stops-field fields.Seconds w32 order) (λ seconds.
    Stops-then (field_in fields.Fraction w32 order) _ (Stops-field fields.Fraction w32 order) (λ fraction.
    Stops-then (checked_number fields.CapturedLength w32 order captured) _ (Stops-checked_at fields.CapturedLength w32 order captured) (λ size.
    Stops-then (field_in fields.OriginalLength w32 order) _ (Stops-field fields.OriginalLength w32 order) (λ original.
    Stops-succeed (record { seconds = seconds; fraction = fraction; captured = size; original = original })))))
    ) (λ head.
    Stops-then (called fields.Data (octets_at head.captured)) _ (Stops-called fields.Data (octets_at head.captured) (Stops-octets head.captured)) (λ octets.
    Stops-succeed (record { number = count + 1; time = time_of (head.seconds * 10 ^ 9 + head.fraction * unit header.form.precision); link = header.link; octets = octets; size = max head.captured head.original })))

-- ---- a step
Stops-magic : (count : ℕ) (magic : Magic) → Stops (after_magic count magic)
Stops-magic count (magics.Pcap form) = Stops-then (header_at form) _ (Stops-header form) (λ header. Stops-succeed (nexts.NoPacket (formats.Pcap header)))
Stops-magic count magics.Pcapng = Stops-after kinds.Section (record { order = orders.BigEndian; interfaces = []; blocks = 0 }) count

pub Stops-step : (format : Format) (count : ℕ) → Stops (next_in format count)
Stops-step formats.Unknown count = Stops-then magic_at _ (Stops-checked_at fields.Magic w32 orders.BigEndian magic_of) (Stops-magic count)
Stops-step (formats.Pcap header) count =
    Stops-then (packet_in header count) _ (Stops-part (parts.Packet count) (λ start. start) (next_at header count) (Stops-or_end (packet_at header count) Some None (Stops-packet header count))) (λ packet. Stops-succeed (after_packet header packet))
Stops-step (formats.Pcapng section) count =
    Stops-then (in_part (parts.Block section.blocks) (next_kind_at section.order)) _ (Stops-part (parts.Block section.blocks) (λ start. start) (next_kind_at section.order) (Stops-next_kind section.order)) (Stops-kind section count)
