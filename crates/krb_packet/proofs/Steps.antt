-- How many octets and blocks each step of a file reads.
use Rattle.std.proofs.Common.{◌≡◌, ℕ, ◌+◌, ◌≤◌, Option, Some, None, Ok, List, [], ◌∷◌, length, refl, ap, ◌∙◌, subst, arith}
use Rattle.std.specs.Int.{w32}
use Rattle.krb_file.specs.Fields.{Source, Bounds, Reader, with_part, called, in_part, succeed, octets_at}
use Rattle.krb_file.specs.FieldReaders.{Cursor, HasRead, source_at}
use Rattle.krb_file.specs.declared.field_name.FieldName.TheVariants as fields
use Rattle.krb_file.specs.declared.field_name.FilePart.TheVariants as parts
use Rattle.krb_file.proofs.Fields.{at, ok_is, and_then-ok, refused_at-ok, begun_at-ok, at_field}
use Rattle.krb_file.proofs.FieldReaders.{some_rest}
use Rattle.krb_packet.specs.declared.order.ByteOrder.TheVariants as orders
use Rattle.krb_packet.specs.declared.packet.Packet.{Packet}
use Rattle.krb_packet.specs.declared.pcap.Header.{Header}
use Rattle.krb_packet.specs.declared.pcap.Magic.{Magic}
use Rattle.krb_packet.specs.declared.pcap.Magic.TheVariants as magics
use Rattle.krb_packet.specs.declared.block.BlockKind.{BlockKind}
use Rattle.krb_packet.specs.declared.block.BlockKind.TheVariants as kinds
use Rattle.krb_packet.specs.declared.block.Section.{Section}
use Rattle.krb_packet.specs.declared.body.Content.{Content}
use Rattle.krb_packet.specs.declared.body.Content.TheVariants as contents
use Rattle.krb_packet.specs.declared.format.Format.{Format}
use Rattle.krb_packet.specs.declared.format.Format.TheVariants as formats
use Rattle.krb_packet.specs.declared.format.Next.{Next}
use Rattle.krb_packet.specs.declared.format.Next.TheVariants as nexts
use Rattle.krb_packet.specs.Numbers.{field_in, checked_number}
use Rattle.krb_packet.specs.Pcaps.{magic_of, magic_at, header_at, captured, packet_head_at, packet_at, next_at}
use Rattle.krb_packet.specs.Bodies.{next_kind_at, block_kind}
use Rattle.krb_packet.specs.Blocks.{whole_block_in, after_content, block_after, after_kind}
use Rattle.krb_packet.specs.Captures.{packet_in, after_magic, after_packet, next_in, blocks_of}
use Rattle.krb_packet.proofs.InFile.{or_end, Stops-header, Stops-whole_block}
use Rattle.krb_packet.proofs.Reaching.{Passed, Passes, Passes-then, Passes-fewer, Passes-made, Passes-octets, Passes-called, Passes-field, Passes-checked_at}

-- ---- a pcap
pub Passes-packet : (header : Header) (count : ℕ) → Passes 16 (packet_at header count)
Passes-packet header count =
    let order = header.form.order in
    Passes-then 16 0 (packet_head_at order) _ (
    Passes-then 4 12 (field_in fields.Seconds w32 order) _ (Passes-field fields.Seconds w32 order) (λ seconds.
    Passes-then 4 8 (field_in fields.Fraction w32 order) _ (Passes-field fields.Fraction w32 order) (λ fraction.
    Passes-then 4 4 (checked_number fields.CapturedLength w32 order captured) _ (Passes-checked_at fields.CapturedLength w32 order captured) (λ size.
    Passes-made 4 (field_in fields.OriginalLength w32 order) _ (Passes-field fields.OriginalLength w32 order))))
    ) (λ head. Passes-fewer head.captured _ (Passes-made head.captured (called fields.Data (octets_at head.captured)) _ (Passes-called head.captured fields.Data (octets_at head.captured) (Passes-octets head.captured))))

-- what is read, if the file has not ended
some_passes : {A B : Type 0} (n : ℕ) (reader : Reader A) (make : A → B) → Passes n reader → (bounds : Bounds) (place : ℕ) (octets : List ℕ) (v : B) (t : Source) → or_end reader (λ x. Some (make x)) None bounds (at place octets) ≡ Ok (Some v, t) → Passed n (at place octets) t
some_passes {A} {B} n reader make passes bounds place [] v t e =
    let same : ◌≡◌ {A = Option B} None (Some v) = ap (λ (p : Option B × Source). p.0) (ok_is (None, at place []) (Some v, t) e) in
    absurd cc
some_passes {A} {B} n reader make passes bounds place (octet ∷ octets) v t e =
    let s = at place (octet ∷ octets) in
    let a = and_then-ok (reader bounds s) (λ p. Ok (Some (make p.0), p.1)) (Some v, t) e in
    subst (Passed n s) (ap (λ (p : Option B × Source). p.1) (ok_is (Some (make a.0.0), a.0.1) (Some v, t) a.2)) (passes.goes bounds s a.0.0 a.0.1 a.1)

-- ---- a step: it reads an octet at least, and a block at most
pub record Goes (before : Format) (after : Format) (s t : Source) : Type 0 where
  pub on : s.place + 4 ≤ t.place
  pub same : t.place + length t.octets ≡ s.place + length s.octets
  pub blocks : blocks_of after ≤ blocks_of before + 1

abbrev pub Advances : Format → Next → Source → Source → Type 0
Advances before (nexts.Packet packet after) s t = Goes before after s t
Advances before (nexts.NoPacket after) s t = Goes before after s t
Advances before nexts.End s t = Unit {0}

content_advances : (before : Format) (section : Section) (content : Content) (s t : Source) → section.blocks ≡ blocks_of before → Passed 4 s t → Advances before (after_content section content) s t
content_advances before section (contents.Section order) s t is p = record { on = p.on; same = p.same; blocks = omega (arith, is) }
content_advances before section (contents.Interface interface) s t is p = record { on = p.on; same = p.same; blocks = omega (arith, is) }
content_advances before section (contents.Packet packet) s t is p = record { on = p.on; same = p.same; blocks = omega (arith, is) }
content_advances before section contents.Other s t is p = record { on = p.on; same = p.same; blocks = omega (arith, is) }

-- of a block after its type, which took four octets
block_advances : (before : Format) (kind : BlockKind) (section : Section) (count : ℕ) (bounds : Bounds) (s u : Source) (v : Next) (t : Source) → section.blocks ≡ blocks_of before → Passed 4 s u
    → block_after kind section count bounds u ≡ Ok (v, t) → Advances before v s t
block_advances before kind section count bounds s u v t is first e =
    let a = and_then-ok (whole_block_in kind section count bounds u) (λ x. succeed (after_content section x.0) bounds x.1) (v, t) e in
    let goes = (Stops-whole_block kind section count).passes.goes bounds u a.0.0 a.0.1 a.1 in
    subst (λ (p : Next × Source). Advances before p.0 s p.1) (ok_is (after_content section a.0.0, a.0.1) (v, t) a.2)
    (content_advances before section a.0.0 s a.0.1 is (record { on = omega (arith, first.on, goes.on); same = goes.same ∙ first.same }))

pcap_advances : (header : Header) (packet : Option Packet) (s t : Source) → ((p : Packet) → packet ≡ Some p → Passed 16 s t) → Advances (formats.Pcap header) (after_packet header packet) s t
pcap_advances header None s t passed = tt
pcap_advances header (Some packet) s t passed = let p = passed packet refl in record { on = omega (arith, p.on); same = p.same; blocks = omega arith }

kind_advances : (section : Section) (count : ℕ) (kind : Option BlockKind) (bounds : Bounds) (s u : Source) (v : Next) (t : Source) → ((k : BlockKind) → kind ≡ Some k → Passed 4 s u)
    → after_kind section count kind bounds u ≡ Ok (v, t) → Advances (formats.Pcapng section) v s t
kind_advances section count None bounds s u v t passed e = subst (λ (p : Next × Source). Advances (formats.Pcapng section) p.0 s p.1) (ok_is (nexts.End, u) (v, t) e) tt
kind_advances section count (Some kind) bounds s u v t passed e = block_advances (formats.Pcapng section) kind section count bounds s u v t refl (passed kind refl) e

magic_advances : (count : ℕ) (magic : Magic) (bounds : Bounds) (s u : Source) (v : Next) (t : Source) → Passed 4 s u → after_magic count magic bounds u ≡ Ok (v, t) → Advances formats.Unknown v s t
magic_advances count (magics.Pcap form) bounds s u v t first e =
    let a = and_then-ok (header_at form bounds u) (λ x. succeed (nexts.NoPacket (formats.Pcap x.0)) bounds x.1) (v, t) e in
    let goes = (Stops-header form).passes.goes bounds u a.0.0 a.0.1 a.1 in
    subst (λ (p : Next × Source). Advances formats.Unknown p.0 s p.1) (ok_is (nexts.NoPacket (formats.Pcap a.0.0), a.0.1) (v, t) a.2)
    (record { on = omega (arith, first.on, goes.on); same = goes.same ∙ first.same; blocks = omega arith })
magic_advances count magics.Pcapng bounds s u v t first e =
    block_advances formats.Unknown kinds.Section (record { order = orders.BigEndian; interfaces = []; blocks = 0 }) count bounds s u v t refl first e

pub step_advances : (format : Format) (count : ℕ) (bounds : Bounds) (s : Source) (v : Next) (t : Source) → next_in format count bounds s ≡ Ok (v, t) → Advances format v s t
step_advances formats.Unknown count bounds s v t e =
    let first = Passes-checked_at fields.Magic w32 orders.BigEndian magic_of in
    let a = and_then-ok (magic_at bounds s) (λ x. after_magic count x.0 bounds x.1) (v, t) e in
    magic_advances count a.0.0 bounds s a.0.1 v t (first.goes bounds s a.0.0 a.0.1 a.1) a.2
step_advances (formats.Pcap header) count bounds s v t e =
    let reader = next_at header count in
    let part = with_part (parts.Packet count) in
    let a = and_then-ok (packet_in header count bounds s) (λ x. succeed (after_packet header x.0) bounds x.1) (v, t) e in
    let read = refused_at-ok part (reader bounds s) a.0 (begun_at-ok s.place (at_field part reader bounds s) a.0 a.1) in
    subst (λ (p : Next × Source). Advances (formats.Pcap header) p.0 s p.1) (ok_is (after_packet header a.0.0, a.0.1) (v, t) a.2)
    (pcap_advances header a.0.0 s a.0.1 (λ p is.
    some_passes 16 (packet_at header count) (λ x. x) (Passes-packet header count) bounds s.place s.octets p a.0.1 (subst (λ (o : Option Packet). next_at header count bounds s ≡ Ok (o, a.0.1)) is read)))
step_advances (formats.Pcapng section) count bounds s v t e =
    let reader = next_kind_at section.order in
    let part = with_part (parts.Block section.blocks) in
    let a = and_then-ok (in_part (parts.Block section.blocks) reader bounds s) (λ x. after_kind section count x.0 bounds x.1) (v, t) e in
    let read = refused_at-ok part (reader bounds s) a.0 (begun_at-ok s.place (at_field part reader bounds s) a.0 a.1) in
    kind_advances section count a.0.0 bounds s a.0.1 v t
    (λ k is. some_passes 4 (field_in fields.Type w32 section.order) block_kind (Passes-field fields.Type w32 section.order) bounds s.place s.octets k a.0.1 (subst (λ (o : Option BlockKind). next_kind_at section.order bounds s ≡ Ok (o, a.0.1)) is read))
    a.2

-- the same of a cursor
pub step_goes : (format : Format) (count : ℕ) (v : Next) (old new : Cursor) → HasRead (next_in format count) v old new → (had : List ℕ) × (left : List ℕ) × Advances format v (source_at old.place had) (source_at new.place left)
step_goes format count v old new read =
    let now = some_rest new in
    let a = read.from now.rest now.there in
    (a.0, now.rest, step_advances format count old.bounds (source_at old.place a.0) v (source_at new.place now.rest) a.2)
