-- The numbers before the octets of a packet of a pcap, read at once.
use Rattle.std.proofs.Common.{◌≡◌, ℕ, ◌+◌, false, ltb, None, Result, Ok, Err, List, length, take, drop, refl, ap, sym, ◌∙◌, arith, length-drop, take-take, le-ltb}
use Rattle.std.proofs.lemmas.List.{drop-drop, drop-take}
use Rattle.std.specs.Int.{w32}
use Rattle.krb_file.specs.Fields.{Source, Fault, Bounds, Reader, and_then, ◌>>=◌, succeed, with_name, refused_at, exceeds, next_octets_at}
use Rattle.krb_file.specs.FieldReaders.{Cursor, HasRead, Follows, source_at}
use Rattle.krb_source.specs.declared.file_why.FileWhy.{FileWhy}
use Rattle.krb_file.specs.declared.fault.FileFault.{FileFault}
use Rattle.krb_file.specs.declared.field_name.FieldName.{FieldName}
use Rattle.krb_file.specs.declared.field_name.FieldName.TheVariants as fields
use Rattle.krb_file.proofs.Fields.{Inside-before, piece-ok}
use Rattle.krb_file.proofs.FieldReaders.{some_rest}
use Rattle.krb_packet.specs.declared.order.ByteOrder.{ByteOrder}
use Rattle.krb_packet.specs.declared.pcap.PacketHead.{PacketHead}
use Rattle.krb_packet.specs.Numbers.{in_order, field_in, checked_at, checked_number, checked}
use Rattle.krb_packet.specs.Pcaps.{captured, packet_head_at}
use Rattle.krb_packet.specs.inner.PacketHeads.{number_after, with_captured, packet_head_of}

module _ (order : ByteOrder) where
  abbrev after_size : ℕ → ℕ → ℕ → Reader PacketHead
  after_size seconds fraction size = field_in fields.OriginalLength w32 order >>= λ original. succeed (record { seconds = seconds; fraction = fraction; captured = size; original = original })

  abbrev after_fraction : ℕ → ℕ → Reader PacketHead
  after_fraction seconds fraction = checked_number fields.CapturedLength w32 order captured >>= after_size seconds fraction

  abbrev after_seconds : ℕ → Reader PacketHead
  after_seconds seconds = field_in fields.Fraction w32 order >>= after_fraction seconds

  module _ (bounds : Bounds) (place : ℕ) (octets taken : List ℕ) (t : Source) (e : next_octets_at None 16 bounds (source_at place octets) ≡ Ok (taken, t)) where
    piece_there : (at more here there : ℕ) (ys zs : List ℕ) → at + (4 + more) ≡ 16 → here ≡ place + at → there ≡ here + 4 → ys ≡ drop at octets → zs ≡ drop 4 ys → next_octets_at None 4 bounds (source_at here ys) ≡ Ok (take 4 (drop at taken), source_at there zs)
    piece_there at more here there ys zs fits begins ends from left =
        let p = piece-ok None 16 bounds (source_at place octets) t taken e in
        let inside : exceeds (here + 4) bounds.end ≡ false = (Inside-before bounds (here + 4) (place + 16) (omega (arith, fits, begins)) p.inside).inside in
        let enough : ltb (length ys) 4 ≡ false = le-ltb _ _ (omega (arith, ap length from, length-drop at octets, p.long, fits)) in
        let there_so : take 4 (drop at taken) ≡ take 4 ys =
        ap (λ (xs : List ℕ). take 4 (drop at xs)) (p.octets ∙ ap (λ (n : ℕ). take n octets) (sym fits))
        ∙ ap (take 4) (drop-take at (4 + more) octets)
        ∙ take-take 4 (4 + more) (drop at octets) (omega arith)
        ∙ ap (take 4) (sym from) in
        rw (ends, left, there_so, inside, enough) refl

    field_there : (name : FieldName) (at more here there : ℕ) (ys zs : List ℕ) → at + (4 + more) ≡ 16 → here ≡ place + at → there ≡ here + 4 → ys ≡ drop at octets → zs ≡ drop 4 ys → field_in name w32 order bounds (source_at here ys) ≡ Ok (number_after order at taken, source_at there zs)
    field_there name at more here there ys zs fits begins ends from left =
        ap (λ (r : Result (List ℕ × Source) Fault). refused_at (with_name name) (and_then r (λ p. succeed (in_order w32 order p.0) bounds p.1))) (piece_there at more here there ys zs fits begins ends from left)

    abbrev number : ℕ → ℕ
    number at = number_after order at taken

    first : field_in fields.Seconds w32 order bounds (source_at place octets) ≡ Ok (number 0, source_at (place + 4) (drop 4 octets))
    first = field_there fields.Seconds 0 12 place (place + 4) octets (drop 4 octets) refl (omega arith) refl refl refl

    second : field_in fields.Fraction w32 order bounds (source_at (place + 4) (drop 4 octets)) ≡ Ok (number 4, source_at (place + 8) (drop 8 octets))
    second = field_there fields.Fraction 4 8 (place + 4) (place + 8) (drop 4 octets) (drop 8 octets) refl refl (omega arith) refl (sym (drop-drop 4 4 octets))

    third : field_in fields.CapturedLength w32 order bounds (source_at (place + 8) (drop 8 octets)) ≡ Ok (number 8, source_at (place + 12) (drop 12 octets))
    third = field_there fields.CapturedLength 8 4 (place + 8) (place + 12) (drop 8 octets) (drop 12 octets) refl refl (omega arith) refl (sym (drop-drop 4 8 octets))

    fourth : field_in fields.OriginalLength w32 order bounds (source_at (place + 12) (drop 12 octets)) ≡ Ok (number 12, t)
    fourth =
        field_there fields.OriginalLength 12 0 (place + 12) (place + 16) (drop 12 octets) (drop 16 octets) refl refl (omega arith) refl (sym (drop-drop 4 12 octets))
        ∙ ap (λ (s : Source). let it : Result (ℕ × Source) Fault = Ok (number 12, s) in it) (sym (piece-ok None 16 bounds (source_at place octets) t taken e).source)

    abbrev on_size : Result (ℕ × Source) Fault → Result (PacketHead × Source) Fault
    on_size r = and_then r (λ p. after_size (number 0) (number 4) p.0 bounds p.1)

    sized : (r : Result ℕ FileWhy) → on_size (checked_at fields.CapturedLength (place + 8) r bounds (source_at (place + 12) (drop 12 octets))) ≡ checked_at fields.CapturedLength (place + 8) (with_captured order taken r) bounds t
    sized (Ok size) = ap (λ (r : Result (ℕ × Source) Fault). and_then r (λ p. let head : PacketHead = record { seconds = number 0; fraction = number 4; captured = size; original = p.0 } in succeed head bounds p.1)) fourth
    sized (Err why) = refl

    head_is : packet_head_at order bounds (source_at place octets) ≡ checked_at fields.CapturedLength (place + 8) (packet_head_of order taken) bounds t
    head_is =
        ap (λ (r : Result (ℕ × Source) Fault). and_then r (λ p. after_seconds p.0 bounds p.1)) first
        ∙ ap (λ (r : Result (ℕ × Source) Fault). and_then r (λ p. after_fraction (number 0) p.0 bounds p.1)) second
        ∙ ap (λ (r : Result (ℕ × Source) Fault). on_size (and_then r (λ p. checked_at fields.CapturedLength (place + 8) (captured p.0) bounds p.1))) third
        ∙ sized (captured (number 8))

module _ (order : ByteOrder) (octets : List ℕ) (MayFail : Type 0) (old new : Cursor) (read : HasRead (next_octets_at None 16) octets old new) where
  follows_so : (r : Result PacketHead FileWhy) → packet_head_of order octets ≡ r → Follows (λ (head : PacketHead). head) (checked fields.CapturedLength (old.place + 8) r) (packet_head_at order) MayFail old new
  follows_so (Ok head) is = record {
    same_bounds = read.same_bounds;
    from = λ rest there.
        let a = read.from rest there in
        let t = source_at new.place rest in
        (a.0, a.1, head_is order old.bounds old.place a.0 octets t a.2 ∙ ap (λ (r : Result PacketHead FileWhy). checked_at fields.CapturedLength (old.place + 8) r old.bounds t) is);
  }
  follows_so (Err why) is =
      let now = some_rest new in
      let a = read.from now.rest now.there in
      let t = source_at new.place now.rest in
      record {
        octets = a.0;
        there = a.1;
        refused = head_is order old.bounds old.place a.0 octets t a.2 ∙ ap (λ (r : Result PacketHead FileWhy). checked_at fields.CapturedLength (old.place + 8) r old.bounds t) is;
      }

  pub head_follows : (place : ℕ) (result : Result PacketHead FileFault) → place ≡ old.place → result ≡ checked fields.CapturedLength (place + 8) (packet_head_of order octets) → Follows (λ (head : PacketHead). head) result (packet_head_at order) MayFail old new
  head_follows place result here is = rw (is, here) (follows_so (packet_head_of order octets) refl)
