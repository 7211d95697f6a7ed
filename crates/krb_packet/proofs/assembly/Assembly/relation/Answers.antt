use Rattle.std.proofs.Common.{◌≡◌, ◌+◌, ◌-◌, ◌≤◌, ◌&&◌, true, false, length, map, sym, ap, ◌∙◌, rules}
use Rattle.std.specs.Prelude.{nat_eq, nat_le}
use Rattle.std.specs.List.{list_all, list_any}
use Rattle.std.specs.Cmp.Lexicographic.{pointwise}
use Rattle.krb_packet.specs.Parts.{Parts, is_sound, span_of, piece_of, same_span, agrees, are_apart, most_octets}
use Rattle.krb_packet.specs.inner.Pieces.{IsPlace, octets_in, piece_in}
use Rattle.krb_packet.proofs.Pieces.{copied, copy_there, no_copy_there, no_fit_there, refused, is_new, fits_is, same_pieces}
use Rattle.krb_packet.proofs.assembly.Assembly.relation.Goals as goal
use Rattle.krb_packet.proofs.assembly.Assembly.relation.Goals.{then-is_apart_from_all, else-is_apart_from_all, then-agrees, else-agrees}

pub returns-then-eq : goal.returns-then-eq
returns-then-eq c =
    let octets = c.self.inside.octets.items in
    let parts = c.self.inside.parts.items in
    let pieces : c.args.self.now.pieces ≡ map (piece_in octets) parts = ap (λ (p : Parts). p.pieces) (sym c.self.view_is) in
    let sound : is_sound c.args.fragment.now ≡ true = sym c.is_sound.ensures.value ∙ c.if-not-is_sound.false in
    let found = rw (c.deref-2.ensures.value, c.span_of-span.ensures) at c.in-Some.ensures.same in
    let equal : pointwise nat_eq c.args.fragment.now.payload.octets (octets_in octets c.in-Some.part) ≡ true = rw (c.octets-octets.ensures.value, c.octets_of.ensures, c.deref-in-Some.ensures.value) at (sym c.eq.ensures ∙ c.if-eq.true) in
    copied c.args.self.now c.args.fragment.now sound (rw pieces (copy_there octets parts (piece_of c.args.fragment.now) c.place_of-place.result c.in-Some.part found.1 found.2 found.0 equal))

pub returns-else-eq : goal.returns-else-eq
returns-else-eq c =
    let octets = c.self.inside.octets.items in
    let parts = c.self.inside.parts.items in
    let pieces : c.args.self.now.pieces ≡ map (piece_in octets) parts = ap (λ (p : Parts). p.pieces) (sym c.self.view_is) in
    let sound : is_sound c.args.fragment.now ≡ true = sym c.is_sound.ensures.value ∙ c.if-not-is_sound.false in
    let is : IsPlace c.place_of-place.result (span_of c.args.fragment.now) parts = rw (c.deref.ensures.value, c.span_of-span.ensures) at (c.place_of-place.ensures octets (rw c.deref.ensures.value c.self.invariant)) in
    let found = rw (c.deref-2.ensures.value, c.span_of-span.ensures) at c.in-Some.ensures.same in
    let differs : pointwise nat_eq c.args.fragment.now.payload.octets (octets_in octets c.in-Some.part) ≡ false = rw (c.octets-octets.ensures.value, c.octets_of.ensures, c.deref-in-Some.ensures.value) at (sym c.eq.ensures ∙ c.if-eq.false) in
    refused c.args.self.now c.args.fragment.now sound (rw pieces (no_copy_there octets parts (piece_of c.args.fragment.now) c.place_of-place.result c.in-Some.part c.self.invariant is found.1 found.2 differs))
    (no_fit_there octets parts c.args.self.now c.args.fragment.now c.place_of-place.result c.in-Some.part pieces found.1 found.2 found.0 differs)

pub returns-then-fits : goal.returns-then-fits
returns-then-fits c =
    let octets = c.self.inside.octets.items in
    let parts = c.self.inside.parts.items in
    let pieces : c.args.self.now.pieces ≡ map (piece_in octets) parts = ap (λ (p : Parts). p.pieces) (sym c.self.view_is) in
    let count : c.args.self.now.count ≡ length octets = ap (λ (p : Parts). p.count) (sym c.self.view_is) in
    let sound : is_sound c.args.fragment.now ≡ true = sym c.is_sound.ensures.value ∙ c.if-not-is_sound.false in
    let end : c.args.fragment.now.offset + length c.args.fragment.now.payload.octets ≤ most_octets = search rules in
    let is : IsPlace c.place_of-place.result (span_of c.args.fragment.now) parts = rw (c.deref.ensures.value, c.span_of-span.ensures) at (c.place_of-place.ensures octets (rw c.deref.ensures.value c.self.invariant)) in
    let differs : list_any (λ part. same_span (span_of c.args.fragment.now) part.span) parts ≡ false = rw (c.deref-2.ensures.value, c.span_of-span.ensures) at (c.in_default.ensures.none octets (rw c.deref-2.ensures.value c.self.invariant)) in
    let agreed : c.if-is_apart_from_all.value ≡ (c.is_apart_from_all.result && agrees c.args.self.now c.span_of-span.result) = elim c.if-is_apart_from_all.branch [
      | then-is_apart_from_all w ↦ w.value-is ∙ w.agrees.ensures ∙ sym (ap (λ apart. apart && agrees c.args.self.now c.span_of-span.result) w.if-is_apart_from_all.true)
      | else-is_apart_from_all w ↦ w.value-is ∙ w.if-is_apart_from_all.false ∙ sym (ap (λ apart. apart && agrees c.args.self.now c.span_of-span.result) w.if-is_apart_from_all.false)
    ] in
    let roomy : c.if-agrees.fits ≡ (c.if-is_apart_from_all.value && nat_le (length c.octets-octets.result.now) (most_octets - length octets)) = elim c.if-agrees.branch [
      | then-agrees w ↦ w.fits-is ∙ rw (w.len.ensures, c.self.inside.octets.ok.0) (sym (ap (λ agreed. agreed && nat_le (length c.octets-octets.result.now) (most_octets - length octets)) w.if-agrees.true))
      | else-agrees w ↦ w.fits-is ∙ w.if-agrees.false ∙ sym (ap (λ agreed. agreed && nat_le (length c.octets-octets.result.now) (most_octets - length octets)) w.if-agrees.false)
    ] in
    let fit : (list_all (λ part. are_apart (span_of c.args.fragment.now) part.span) parts && agrees c.args.self.now (span_of c.args.fragment.now) && nat_le (length c.args.fragment.now.payload.octets) (most_octets - length octets)) ≡ true = rw (c.is_apart_from_all.ensures octets (rw c.deref-3.ensures.value c.self.invariant), c.octets-octets.ensures.value, c.deref-3.ensures.value, c.span_of-span.ensures) at (sym (roomy ∙ ap (λ agreed. agreed && nat_le (length c.octets-octets.result.now) (most_octets - length octets)) agreed) ∙ c.if-fits.true) in
    is_new octets parts c.args.self.now c.args.fragment.now c.place_of-place.result c.self.invariant pieces is sound end differs (fits_is octets parts c.args.self.now c.args.fragment.now pieces count c.self.invariant.few ∙ fit)

pub returns-else-fits : goal.returns-else-fits
returns-else-fits c =
    let octets = c.self.inside.octets.items in
    let parts = c.self.inside.parts.items in
    let pieces : c.args.self.now.pieces ≡ map (piece_in octets) parts = ap (λ (p : Parts). p.pieces) (sym c.self.view_is) in
    let count : c.args.self.now.count ≡ length octets = ap (λ (p : Parts). p.count) (sym c.self.view_is) in
    let sound : is_sound c.args.fragment.now ≡ true = sym c.is_sound.ensures.value ∙ c.if-not-is_sound.false in
    let differs : list_any (λ part. same_span (span_of c.args.fragment.now) part.span) parts ≡ false = rw (c.deref-2.ensures.value, c.span_of-span.ensures) at (c.in_default.ensures.none octets (rw c.deref-2.ensures.value c.self.invariant)) in
    let agreed : c.if-is_apart_from_all.value ≡ (c.is_apart_from_all.result && agrees c.args.self.now c.span_of-span.result) = elim c.if-is_apart_from_all.branch [
      | then-is_apart_from_all w ↦ w.value-is ∙ w.agrees.ensures ∙ sym (ap (λ apart. apart && agrees c.args.self.now c.span_of-span.result) w.if-is_apart_from_all.true)
      | else-is_apart_from_all w ↦ w.value-is ∙ w.if-is_apart_from_all.false ∙ sym (ap (λ apart. apart && agrees c.args.self.now c.span_of-span.result) w.if-is_apart_from_all.false)
    ] in
    let roomy : c.if-agrees.fits ≡ (c.if-is_apart_from_all.value && nat_le (length c.octets-octets.result.now) (most_octets - length octets)) = elim c.if-agrees.branch [
      | then-agrees w ↦ w.fits-is ∙ rw (w.len.ensures, c.self.inside.octets.ok.0) (sym (ap (λ agreed. agreed && nat_le (length c.octets-octets.result.now) (most_octets - length octets)) w.if-agrees.true))
      | else-agrees w ↦ w.fits-is ∙ w.if-agrees.false ∙ sym (ap (λ agreed. agreed && nat_le (length c.octets-octets.result.now) (most_octets - length octets)) w.if-agrees.false)
    ] in
    let fit : (list_all (λ part. are_apart (span_of c.args.fragment.now) part.span) parts && agrees c.args.self.now (span_of c.args.fragment.now) && nat_le (length c.args.fragment.now.payload.octets) (most_octets - length octets)) ≡ false = rw (c.is_apart_from_all.ensures octets (rw c.deref-3.ensures.value c.self.invariant), c.octets-octets.ensures.value, c.deref-3.ensures.value, c.span_of-span.ensures) at (sym (roomy ∙ ap (λ agreed. agreed && nat_le (length c.octets-octets.result.now) (most_octets - length octets)) agreed) ∙ c.if-fits.false) in
    refused c.args.self.now c.args.fragment.now sound (rw pieces (same_pieces octets parts (piece_of c.args.fragment.now) differs)) (fits_is octets parts c.args.self.now c.args.fragment.now pieces count c.self.invariant.few ∙ fit)
