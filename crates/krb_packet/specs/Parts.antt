-- The fragments of one datagram (RFC 791, 3.2; RFC 8200, 4.5).
use Rattle.std.specs.Prelude.{ℕ, ◌+◌, ◌%◌, max, nat_eq, nat_lt, nat_le, Bool, true, false, not, ◌&&◌, ◌||◌, ◌==◌, Option, Some, None, List, [], ◌∷◌, ◌++◌, length}
use Rattle.std.specs.List.{list_all, list_any}
use Rattle.std.specs.Cmp.Lexicographic.{pointwise}
use Rattle.krb_der.specs.Octets.{when}
use Rattle.krb_packet.specs.declared.contents.Fragment.{Fragment}
use Rattle.krb_packet.specs.declared.assembly.Span.{Span}

-- A fragment that came: the places of its octets in the datagram, and these.
pub record Piece : Type 0 where
  pub span : Span
  pub octets : List ℕ

-- The fragments of a datagram that came.
pub record Parts : Type 0 where
  -- in the order of their places
  pub pieces : List Piece
  -- the place after the last octet that came
  pub reach : ℕ
  -- the number of octets that came
  pub count : ℕ
  -- whether the last fragment came
  pub is_ended : Bool
  -- the protocol of the fragment at offset 0
  pub protocol : ℕ

abbrev pub no_parts : Parts
no_parts = record { pieces = []; reach = 0; count = 0; is_ended = false; protocol = 0 }

-- ---- a fragment alone

-- no datagram has more octets (RFC 791, 3.1)
abbrev pub most_octets : ℕ
most_octets = 65535

-- whether a fragment was captured whole, ends within 65535 octets, and has a multiple of 8 octets unless it is the last one
abbrev pub is_sound : Fragment → Bool
is_sound fragment =
    fragment.payload.size == length fragment.payload.octets
    && nat_le (fragment.offset + length fragment.payload.octets) most_octets
    && (fragment.is_last || length fragment.payload.octets % 8 == 0)

abbrev pub span_of : Fragment → Span
span_of fragment = record { start = fragment.offset; end = fragment.offset + length fragment.payload.octets; is_last = fragment.is_last }

abbrev pub piece_of : Fragment → Piece
piece_of fragment = record { span = span_of fragment; octets = fragment.payload.octets }

-- ---- a fragment and those that came

abbrev pub same_flag : Bool → Bool → Bool
same_flag true flag = flag
same_flag false flag = not flag

abbrev pub same_span : Span → Span → Bool
same_span one other = one.start == other.start && one.end == other.end && same_flag one.is_last other.is_last

abbrev pub same_piece : Piece → Piece → Bool
same_piece one other = same_span one.span other.span && pointwise nat_eq one.octets other.octets

-- whether a fragment is a copy of one that came
abbrev pub is_copy : Parts → Fragment → Bool
is_copy parts fragment = list_any (same_piece (piece_of fragment)) parts.pieces

-- whether one span ends before the other begins
abbrev pub are_apart : Span → Span → Bool
are_apart one other = nat_le one.end other.start || nat_le other.end one.start

-- whether a span agrees with the end of the datagram: no octets follow those of the last fragment
abbrev pub agrees : Parts → Span → Bool
agrees parts span = (not parts.is_ended || nat_le span.end parts.reach) && (not span.is_last || nat_le parts.reach span.end)

-- whether none that came overlaps a fragment (RFC 5722, which is of IPv6: those of IPv4 are treated alike), they agree about the end, and there are not too many octets in all
abbrev pub fits : Parts → Fragment → Bool
fits parts fragment =
    let span = span_of fragment in
    list_all (λ piece. are_apart span piece.span) parts.pieces
    && agrees parts span
    && nat_le (parts.count + length fragment.payload.octets) most_octets

-- ---- put together

-- whether a span comes before another: it begins before that, or at the same place and ends before, or has the same places and is not the last one
abbrev pub is_before : Span → Span → Bool
is_before one other = nat_lt one.start other.start || one.start == other.start && (nat_lt one.end other.end || one.end == other.end && not one.is_last && other.is_last)

-- pieces, with one more at its place
abbrev pub with_piece : Piece → List Piece → List Piece
with_piece piece [] = piece ∷ []
with_piece piece (first ∷ others) = when (is_before first.span piece.span) (λ _. first ∷ with_piece piece others) (λ _. piece ∷ first ∷ others)

abbrev pub with_fragment : Parts → Fragment → Parts
with_fragment parts fragment = record {
  pieces = with_piece (piece_of fragment) parts.pieces;
  reach = max parts.reach (fragment.offset + length fragment.payload.octets);
  count = parts.count + length fragment.payload.octets;
  is_ended = parts.is_ended || fragment.is_last;
  protocol = when (fragment.offset == 0) (λ _. fragment.protocol) (λ _. parts.protocol);
}

-- the parts with one more fragment, of which a copy changes nothing; None if the datagram has to be discarded
abbrev pub add_fragment : Parts → Fragment → Option Parts
add_fragment parts fragment =
    when (not (is_sound fragment)) (λ _. None) (λ _.
    when (is_copy parts fragment) (λ _. Some parts) (λ _.
    when (fits parts fragment) (λ _. Some (with_fragment parts fragment)) (λ _. None)))

-- whether no octet of the datagram is missing
abbrev pub is_complete : Parts → Bool
is_complete parts = parts.is_ended && parts.count == parts.reach

-- the octets of pieces, one after another
abbrev pub joined : List Piece → List ℕ
joined [] = []
joined (piece ∷ pieces) = piece.octets ++ joined pieces
