-- How the fragments of a datagram are kept: their octets in the order in which they came, and their parts in the order of their places.
use Rattle.std.specs.Prelude.{◌≡◌, ℕ, ◌+◌, ◌-◌, ◌<◌, ◌≤◌, true, false, Some, None, List, length, take, drop}
use Rattle.std.specs.List.{insert, slice_index_or}
use Rattle.krb_packet.specs.declared.contents.Fragment.{Fragment}
use Rattle.krb_packet.specs.declared.assembly.Span.{Span}
use Rattle.krb_packet.specs.declared.assembly.Part.{Part}
use Rattle.krb_packet.specs.declared.assembly.Relation.{Relation}
use Rattle.krb_packet.specs.declared.assembly.Relation.TheVariants as relations
use Rattle.krb_packet.specs.Parts.{Piece, Parts, piece_of, span_of, is_before, with_piece, with_fragment, add_fragment, most_octets}

-- the octets of a part
abbrev pub octets_in : List ℕ → Part → List ℕ
octets_in octets part = take (part.span.end - part.span.start) (drop part.begin octets)

abbrev pub piece_in : List ℕ → Part → Piece
piece_in octets part = record { span = part.span; octets = octets_in octets part }

-- one span comes before another, and ends before that begins
pub record Precedes (one other : Span) : Type 0 where
  pub before : is_before one other ≡ true
  pub ends : one.end ≤ other.start

-- a part is of these octets
pub record IsWithin (octets : List ℕ) (part : Part) : Type 0 where
  pub size : part.span.start ≤ part.span.end
  pub came : part.begin + (part.span.end - part.span.start) ≤ length octets

pub record AreParts (octets : List ℕ) (parts : List Part) : Type 0 where
  pub few : length octets ≤ most_octets
  pub within : (k : ℕ) (d : Part) → k < length parts → IsWithin octets (slice_index_or parts k d)
  pub ordered : (j k : ℕ) (d : Part) → j < k → k < length parts → Precedes (slice_index_or parts j d).span (slice_index_or parts k d).span

-- those before a place come before a span, and none from there on does
pub record IsPlace (place : ℕ) (span : Span) (parts : List Part) : Type 0 where
  pub within : place ≤ length parts
  pub before : (k : ℕ) (d : Part) → k < place → is_before (slice_index_or parts k d).span span ≡ true
  pub from : (k : ℕ) (d : Part) → place ≤ k → k < length parts → is_before (slice_index_or parts k d).span span ≡ false

-- a fragment is new, and its place among the pieces is this one
pub record IsNew (parts : Parts) (fragment : Fragment) (place : ℕ) : Type 0 where
  pub adds : add_fragment parts fragment ≡ Some (with_fragment parts fragment)
  pub end : fragment.offset + length fragment.payload.octets ≤ most_octets
  pub count : parts.count + length fragment.payload.octets ≤ most_octets
  pub within : place ≤ length parts.pieces
  pub pieces : with_piece (piece_of fragment) parts.pieces ≡ insert parts.pieces place (piece_of fragment)
  pub before : (k : ℕ) (d : Piece) → k < place → Precedes (slice_index_or parts.pieces k d).span (span_of fragment)
  pub from : (k : ℕ) (d : Piece) → place ≤ k → k < length parts.pieces → Precedes (span_of fragment) (slice_index_or parts.pieces k d).span

abbrev pub IsRelation : Parts → Fragment → Relation → Type 0
IsRelation parts fragment relations.Conflict = add_fragment parts fragment ≡ None
IsRelation parts fragment relations.Copy = add_fragment parts fragment ≡ Some parts
IsRelation parts fragment (relations.New place) = IsNew parts fragment place
