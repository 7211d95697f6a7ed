-- Segments of a stream, in the order in which they were captured: whatever way it was cut into them, and however often each of them came.
use Rattle.std.specs.Prelude.{◌≡◌, ℕ, ◌+◌, ◌%◌, ◌^◌, ◌<◌, ◌≤◌, true, false, List, [], ◌∷◌, length}
use Rattle.krb_flow.specs.declared.direction.Beginning.{Beginning}
use Rattle.krb_flow.specs.declared.direction.Beginning.TheVariants.{Syn, Joined}
use Rattle.krb_flow.specs.Directions.{first_number}
use Rattle.krb_flow.specs.Laws.{Piece, HasAt, IsCaptured}

-- each octet of the stream is in one of these segments
abbrev pub AllCaptured : List ℕ → List Piece → Type 0
AllCaptured stream pieces = (place : ℕ) → place < length stream → IsCaptured place pieces

-- A segment of a stream whose first octet has the number `first`. It comes after others, and has the place of its own first octet.
pub record IsSegmentOf (stream : List ℕ) (first : ℕ) (before : List Piece) (piece : Piece) : Type 0 where
  -- it has the stream's octets from its place on, as all copies do, and no others; the last of them may not be captured
  pub has_octets : HasAt stream piece.0 piece.1.payload.octets
  pub captured : length piece.1.payload.octets ≤ piece.1.payload.size
  pub within : 0 < piece.1.payload.size → piece.0 + piece.1.payload.size ≤ length stream
  pub number : first_number piece.1 ≡ (first + piece.0) % 2 ^ 32
  -- it is at most 1048576 octets early, and, as numbers are counted modulo 2^32, at most 2^31 late
  pub not_early : (place : ℕ) → place + 1048576 < piece.0 + piece.1.payload.size → IsCaptured place before
  pub not_late : (place : ℕ) → IsCaptured place before → place < piece.0 + 2 ^ 31
  -- a FIN is at the end of the stream, a RST comes after all of it, and a copy of the SYN at any time
  pub fin : piece.1.fin ≡ true → piece.0 + piece.1.payload.size ≡ length stream
  pub rst : piece.1.rst ≡ true → AllCaptured stream before
  pub syn : piece.1.syn ≡ true → piece.0 ≡ 0

abbrev pub AreSegmentsOf : List ℕ → ℕ → List Piece → List Piece → Type 0
AreSegmentsOf stream first before [] = Unit {0}
AreSegmentsOf stream first before (piece ∷ pieces) = IsSegmentOf stream first before piece × AreSegmentsOf stream first (piece ∷ before) pieces

-- what the first segment has: the SYN; or octet 0, whose SYN comes later or never
abbrev pub BeginsWith : Beginning → Piece → Type 0
BeginsWith Syn piece = piece.1.syn ≡ true
BeginsWith Joined piece = (piece.1.syn ≡ false) × (piece.0 ≡ 0) × (0 < piece.1.payload.size)

abbrev pub BeginAs : List ℕ → Beginning → List Piece → Type 0
BeginAs stream how [] = ⊥
BeginAs stream how (piece ∷ pieces) = BeginsWith how piece × (piece.1.rst ≡ false) × AreSegmentsOf stream (first_number piece.1) [] (piece ∷ pieces)

-- The segments of a stream, with each of its octets at least once, of which the first one has the SYN or octet 0.
pub record AreAllOf (stream : List ℕ) (how : Beginning) (pieces : List Piece) : Type 0 where
  pub short : length stream < 2 ^ 61
  pub segments : BeginAs stream how pieces
  pub all : AllCaptured stream pieces
