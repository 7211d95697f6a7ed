-- Laws of sequence numbers and of directions.
use Rattle.std.specs.Prelude.{◌≡◌, ℕ, ◌+◌, ◌%◌, ◌<◌, ◌≤◌, ◌^◌, ◌⊎◌, true, false, nat_lt, Some, None, List, [], ◌∷◌, ◌++◌, length, slice_get}
use Rattle.krb_packet.specs.declared.contents.Segment.{Segment}
use Rattle.krb_flow.specs.declared.serial.Distance.{Distance}
use Rattle.krb_flow.specs.declared.direction.State.{State}
use Rattle.krb_flow.specs.declared.direction.State.TheVariants.{Fresh, Open, Ended}
use Rattle.krb_flow.specs.declared.stream.TheConstants.{MOST_WAITING}
use Rattle.krb_flow.specs.Serial.{Separates, distance}
use Rattle.krb_flow.specs.Progress.{Progress, begun}
use Rattle.krb_flow.specs.Directions.{Outcome, first_number, is_skipped, advanced, begins, step, outcomes}

-- The distance of two numbers separates them, and no other distance does.
abbrev pub DistanceIsTheOne : Type 0
DistanceIsTheOne = (expected number : ℕ) → expected < 2 ^ 32 → number < 2 ^ 32 → Separates expected number (distance expected number) × ((other : Distance) → Separates expected number other → other ≡ distance expected number)

-- ---- the octets that are delivered of a stream

-- the stream has these octets at the places from `place` on
abbrev pub HasAt : List ℕ → ℕ → List ℕ → Type 0
HasAt stream place [] = Unit {0}
HasAt stream place (octet ∷ octets) = (slice_get stream place ≡ Some octet) × HasAt stream (place + 1) octets

-- A piece of the stream: a segment, and the place of its first octet. The place is within 2^31 of the next octet expected.
abbrev pub Piece : Type 0
Piece = ℕ × Segment

pub record IsPiece (stream : List ℕ) (progress : Progress) (piece : Piece) : Type 0 where
  pub has_octets : HasAt stream piece.0 piece.1.payload.octets
  pub number : first_number piece.1 ≡ (progress.first + piece.0) % 2 ^ 32
  pub after : progress.expected ≤ piece.0 + 2 ^ 31
  pub before : piece.0 < progress.expected + 2 ^ 31

abbrev pub segments_of : List Piece → List Segment
segments_of [] = []
segments_of (piece ∷ pieces) = piece.1 ∷ segments_of pieces

-- the progress of a direction after its SYN
abbrev pub at_first : Segment → Progress
at_first segment = begun (first_number segment)

-- Pieces of the stream come in any order and any number of times, until the direction ends, and after that copies. The first one has the SYN, and may have octets, too.
abbrev pub PieceOf : List ℕ → State → Piece → Type 0
PieceOf stream Fresh piece = (piece.1.syn ≡ true) × (piece.1.rst ≡ false) × IsPiece stream (at_first piece.1) piece
PieceOf stream (Open progress) piece = (piece.1.syn ≡ false) × IsPiece stream progress piece
PieceOf stream (Ended had) piece = (begins (Ended had) piece.1).1 ≡ None

abbrev pub PiecesOf : List ℕ → State → List Piece → Type 0
PiecesOf stream state [] = Unit {0}
PiecesOf stream state (piece ∷ pieces) = PieceOf stream state piece × PiecesOf stream (step state piece.1).1 pieces

abbrev pub octets_of : List Outcome → List ℕ
octets_of [] = []
octets_of (outcome ∷ rest) = outcome.octets ++ octets_of rest

-- all octets that are delivered of pieces
abbrev pub delivered_of : State → List Piece → List ℕ
delivered_of state pieces = octets_of (outcomes state (segments_of pieces))

-- nothing came, or only what begins the direction
abbrev pub IsFirst : State → Type 0
IsFirst Fresh = Unit {0}
IsFirst (Open progress) = progress ≡ begun progress.first
IsFirst (Ended had) = ⊥

-- Whatever pieces come, the octets that are delivered are those of the stream from its first octet on: none is missing, none comes twice, and none is at the place of another.
abbrev pub DeliversTheStream : Type 0
DeliversTheStream = (stream : List ℕ) (state : State) (pieces : List Piece) → IsFirst state → PiecesOf stream state pieces → HasAt stream 0 (delivered_of state pieces)

-- A piece that comes while the direction is open: it is not skipped, a FIN is at the end of the stream, and not too many octets wait after it.
pub record IsFair (stream : List ℕ) (progress : Progress) (piece : Piece) : Type 0 where
  pub near : is_skipped progress piece.1 ≡ false
  pub no_reset : piece.1.rst ≡ false
  pub fin : piece.1.fin ≡ true → piece.0 + piece.1.payload.size ≡ length stream
  pub few_wait : nat_lt MOST_WAITING (length (advanced progress piece.1).waiting) ≡ false

abbrev pub FairOf : List ℕ → State → Piece → Type 0
FairOf stream Fresh piece = IsFair stream (at_first piece.1) piece
FairOf stream (Open progress) piece = IsFair stream progress piece
FairOf stream (Ended had) piece = Unit {0}

abbrev pub AllFair : List ℕ → State → List Piece → Type 0
AllFair stream state [] = Unit {0}
AllFair stream state (piece ∷ pieces) = FairOf stream state piece × AllFair stream (step state piece.1).1 pieces

-- the octet at a place is in one of the pieces
abbrev pub IsCaptured : ℕ → List Piece → Type 0
IsCaptured place [] = ⊥
IsCaptured place (piece ∷ pieces) = ((piece.0 ≤ place) × (place < piece.0 + length piece.1.payload.octets)) ⊎ IsCaptured place pieces

-- If each octet is in one of the pieces, before a FIN or after it, all of the stream is delivered.
abbrev pub DeliversAll : Type 0
DeliversAll = (stream : List ℕ) (state : State) (pieces : List Piece) → IsFirst state → PiecesOf stream state pieces → AllFair stream state pieces → ((place : ℕ) → place < length stream → IsCaptured place pieces) → delivered_of state pieces ≡ stream
