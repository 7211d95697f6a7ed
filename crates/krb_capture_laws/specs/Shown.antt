-- Where the octets of segments are: in the streams that a direction takes.
use Rattle.std.specs.Prelude.{◌≡◌, ◌<◌, ◌≤◌, ◌⊎◌, ℕ, ◌+◌, ◌%◌, ◌^◌, max, is_some, if◌then◌else◌, Some, List, [], ◌∷◌, ◌++◌, length, slice_get}
use Rattle.std.specs.List.{Contains}
use Rattle.krb_packet.specs.declared.contents.Segment.{Segment}
use Rattle.krb_flow.specs.Directions.{first_number, step}
use Rattle.krb_flow.specs.Window.{stream_with}
use Rattle.krb_flow.specs.declared.direction.State.{State}
use Rattle.krb_flow.specs.declared.direction.State.TheVariants.{Fresh, Open, Ended}

-- ---- the streams of a direction

-- what it took from one beginning to the next, and the sequence number of the first of these octets
pub record TakenStream : Type 0 where
  pub first : ℕ
  pub octets : List ℕ

-- the one that is there, if one began
abbrev pub stream_there : State → List ℕ → List TakenStream
stream_there Fresh stream = []
stream_there (Open progress) stream = record { first = progress.first; octets = stream } ∷ []
stream_there (Ended had) stream = record { first = had.first; octets = stream } ∷ []

-- those of a direction that came to a state and has taken these octets since it began, with more segments
abbrev pub streams_of : State → List ℕ → List Segment → List TakenStream
streams_of state stream [] = stream_there state stream
streams_of state stream (segment ∷ segments) =
    let stepped = step state segment in
    let others = streams_of stepped.1 (stream_with state stream segment) segments in
    if is_some stepped.0.begins then stream_there state stream ++ others else others

-- ---- the octets of a segment

-- in a stream an octet has the place that its number says: numbers are counted modulo 2^32
pub record IsIn (number octet : ℕ) (stream : TakenStream) : Type 0 where
  pub place : ℕ
  pub number_is : number ≡ (stream.first + place) % 2 ^ 32
  pub octet_is : slice_get stream.octets place ≡ Some octet

pub record IsTaken (streams : List TakenStream) (number octet : ℕ) : Type 0 where
  pub stream : TakenStream
  pub among : Contains streams stream
  pub there : IsIn number octet stream

-- each octet that was captured, of those that it has by the length of IP
abbrev pub AreTaken : List TakenStream → Segment → Type 0
AreTaken streams segment = (index octet : ℕ) → index < segment.payload.size → slice_get segment.payload.octets index ≡ Some octet → IsTaken streams ((first_number segment + index) % 2 ^ 32) octet

-- One octet 00 right before one of a stream, before the end of it, or at the place of the FIN after it: a keep-alive (RFC 9293, 3.8.4).
pub record IsKeepAlive (streams : List TakenStream) (segment : Segment) : Type 0 where
  pub one : segment.payload.size ≡ 1
  pub zero : slice_get segment.payload.octets 0 ≡ Some 0
  pub stream : TakenStream
  pub among : Contains streams stream
  pub place : ℕ
  pub within : place ≤ length stream.octets + 1
  pub number_is : (first_number segment + 1) % 2 ^ 32 ≡ (stream.first + place) % 2 ^ 32

abbrev pub HidesNothing : List TakenStream → Segment → Type 0
HidesNothing streams segment = AreTaken streams segment ⊎ IsKeepAlive streams segment

-- how many octets segments have, captured or not
abbrev pub size_of : List Segment → ℕ
size_of [] = 0
size_of (segment ∷ segments) = max segment.payload.size (length segment.payload.octets) + size_of segments
