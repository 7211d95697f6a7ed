-- What a lister does with the frames of a stream, whatever it writes of them.
use Rattle.std.specs.Prelude.{ℕ, ◌≡◌, ◌+◌, ◌*◌, ◌≤◌, ◌<◌, ◌^◌, ◌⊎◌, Bool, true, false, List, [], ◌∷◌, ◌++◌, length, None, Result, Ok, Err}
use Rattle.std.specs.List.{AllByRecursion}
use Rattle.krb_der.specs.declared.profile.Profile.{Profile}
use Rattle.krb_der.specs.declared.why.Why.TheVariants.{HighBit}
use Rattle.krb_der.specs.declared.verdict.Refusal.{Refusal}
use Rattle.krb_msg.specs.Grammar.{messages as grammar}
use Rattle.krb_msg.specs.Stream.{End, Refused}
use Rattle.krb_frame.specs.Decoding.{Decoding, found, status_of, finish_of}
use Rattle.krb_frame.specs.Deliveries.{IsMessage}
use Rattle.krb_frame.specs.GoingOn.{Entry, Contents, Fault, Skipping, entries, entries_size, entry_size, rest_to_come, GoesOn}
use Rattle.krb_frame.specs.declared.decoder.Status.TheVariants as status
use Rattle.krb_tool.specs.Listing.{IsNotRefused}
use Rattle.krb_run.specs.Runs.{StopsInPiece}
use Rattle.krb_tool.specs.GoingOn.{EndsUnknown}
use Rattle.krb_run.specs.Streams.{Rules, Taken}
use Rattle.krb_run.specs.Pieces.{Kind}

-- a decoder needs more octets
abbrev pub NeedsMore : Decoding → Type 0
NeedsMore decoding = status_of (grammar decoding.profile) decoding ≡ status.More

-- a lister: its decoder, and what it lists
pub record FrameLister (S : Type 0) : Type 0 where
  pub decoder : Skipping
  pub lines : S

-- ---- lines
-- What is known of the lines of frames, and of how runs end that write them.
pub record LinesKind (S Q E : Type 0) : Type 1 where
  pub rules : Q → Rules E
  -- what a lister was asked for, by its lines and by the profile and the limit of its decoder
  pub request : S → Profile → (limit : ℕ) → Q
  pub keeps_going : S → Bool
  pub text : S → List ℕ
  -- how many frames are counted, and how many of their octets
  pub count : S → ℕ
  pub size : S → ℕ
  -- the next frame was received
  pub Receives : S → Entry → S → Type 0
  -- no frame more is to be received
  pub IsFull : S → Type 0
  -- By a profile, these frames are listed. Their lines are in what was written and then in the text.
  pub HasLines : Profile → S → List Entry → (written : List ℕ) → Type 0
  -- after these octets others are read
  pub AsksAfter : Q → List ℕ → Type 0

-- a frame is a message, or refused by a decoder
abbrev pub IsDecoded : Entry → Type 0
IsDecoded (Contents contents) = Unit {0}
IsDecoded (Fault place reason prefix) = (d : Decoding) × (status_of (grammar d.profile) d ≡ status.Refused (record { place = place; why = reason })) × (d.octets ≡ prefix)

-- the next frame is listed
pub record Adds {S Q E : Type 0} (kind : LinesKind S Q E) (old : S) (entry : Entry) (new : S) : Type 0 where
  pub decoded : kind.keeps_going old ≡ true → IsDecoded entry
  pub lines : (profile : Profile) (frames : List Entry) (written : List ℕ) → kind.HasLines profile old frames written → kind.HasLines profile new (frames ++ entry ∷ []) written
  pub few : kind.count new ≤ kind.count old + 1
  pub small : kind.size new ≤ kind.size old + entry_size entry
  pub going : kind.keeps_going new ≡ kind.keeps_going old
  pub same : (profile : Profile) (limit : ℕ) → kind.request new profile limit ≡ kind.request old profile limit

-- ---- a lister of a stream
-- the frames of a stream that were cleared or skipped are listed
pub record HasListed {S Q E : Type 0} (kind : LinesKind S Q E) (lister : FrameLister S) (stream written : List ℕ) : Type 0 where
  pub frames : List Entry
  pub goes_on : GoesOn (grammar lister.decoder.current.profile) lister.decoder stream frames
  -- if the lister goes on after refusals, the length of the last of them is known, and else none is refused
  pub known : kind.keeps_going lister.lines ≡ true → EndsUnknown frames → ⊥
  pub whole : kind.keeps_going lister.lines ≡ false → AllByRecursion IsMessage frames
  pub lines : kind.HasLines lister.decoder.current.profile lister.lines frames written
  -- of their octets only those that are to be skipped are not in the stream
  pub within : entries_size frames + length lister.decoder.current.octets ≤ length stream + lister.decoder.skipped
  pub short : lister.decoder.skipped < 2 ^ 32

-- how the octets of the current frame end
abbrev pub current_end : {S : Type 0} → FrameLister S → End
current_end lister = (found (grammar lister.decoder.current.profile) lister.decoder.current).end

-- the frame at the end of a stream, if it is refused or cut, with its octets
abbrev pub last_frames : Result (Unit {0}) Refusal → List ℕ → List Entry
last_frames (Ok done) octets = []
last_frames (Err refusal) octets = Fault refusal.place refusal.why octets ∷ []

abbrev pub last_of : {S : Type 0} → FrameLister S → List Entry
last_of lister = last_frames (finish_of (grammar lister.decoder.current.profile) lister.decoder.current) lister.decoder.current.octets

-- the current frame is refused, and not skipped
pub record IsRefused {S Q E : Type 0} (kind : LinesKind S Q E) (lister : FrameLister S) : Type 0 where
  pub refusal : Refusal
  pub refused : status_of (grammar lister.decoder.current.profile) lister.decoder.current ≡ status.Refused refusal
  pub unknown : kind.keeps_going lister.lines ≡ true → rest_to_come (grammar lister.decoder.current.profile) lister.decoder.current ≡ None

-- these frames begin with the one in which the stream ends, or after which nothing is looked at
pub record Ends {S Q E : Type 0} (kind : LinesKind S Q E) (lister : FrameLister S) (rest : List Entry) : Type 0 where
  pub others : List Entry
  pub parts : rest ≡ last_of lister ++ others
  -- nothing comes after a frame that is cut
  pub cut : IsNotRefused (current_end lister) → others ≡ []
  -- and if the lister goes on, nothing comes after a refusal, since the length of its frame is not known
  pub unknown : kind.keeps_going lister.lines ≡ true → (others ≡ []) × (IsNotRefused (current_end lister) ⊎ (current_end lister ≡ Refused 3 HighBit))

-- No piece follows. The frames before the last one are listed, or so many that the lines are full.
pub record IsDone {S Q E : Type 0} (kind : LinesKind S Q E) (lister : FrameLister S) (taken : Taken) : Type 0 where
  pub frames : List Entry
  pub rest : List Entry
  pub all : entries (grammar lister.decoder.current.profile) lister.decoder.current.limit taken.octets ≡ frames ++ rest
  pub whole : kind.keeps_going lister.lines ≡ false → AllByRecursion IsMessage frames
  pub lines : kind.HasLines lister.decoder.current.profile lister.lines frames taken.written
  pub end : (kind.IsFull lister.lines → ⊥) → Ends kind lister rest
  pub few : kind.count lister.lines ≤ 65536 * taken.pieces
  pub stops : StopsInPiece (kind.AsksAfter (kind.request lister.lines lister.decoder.current.profile lister.decoder.current.limit)) taken.octets

abbrev pub lister_kind : {S Q E : Type 0} → LinesKind S Q E → Kind (FrameLister S) Q E
lister_kind kind = record {
  rules = kind.rules;
  request = λ lister. kind.request lister.lines lister.decoder.current.profile lister.decoder.current.limit;
  text = λ lister. kind.text lister.lines;
  count = λ lister. kind.count lister.lines;
  HasListed = HasListed kind;
  IsWaiting = λ lister. NeedsMore lister.decoder.current × (kind.IsFull lister.lines → ⊥);
  IsRefused = λ lister. IsRefused kind lister ⊎ kind.IsFull lister.lines;
  Stops = λ lister taken. IsDone kind lister taken × (IsNotRefused (current_end lister) → kind.IsFull lister.lines);
}

-- ---- what makes a lister of lines
pub record AreListed {S Q E : Type 0} (kind : LinesKind S Q E) : Type 0 where
  -- a frame is listed that is received
  pub adds : (old : S) (entry : Entry) (new : S) → kind.Receives old entry new → kind.count old + 1 < 2 ^ 64 → kind.size old + entry_size entry < 2 ^ 64 → Adds kind old entry new
  pub sized : (profile : Profile) (lines : S) (frames : List Entry) (written : List ℕ) → kind.HasLines profile lines frames written → kind.size lines ≤ entries_size frames
  -- the lines are those of first frames
  pub begins : (profile : Profile) (limit : ℕ) (lines : S) (octets written : List ℕ) (frames others : List Entry) → entries (grammar profile) limit octets ≡ frames ++ others → (kind.keeps_going lines ≡ false → AllByRecursion IsMessage frames) → kind.HasLines profile lines frames written → (kind.rules (kind.request lines profile limit)).AreLines octets (written ++ kind.text lines)
  -- while more octets are needed they are those of all whole frames
  pub all : (lister : FrameLister S) (octets written : List ℕ) → HasListed kind lister octets written → (lister_kind kind).IsWaiting lister → (kind.rules (kind.request lister.lines lister.decoder.current.profile lister.decoder.current.limit)).AreAllLines octets (written ++ kind.text lister.lines)
  -- and others may be read
  pub asks : (lister : FrameLister S) (octets written : List ℕ) → HasListed kind lister octets written → (lister_kind kind).IsWaiting lister → kind.AsksAfter (kind.request lister.lines lister.decoder.current.profile lister.decoder.current.limit) octets
  -- and at the end, the lines begin the listing
  pub listing : (lister : FrameLister S) (taken : Taken) → IsDone kind lister taken → (kind.IsFull lister.lines → ⊥) → (rest : List ℕ) × (kind.rules (kind.request lister.lines lister.decoder.current.profile lister.decoder.current.limit)).IsListing taken.octets ((taken.written ++ kind.text lister.lines) ++ rest)
