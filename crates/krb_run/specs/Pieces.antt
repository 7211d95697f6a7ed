-- What listers of any kind do with the pieces of a stream.
use Rattle.std.specs.Prelude.{ℕ, ◌≡◌, ◌+◌, ◌-◌, ◌*◌, ◌≤◌, ◌⊎◌, Bool, true, false, List, ◌++◌, length, take, drop, Option}
use Rattle.std.specs.Io.KnownBytes.{IsAtEnd}
use Rattle.krb_run.specs.Streams.{Rules, Taken, Listing}

-- What is known of the listers of a kind, and of how their runs end.
pub record Kind (L Q E : Type 0) : Type 1 where
  pub rules : Q → Rules E
  -- what a lister was asked for, its lines that are not written yet, and how much it has listed
  pub request : L → Q
  pub text : L → List ℕ
  pub count : L → ℕ
  -- What it has used of a stream is listed. The lines are those that were written and then its own.
  pub HasListed : L → List ℕ → List ℕ → Type 0
  -- it needs more octets
  pub IsWaiting : L → Type 0
  -- it looks at no octet more
  pub IsRefused : L → Type 0
  -- and what came then
  pub Stops : L → Taken → Type 0

-- A piece came, of which this rest is not used yet, and what is whole is listed.
pub record IsFed {L Q E : Type 0} (kind : Kind L Q E) (initial : L) (piece rest : List ℕ) (now : L) : Type 0 where
  pub place : rest ≡ drop (length piece - length rest) piece
  pub within : length rest ≤ length piece
  pub same : kind.request now ≡ kind.request initial
  pub waits : kind.IsWaiting now
  pub few : kind.count now + length rest ≤ kind.count initial + length piece
  pub listed : (stream written : List ℕ) → kind.HasListed initial stream written → kind.HasListed now (stream ++ take (length piece - length rest) piece) written

-- if the stream goes on all octets of a piece were used, and else it is refused
abbrev pub Goes : {L Q E : Type 0} → Kind L Q E → L → ℕ → ℕ → Bool → Type 0
Goes kind lister size used true = (used ≡ size) × kind.IsWaiting lister
Goes kind lister size used false = kind.IsRefused lister

-- a piece came, and what is whole now is listed
pub record TakesPiece {L Q E : Type 0} (kind : Kind L Q E) (old : L) (piece : List ℕ) (new : L) (goes_on : Bool) : Type 0 where
  pub used : ℕ
  pub within : used ≤ length piece
  pub same : kind.request new ≡ kind.request old
  pub listed : (stream written : List ℕ) → kind.HasListed old stream written → kind.HasListed new (stream ++ take used piece) written
  pub few : kind.count new ≤ kind.count old + length piece
  pub goes : Goes kind new (length piece) used goes_on

-- ---- a lister of a stream
-- it waits for a piece after these
pub record WaitsAfter {L Q E : Type 0} (kind : Kind L Q E) (lister : L) (taken : Taken) : Type 0 where
  pub listed : kind.HasListed lister taken.octets taken.written
  pub waits : kind.IsWaiting lister
  pub few : kind.count lister ≤ 65536 * taken.pieces
  pub short : length taken.octets ≤ 65536 * taken.pieces

abbrev pub IsLastOf : {L Q E : Type 0} → Kind L Q E → L → Taken → Option (List ℕ) → Type 0
IsLastOf kind lister taken left = (WaitsAfter kind lister taken × IsAtEnd left) ⊎ kind.Stops lister taken

abbrev pub listing_of : {L Q E : Type 0} → Kind L Q E → L → Listing Q
listing_of kind lister = record {
  text = kind.text lister;
  Waits = λ request taken. (kind.request lister ≡ request) × WaitsAfter kind lister taken;
  Stops = λ request taken. (kind.request lister ≡ request) × kind.Stops lister taken;
}
