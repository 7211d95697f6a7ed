-- Readers of fields: where a reader is in its file, and what its calls return, whatever the octets come from.
use Rattle.std.specs.Prelude.{ℕ, ◌+◌, ◌<◌, ◌≤◌, ◌≡◌, Bool, true, false, List, [], ◌++◌, length, Option, Some, None, Result, Ok, Err}
use Rattle.krb_file.specs.Fields.{Source, Fault, Bounds, ended, Reader, ◌>>=◌, succeed, next_octets_at, is_empty, are_zero}
use Rattle.krb_file.specs.declared.fault.FileFault.{FileFault}
use Rattle.krb_file.specs.declared.fault.FileFault.TheVariants as faults

-- Where a reader is in its file: the octets that were fetched ahead and are not read yet; the octets after these, if they are known; the place of the next octet; and what bounds the next field.
pub record Cursor : Type 0 where
  pub ahead : List ℕ
  pub left : Option (List ℕ)
  pub place : ℕ
  pub bounds : Bounds

-- octets that are a prefix and then the known rest, or any rest if it is not known
abbrev pub BeginsWith : List ℕ → Option (List ℕ) → List ℕ → Type 0
BeginsWith prefix None octets = (rest : List ℕ) × (octets ≡ prefix ++ rest)
BeginsWith prefix (Some known) octets = octets ≡ prefix ++ known

-- the octets that are not read yet may be these
abbrev pub MayRemain : Cursor → List ℕ → Type 0
MayRemain cursor octets = BeginsWith cursor.ahead cursor.left octets

abbrev pub source_at : ℕ → List ℕ → Source
source_at place octets = record { place = place; octets = octets }

-- A value was read: whatever octets remain now, the reader reads the value of these after the octets that were read, and leaves these.
pub record HasRead {A : Type 0} (reader : Reader A) (value : A) (old new : Cursor) : Type 0 where
  pub same_bounds : new.bounds ≡ old.bounds
  pub from : (rest : List ℕ) → MayRemain new rest → (octets : List ℕ) × MayRemain old octets × (reader old.bounds (source_at old.place octets) ≡ Ok (value, source_at new.place rest))

-- A fault was met: the reader refuses octets that may have remained, with this fault.
pub record HasMet {A : Type 0} (reader : Reader A) (fault : Fault) (old : Cursor) : Type 0 where
  pub octets : List ℕ
  pub there : MayRemain old octets
  pub refused : reader old.bounds (source_at old.place octets) ≡ Err fault

-- A fault of a call: one of the octets; one of the device, if it may fail; or out of memory.
abbrev pub FailsBy : {A : Type 0} → FileFault → Reader A → Type 0 → Cursor → Type 0
FailsBy (faults.Refused fault) reader MayFail old = HasMet reader fault old
FailsBy faults.Read reader MayFail old = MayFail
FailsBy faults.Memory reader MayFail old = Unit {0}

-- The result of a call, seen by `view`, is what the definition `reader` reads, unless the device failed or memory ran out.
abbrev pub Follows : {A B : Type 0} → (A → B) → Result A FileFault → Reader B → Type 0 → Cursor → Cursor → Type 0
Follows view (Ok value) reader MayFail old new = HasRead reader (view value) old new
Follows view (Err fault) reader MayFail old new = FailsBy fault reader MayFail old

-- whether no octet is left
abbrev pub ended_at : Reader Bool
ended_at = λ bounds source. Ok (is_empty source.octets, source)

-- the same cursor, with this end for its fields
abbrev pub bounded : Option ℕ → Cursor → Cursor
bounded end cursor = record cursor { bounds = record cursor.bounds { end = end } }

-- n octets that are skipped: whether all of them are 00
abbrev pub skipped_at : ℕ → Reader Bool
skipped_at size = do
  octets ← next_octets_at None size
  succeed (are_zero octets)

-- ---- How many octets of the file were fetched: those that were read, and those ahead.

abbrev pub fetched : Cursor → ℕ
fetched cursor = cursor.place + length cursor.ahead

-- No octet after the first `most` octets of the file was fetched: any such octet that is fetched now was fetched before.
abbrev pub FetchesTo : ℕ → Cursor → Cursor → Type 0
FetchesTo most old new = most < fetched new → fetched new ≤ fetched old

-- Octets were read (at a fault of a field perhaps not all of the field), and none after them was fetched.
pub record Stays (old new : Cursor) : Type 0 where
  pub on : old.place ≤ new.place
  pub within : FetchesTo new.place old new

-- Fields were read, or one of them had a fault, and no octet was fetched after them or after the end of their entry or header.
pub record Keeps (old new : Cursor) : Type 0 where
  pub stays : Stays old new
  pub same_bounds : new.bounds ≡ old.bounds
  pub inside : (end : ℕ) → old.bounds.end ≡ Some end → FetchesTo end old new

-- Nothing was read, and no octet after the next `size` octets was fetched.
pub record LooksAheadTo (size : ℕ) (old new : Cursor) : Type 0 where
  pub same : new.place ≡ old.place
  pub within : FetchesTo (new.place + size) old new

-- No octet was fetched after the number of octets that those which may have remained announce.
pub record FetchesToAnnounced (announced : Bounds → Source → ℕ) (old new : Cursor) : Type 0 where
  pub octets : List ℕ
  pub there : MayRemain old octets
  pub within : FetchesTo (old.place + announced old.bounds (source_at old.place octets)) old new

-- what a device has left: nothing after its end was read
abbrev pub left_of : Bool → Option (List ℕ) → Option (List ℕ)
left_of true left = Some []
left_of false left = left

-- ---- Readers of slices.

-- The octets of a slice that are not read yet, the place of the first of them, and the end of the entry or header.
pub record Slice : Type 0 where
  pub place : ℕ
  pub end : Option ℕ
  pub octets : List ℕ

abbrev pub of_slice : Slice → Cursor
of_slice slice = record { ahead = []; left = Some slice.octets; place = slice.place; bounds = ended slice.end }
