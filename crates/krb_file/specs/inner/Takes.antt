-- What a reader of fields takes from its source.
use Rattle.std.specs.Prelude.{ℕ, ◌+◌, ◌<◌, ◌≤◌, ◌≡◌, false, List, [], ◌++◌, length, Option}
use Rattle.krb_file.specs.Fields.{exceeds, fault_of}
use Rattle.krb_file.specs.FieldReaders.{Cursor, MayRemain, FetchesTo}
use Rattle.krb_file.specs.declared.fault.FileFault.{FileFault}
use Rattle.krb_file.specs.declared.fault.FileFault.TheVariants as faults
use Rattle.krb_source.specs.declared.file_why.FileWhy.TheVariants as why

-- Octets were taken: whatever may remain now, it may have remained before, after these octets.
pub record Takes (had left : Cursor) (taken : List ℕ) : Type 0 where
  pub same_bounds : left.bounds ≡ had.bounds
  pub place : left.place ≡ had.place + length taken
  pub from : (rest : List ℕ) → MayRemain left rest → MayRemain had (taken ++ rest)

-- No bound changed, and no octet after the next `size` octets was fetched.
pub record Within (size : ℕ) (had left : Cursor) : Type 0 where
  pub same_bounds : left.bounds ≡ had.bounds
  pub within : FetchesTo (had.place + size) had left

-- Fewer octets remained than were wanted.
pub record FallsShort (had left : Cursor) (size : ℕ) : Type 0 where
  pub taken : List ℕ
  pub took : Takes had left taken
  pub end : MayRemain left []
  pub short : length taken < size

-- a fault of taking octets of the field that begins at `start`
abbrev pub FailsTaking : FileFault → ℕ → Cursor → Cursor → ℕ → Type 0
FailsTaking (faults.Refused fault) start had left size = (fault ≡ fault_of start why.Truncated) × FallsShort had left size
FailsTaking faults.Read start had left size = Unit {0}
FailsTaking faults.Memory start had left size = Unit {0}

-- a field of fewer than `near` octets was fetched ahead, is inside the end and is under the limit
abbrev pub AreNear : ℕ → ℕ → ℕ → Option ℕ → ℕ → Type 0
AreNear near ahead place end limit = (size : ℕ) → size < near → (size ≤ ahead) × (exceeds (place + size) end ≡ false) × (size ≤ limit)
