-- Readers that depend on where they begin, and the fault of those that read one after another.
use Rattle.std.proofs.Common.{ℕ, Result, Ok, Err}
use Rattle.std.specs.Result.{result_map_both}
use Rattle.krb_file.specs.Fields.{Bounds, Reader, ◌>>=◌, succeed}
use Rattle.krb_file.specs.FieldReaders.{Cursor, HasRead, FailsBy, Follows}
use Rattle.krb_file.specs.declared.fault.FileFault.{FileFault}
use Rattle.krb_file.specs.declared.fault.FileFault.TheVariants as faults
use Rattle.krb_file.proofs.FieldReaders.{made_of}
use Rattle.krb_packet.proofs.Options.{fails_after, then_fails}

-- a reader that depends on what bounds the field, and on the place at which it begins
pub reads_here : {A : Type 0} (reader : Bounds → ℕ → Reader A) {v : A} {old new : Cursor} → HasRead (reader old.bounds old.place) v old new → HasRead (λ bounds source. reader bounds source.place bounds source) v old new
reads_here reader read = record { same_bounds = read.same_bounds; from = λ rest there. read.from rest there }

pub fails_on : {A B : Type 0} {one : Reader A} (next : A → Reader B) {v : A} (e : FileFault) (MayFail : Type 0) {old mid : Cursor} → HasRead one v old mid → FailsBy e (next v) MayFail mid → FailsBy e (one >>= next) MayFail old
fails_on {one = one} next {v = v} e MayFail {old = old} {mid = mid} read fails = fails_after one next v e MayFail old mid read fails

pub fails_here : {A : Type 0} (reader : Bounds → ℕ → Reader A) (e : FileFault) (MayFail : Type 0) (old : Cursor) → FailsBy e (reader old.bounds old.place) MayFail old → FailsBy e (λ bounds source. reader bounds source.place bounds source) MayFail old
fails_here reader faults.Memory MayFail old fails = tt
fails_here reader faults.Read MayFail old fails = fails
fails_here reader (faults.Refused fault) MayFail old fails = record { octets = fails.octets; there = fails.there; refused = fails.refused }

-- a value made of one that may have been read
pub follows_made : {A B : Type 0} (reader : Reader A) (make : A → B) (result : Result A FileFault) (MayFail : Type 0) (old new : Cursor) → Follows (λ value. value) result reader MayFail old new → Follows (λ value. value) (result_map_both make (λ fault. fault) result) (reader >>= λ value. succeed (make value)) MayFail old new
follows_made reader make (Ok value) MayFail old new read = made_of reader make value old new read
follows_made reader make (Err fault) MayFail old new fails = then_fails reader (λ value. succeed (make value)) fault MayFail old fails
