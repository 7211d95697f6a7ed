-- What the parts of a run on the records of a file promise each other.
use Rattle.std.specs.Prelude.{ℕ, Bool, ◌≡◌, List, [], Option, Result}
use Rattle.krb_file.specs.FieldReaders.{Cursor, FetchesToAnnounced}
use Rattle.krb_file.specs.declared.fault.FileFault.TheVariants as faults
use Rattle.krb_file.specs.declared.progress.Progress.{Progress}
use Rattle.krb_file.specs.declared.progress.Progress.TheVariants as states
use Rattle.krb_file.specs.Fields.{Fault}
use Rattle.krb_file.specs.Items.{Items}
use Rattle.krb_file.specs.declared.field_path.FileItem.{FileItem}
use Rattle.krb_file.specs.declared.field_path.FileItem.TheVariants as items
use Rattle.krb_keytab.specs.Reading.{items as keytab_records}
use Rattle.krb_keytab.specs.Streaming.{Reads as ReadsRecords, announced_in}
use Rattle.krb_keytab.specs.declared.value.Stop.{Stop}
use Rattle.krb_ccache.specs.declared.reading.Start.{Start}
use Rattle.krb_ccache.specs.Streaming.{Reads as ReadsCredentials, credentials}
use Rattle.krb_record.specs.Labels.{Label}
use Rattle.krb_file_run.specs.Lines.{record_line, credential_line}
use Rattle.krb_run.specs.Records.{RecordListing}
use Rattle.krb_file_run.specs.Files.{field_limit, items_left, keytab_last, ccache_last}

-- A reader returned the first `count` items of a file, and this is left of its listing.
pub record AreLeft {A E : Type 0} (Same : Type 0) (line : A → List ℕ) (last : ℕ → Result E Fault → List ℕ) (item : ℕ → FileItem) (all : List ℕ → Items A (Result E Fault)) (Reads : List ℕ → ℕ → Type 0) (count : ℕ) (file : List ℕ) (left : RecordListing) : Type 0 where
  pub same : Same
  pub reads : Reads file count
  pub is : left ≡ items_left line last item (all file) count

-- a keytab, and the label of its records
pub record KeytabSource : Type 0 where
  pub label : Label
  pub file : List ℕ

-- The reader returned the first `count` records of a keytab, goes on, and fetched no octet after them.
abbrev pub ReturnedRecords : Cursor → Progress Bool Stop → (file : List ℕ) → (count : ℕ) → Type 0
ReturnedRecords cursor state file count = ReadsRecords field_limit cursor state file count × (cursor.ahead ≡ [])

-- A read failed in the record after those that were returned: the reader is at that fault, and of what follows these it fetched no octet but those that the record announces.
pub record FailsInRecord (was now : Cursor) (before after : Progress Bool Stop) : Type 0 where
  pub failed : after ≡ states.Failed faults.Read
  pub fetched : FetchesToAnnounced (announced_in before) was now

abbrev pub AreRecordsLeft : Label → Cursor → Progress Bool Stop → (count : ℕ) → KeytabSource → RecordListing → Type 0
AreRecordsLeft label cursor state count source =
    AreLeft (label ≡ source.label) (λ r. record_line label r) (keytab_last label) items.Record (keytab_records field_limit) (ReturnedRecords cursor state) count source.file

-- a cache, the label of its records, and a time if there is one
pub record CacheSource : Type 0 where
  pub label : Label
  pub now : Option ℕ
  pub file : List ℕ

-- A read failed after those that were returned: the reader is at that fault.
abbrev pub FailsInCredential : Progress (Unit {0}) (Unit {0}) → Type 0
FailsInCredential after = after ≡ states.Failed faults.Read

abbrev pub AreCredentialsLeft : Label → Cursor → Start → Progress (Unit {0}) (Unit {0}) → Option ℕ → (count : ℕ) → CacheSource → RecordListing → Type 0
AreCredentialsLeft label cursor start state now count source =
    AreLeft ((label ≡ source.label) × (now ≡ source.now)) (λ c. credential_line label now c) (ccache_last label) items.Credential (credentials field_limit) (λ file count. ReadsCredentials field_limit cursor start state file count) count source.file
