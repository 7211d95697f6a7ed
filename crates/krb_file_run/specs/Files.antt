-- The listings of keytabs and of credential caches.
use Rattle.std.specs.Prelude.{ℕ, ◌≡◌, ◌⊎◌, List, drop, length, Option, Some, Result, Ok, Err}
use Rattle.std.specs.List.{flat_map}
use Rattle.krb_file.specs.Fields.{Source, Fault}
use Rattle.krb_file.specs.Items.{Items}
use Rattle.krb_file.specs.declared.field_path.FileItem.{FileItem}
use Rattle.krb_file.specs.declared.field_path.FileItem.TheVariants as items
use Rattle.krb_keytab.specs.declared.value.Stop.{Stop}
use Rattle.krb_keytab.specs.Reading.{Records, items as keytab_records}
use Rattle.krb_ccache.specs.declared.value.Credential.{Credential}
use Rattle.krb_ccache.specs.declared.reading.Start.{Start}
use Rattle.krb_ccache.specs.Reading.{CacheItems}
use Rattle.krb_ccache.specs.Streaming.{file_start, credentials}
use Rattle.krb_record.specs.Labels.{Label}
use Rattle.krb_run.specs.Extents.{fault_line}
use Rattle.krb_run.specs.Paths.{file_path}
use Rattle.krb_run.specs.Records.{RecordListing, after_line, end_of, refused_listing}
use Rattle.krb_file_run.specs.Lines.{cache_end_line, cache_line, credential_line, keytab_end_line, record_line}

-- how many octets a field of a file may have
abbrev pub field_limit : Option ℕ
field_limit = Some 16777216

-- the line of the end after `count` items, or of a refusal in the next item
abbrev pub last_of : {E : Type 0} → (ℕ → E → List ℕ) → Label → (ℕ → FileItem) → ℕ → Result E Fault → List ℕ
last_of end_line label item count (Ok end) = end_line count end
last_of end_line label item count (Err fault) = fault_line label fault (file_path (item count) fault.field)

-- the lines of items, and the last line
abbrev pub items_listing : {A E : Type 0} → (A → List ℕ) → (ℕ → Result E Fault → List ℕ) → (ℕ → FileItem) → Items A (Result E Fault) → RecordListing
items_listing line last item found = record { lines = flat_map line found.items; last = last (length found.items) found.end; end = end_of (item (length found.items)) found.end }

-- what is left of them after the first `count` items
abbrev pub items_left : {A E : Type 0} → (A → List ℕ) → (ℕ → Result E Fault → List ℕ) → (ℕ → FileItem) → Items A (Result E Fault) → (count : ℕ) → RecordListing
items_left line last item found count = record { lines = flat_map line (drop count found.items); last = last (length found.items) found.end; end = end_of (item (length found.items)) found.end }

abbrev pub keytab_last : Label → ℕ → Result (Stop × ℕ) Fault → List ℕ
keytab_last label = last_of (λ count end. keytab_end_line label count end.0) label (λ count. items.Record count)

abbrev pub records_listing : Label → Records → RecordListing
records_listing label = items_listing (λ r. record_line label r) (keytab_last label) items.Record

unfoldable pub keytab_listing : Label → List ℕ → RecordListing
keytab_listing label file = records_listing label (keytab_records field_limit file)

-- what is left of it after records
abbrev pub IsKeytabRest : Label → (file : List ℕ) → RecordListing → Type 0
IsKeytabRest label file left = (count : ℕ) × (left ≡ items_left (λ r. record_line label r) (keytab_last label) items.Record (keytab_records field_limit file) count)

abbrev pub ccache_last : Label → ℕ → Result ℕ Fault → List ℕ
ccache_last label = last_of (λ count size. cache_end_line label count) label (λ count. items.Credential count)

abbrev pub credentials_listing : Label → Option ℕ → CacheItems Credential → RecordListing
credentials_listing label now = items_listing (λ c. credential_line label now c) (ccache_last label) items.Credential

-- the line of a cache before them, or the refusal of what is there
abbrev pub cache_listing : Label → Option ℕ → Result (Start × Source) Fault → CacheItems Credential → RecordListing
cache_listing label now (Err fault) found = refused_listing label fault
cache_listing label now (Ok start) found = after_line (cache_line label start.0.header start.0.principal) (credentials_listing label now found)

unfoldable pub ccache_listing : Label → Option ℕ → List ℕ → RecordListing
ccache_listing label now file = cache_listing label now (file_start field_limit file) (credentials field_limit file)

-- what is left of it: all, or what is left after the line of the cache and after credentials
abbrev pub IsCcacheRest : Label → (now : Option ℕ) → (file : List ℕ) → RecordListing → Type 0
IsCcacheRest label now file left = (left ≡ ccache_listing label now file) ⊎ ((count : ℕ) × (left ≡ items_left (λ c. credential_line label now c) (ccache_last label) items.Credential (credentials field_limit file) count))
