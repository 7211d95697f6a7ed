-- The first line of a cache, and a file that is refused before its credentials.
use Rattle.std.proofs.Common.{◌≡◌, ℕ, List, Option, Result, sym, ap}
use Rattle.krb_file.specs.Fields.{Source, Fault}
use Rattle.krb_file.specs.FieldReaders.{Cursor}
use Rattle.krb_file.specs.declared.fault.FileFault.{FileFault}
use Rattle.krb_file.specs.declared.fault.FileFault.TheVariants as faults
use Rattle.krb_file.specs.declared.progress.Progress.{Progress}
use Rattle.krb_ccache.specs.declared.reading.Start.{Start}
use Rattle.krb_ccache.specs.Streaming.{Reads, FailsStart, credentials}
use Rattle.krb_record.specs.Labels.{Label}
use Rattle.krb_file_run.specs.Lines.{cache_line}
use Rattle.krb_run.specs.Records.{after_line}
use Rattle.krb_file_run.specs.Files.{field_limit, credentials_listing, cache_listing, ccache_listing}
use Rattle.krb_run.specs.Records.{IsRefusal}

pub first_line : (label : Label) (now : Option ℕ) (file : List ℕ) (cursor : Cursor) (start : Start) (state : Progress (Unit {0}) (Unit {0})) → Reads field_limit cursor start state file 0 → after_line (cache_line label start.header start.principal) (credentials_listing label now (credentials field_limit file)) ≡ ccache_listing label now file
unfolding ccache_listing
first_line label now file cursor start state reads = ap (λ (r : Result (Start × Source) Fault). cache_listing label now r (credentials field_limit file)) (sym reads.begins)

-- a file that is refused before its credentials
pub start_refused : (label : Label) (now : Option ℕ) (file : List ℕ) (e : FileFault) → FailsStart field_limit file e → IsRefusal label e (ccache_listing label now file)
unfolding ccache_listing
start_refused label now file faults.Read fails = tt
start_refused label now file faults.Memory fails = tt
start_refused label now file (faults.Refused fault) fails = ap (λ (r : Result (Start × Source) Fault). cache_listing label now r (credentials field_limit file)) fails
