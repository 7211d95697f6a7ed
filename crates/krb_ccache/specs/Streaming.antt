-- A cache of version 3 or 4 read one credential at a time, under a field limit.
use Rattle.std.specs.Prelude.{ℕ, suc, ◌≡◌, List, [], ◌∷◌, Option, None, Some, Result, Ok, Err}
use Rattle.krb_file.specs.Fields.{Source, source_of, Fault, limited}
use Rattle.krb_file.specs.FieldReaders.{Cursor}
use Rattle.krb_file.specs.Items.{no_items, IsItem, EndsBy, FailsAfter, GaveFirst}
use Rattle.krb_file.specs.declared.fault.FileFault.{FileFault}
use Rattle.krb_file.specs.declared.fault.FileFault.TheVariants as faults
use Rattle.krb_file.specs.declared.progress.Progress.{Progress}
use Rattle.krb_file.specs.declared.progress.Progress.TheVariants as states
use Rattle.krb_ccache.specs.declared.value.Ccache.{Ccache}
use Rattle.krb_ccache.specs.declared.value.Credential.{Credential}
use Rattle.krb_ccache.specs.declared.reading.Start.{Start}
use Rattle.krb_ccache.specs.Reading.{credential_at, one_enctype, start_at, CacheItems, items_after}

-- ---- a file under a field limit

-- what is before the credentials of a file, or the fault there
abbrev pub file_start : Option ℕ → List ℕ → Result (Start × Source) Fault
file_start limit file = start_at (3 ∷ 4 ∷ []) (limited limit) (source_of file)

abbrev pub credentials_of : Option ℕ → Result (Start × Source) Fault → CacheItems Credential
credentials_of limit (Err fault) = no_items (Err fault)
credentials_of limit (Ok read) = items_after (credential_at one_enctype read.0.version) limit read.1

-- the credentials before the first fault, and the fault or the number of octets read
abbrev pub credentials : Option ℕ → List ℕ → CacheItems Credential
credentials limit file = credentials_of limit (file_start limit file)

-- A file of either version has these contents under a limit, and no field of it is at fault.
pub record Holds (limit : Option ℕ) (file : List ℕ) (cache : Ccache) : Type 0 where
  pub start : Start
  pub after : Source
  pub begins : file_start limit file ≡ Ok (start, after)
  pub header : start.header ≡ cache.header
  pub principal : start.principal ≡ cache.principal
  pub size : ℕ
  pub all : credentials limit file ≡ record { items = cache.credentials; end = Ok size }

-- ---- readers of credentials

-- The reader returned the first `count` credentials of a file with this start, and goes on.
pub record Reads (limit : Option ℕ) (cursor : Cursor) (start : Start) (state : Progress (Unit {0}) (Unit {0})) (file : List ℕ) (count : ℕ) : Type 0 where
  pub is_open : state ≡ states.Open (tt {0})
  pub after : Source
  pub begins : file_start limit file ≡ Ok (start, after)
  pub gave : GaveFirst (items_after (credential_at one_enctype start.version) limit) (credentials limit file) limit cursor count

-- The fault of what is before the credentials. Else the device failed or memory ran out.
abbrev pub FailsStart : Option ℕ → List ℕ → FileFault → Type 0
FailsStart limit file (faults.Refused fault) = file_start limit file ≡ Err fault
FailsStart limit file faults.Read = Unit {0}
FailsStart limit file faults.Memory = Unit {0}

-- What a call returns after `count` credentials were returned: the next one, after which one more is returned; if there is none, none at the end of the file, or the fault. Else the device failed or memory ran out.
abbrev pub ReturnsNext : Option ℕ → List ℕ → ℕ → Result (Option Credential) FileFault → Cursor → Start → Progress (Unit {0}) (Unit {0}) → Type 0
ReturnsNext limit file count (Ok (Some credential)) cursor start state = IsItem (credentials limit file) count credential × Reads limit cursor start state file (suc count)
ReturnsNext limit file count (Ok None) cursor start state = EndsBy (credentials limit file) count (Ok cursor.place)
ReturnsNext limit file count (Err fault) cursor start state = FailsAfter (λ refusal. Err refusal) (credentials limit file) count fault
