-- A keytab read one record at a time, under a field limit.
use Rattle.std.specs.Prelude.{ℕ, suc, ◌+◌, Bool, true, false, List, ◌∷◌, [], Option, Result, Ok, Err}
use Rattle.krb_file.specs.Fields.{Source, Fault, Bounds, version_at}
use Rattle.krb_file.specs.FieldReaders.{Cursor}
use Rattle.krb_file.specs.Items.{IsItem, EndsBy, FailsAfter, GoesOn}
use Rattle.krb_file.specs.declared.fault.FileFault.{FileFault}
use Rattle.krb_file.specs.declared.progress.Progress.{Progress}
use Rattle.krb_file.specs.declared.progress.Progress.TheVariants as states
use Rattle.krb_keytab.specs.declared.reading.Next.{Next}
use Rattle.krb_keytab.specs.declared.reading.Next.TheVariants as nexts
use Rattle.krb_keytab.specs.declared.value.Stop.{Stop}
use Rattle.krb_keytab.specs.Reading.{announced, Records, items_after, all_after, items}

-- The number of octets that a reader was announced: before the first record also the two of the version, and none after the end of the records or a fault.
abbrev pub announced_after : Result (ℕ × Source) Fault → Bounds → ℕ
announced_after (Err fault) bounds = 2
announced_after (Ok read) bounds = 2 + announced bounds read.1

abbrev pub announced_in : Progress Bool Stop → Bounds → Source → ℕ
announced_in (states.Open false) bounds source = announced_after (version_at (2 ∷ []) bounds source) bounds
announced_in (states.Open true) bounds source = announced bounds source
announced_in (states.Done stop) bounds source = 0
announced_in (states.Failed fault) bounds source = 0

-- what is left of a file, before its version was read or after that
abbrev pub left_of : Option ℕ → Bool → Source → Records
left_of limit false = all_after limit
left_of limit true = items_after limit

-- the reader returned the first `count` records of a file, and goes on
abbrev pub Reads : Option ℕ → Cursor → Progress Bool Stop → List ℕ → ℕ → Type 0
Reads limit cursor state file count = GoesOn (left_of limit) (items limit file) limit cursor state count

-- What a call returns after `count` records were returned: the next record, after which one more is returned; if there is none, the end of the records, which the reader has passed, or the fault. Else the device failed or memory ran out.
abbrev pub ReturnsNext : Option ℕ → List ℕ → ℕ → Result Next FileFault → Cursor → Progress Bool Stop → Type 0
ReturnsNext limit file count (Ok (nexts.Item item)) cursor state = IsItem (items limit file) count item × Reads limit cursor state file (suc count)
ReturnsNext limit file count (Ok (nexts.Done stop)) cursor state = EndsBy (items limit file) count (Ok (stop, cursor.place))
ReturnsNext limit file count (Err fault) cursor state = FailsAfter (λ refusal. Err refusal) (items limit file) count fault
