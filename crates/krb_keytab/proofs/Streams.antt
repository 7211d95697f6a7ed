-- A keytab that is read one record at a time: how each call changes the records that are left.
use Rattle.std.proofs.Common.{◌≡◌, ℕ, suc, Bool, true, false, Option, Some, Result, Ok, Err, List, [], ◌∷◌, IfErr, refl, arith}
use Rattle.krb_file.specs.Fields.{limited, version_at, IsStreamFaultIn}
use Rattle.krb_file.specs.FieldReaders.{Cursor, HasRead, FailsBy}
use Rattle.krb_file.specs.Items.{IsItem, EndsBy, FailsAfter}
use Rattle.krb_file.specs.declared.fault.FileFault.{FileFault}
use Rattle.krb_file.specs.declared.progress.Progress.{Progress}
use Rattle.krb_file.specs.declared.progress.Progress.TheVariants as states
use Rattle.krb_file.proofs.Items.{goes_on, item_given, end_given, fault_given, gave_none, fault_in_file}
use Rattle.krb_keytab.specs.declared.value.Record.{Record}
use Rattle.krb_keytab.specs.declared.value.Stop.{Stop}
use Rattle.krb_keytab.specs.declared.reading.Next.{Next}
use Rattle.krb_keytab.specs.declared.reading.Next.TheVariants as nexts
use Rattle.krb_keytab.specs.Reading.{record_at, after_version, items_after, all_after, items}
use Rattle.krb_keytab.specs.Streaming.{Reads, ReturnsNext}
use Rattle.krb_keytab.proofs.Faults.{items-fault}
use Rattle.krb_keytab.proofs.Stepwise.{after_read, after-step}

-- nothing was read
pub starts : (limit : Option ℕ) (file : List ℕ) (known : Option (List ℕ)) → known ≡ Some file → Reads limit (record { ahead = []; left = known; place = 0; bounds = limited limit }) (states.Open false) file 0
starts limit file known is = rw is ([], gave_none (all_after limit) limit file _ refl (λ octets there. there), refl)

module _ (limit : Option ℕ) (file : List ℕ) (count : ℕ) (old : Cursor) where
  pub opens : (new : Cursor) (version : ℕ) → Reads limit old (states.Open false) file count → HasRead (version_at (2 ∷ [])) version old new → Reads limit new (states.Open true) file count
  opens new version reads read = (
    reads.0,
    goes_on (version_at (2 ∷ [])) limit (all_after limit) (λ r. after_version r (items_after limit)) (λ s. refl) (items limit file) old reads.0 reads.0 reads.1 version new (items_after limit) read (λ t. refl),
    reads.2,
  )

  pub version_refused : (e : FileFault) (MayFail : Type 0) → Reads limit old (states.Open false) file count → FailsBy e (version_at (2 ∷ [])) MayFail old → FailsAfter (λ f. Err f) (items limit file) count e
  version_refused e MayFail reads fails = fault_given (version_at (2 ∷ [])) limit (all_after limit) (λ r. after_version r (items_after limit)) (λ s. refl) (items limit file) old count reads (λ f. Err f) e MayFail fails (λ f. refl)

  module _ (reads : Reads limit old (states.Open true) file count) where
    pub record_given : (r : Record) (new : Cursor) → HasRead record_at (nexts.Item r) old new → IsItem (items limit file) count r × Reads limit new (states.Open true) file (suc count)
    record_given r new read = item_given record_at limit (items_after limit) (after_read limit) (after-step limit) (items limit file) old count reads (nexts.Item r) r new (items_after limit) read (λ t. refl)

    pub stop_given : (stop : Stop) (new : Cursor) → HasRead record_at (nexts.Done stop) old new → EndsBy (items limit file) count (Ok (stop, new.place))
    stop_given stop new read = end_given record_at limit (items_after limit) (after_read limit) (after-step limit) (items limit file) old count reads (nexts.Done stop) (λ place. Ok (stop, place)) new read (λ t. refl)

    pub record_refused : (e : FileFault) (MayFail : Type 0) → FailsBy e record_at MayFail old → FailsAfter (λ f. Err f) (items limit file) count e
    record_refused e MayFail fails = fault_given record_at limit (items_after limit) (after_read limit) (after-step limit) (items limit file) old count reads (λ f. Err f) e MayFail fails (λ f. refl)

-- a refusal is at a place of the file or at its end
pub refusal_in_file : (limit : Option ℕ) (file : List ℕ) (count : ℕ) (given : Result Next FileFault) (cursor : Cursor) (state : Progress Bool Stop) → ReturnsNext limit file count given cursor state → IfErr given (IsStreamFaultIn file)
refusal_in_file limit file count (Ok answered) cursor state answer = tt
refusal_in_file limit file count (Err fault) cursor state answer = fault_in_file (λ f. Err f) (items limit file) count file fault (λ f e. let p = items-fault limit file f e in omega (arith, p.upto)) answer
