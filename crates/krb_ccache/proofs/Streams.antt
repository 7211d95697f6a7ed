-- A cache that is read one credential at a time: how each call changes the credentials that are left.
use Rattle.std.proofs.Common.{◌≡◌, ℕ, suc, Option, Some, None, Result, Ok, Err, List, [], ◌∷◌, length, refl, sym, ◌∙◌, ap, subst, ◌≤◌, arith}
use Rattle.std.specs.Prelude.{IfErr}
use Rattle.krb_file.specs.Fields.{Source, source_of, Fault, Reader, limited, IsStreamFaultIn}
use Rattle.krb_file.specs.FieldReaders.{Cursor, source_at, HasRead, FailsBy}
use Rattle.krb_file.specs.declared.fault.FileFault.{FileFault}
use Rattle.krb_file.specs.declared.progress.Progress.{Progress}
use Rattle.krb_file.specs.declared.progress.Progress.TheVariants as states
use Rattle.krb_file.specs.declared.fault.FileFault.TheVariants as faults
use Rattle.krb_file.proofs.Fields.{failed, err_is}
use Rattle.krb_file.proofs.FieldReaders.{some_rest}
use Rattle.krb_file.proofs.Items.{goes_on, item_given, end_given as items-end_given, fault_given as items-fault_given, gave_none, fault_in_file}
use Rattle.krb_file.specs.Items.{IsItem, EndsBy, FailsAfter}
use Rattle.krb_ccache.specs.declared.value.Credential.{Credential}
use Rattle.krb_ccache.specs.declared.reading.Start.{Start}
use Rattle.krb_ccache.specs.Reading.{credential_at, one_enctype, next_at, start_at, CacheItems, items_after}
use Rattle.krb_ccache.specs.Streaming.{file_start, credentials_of, credentials, Reads, ReturnsNext}
use Rattle.krb_ccache.proofs.Stepwise.{Shortens-credential, after_read, after-step}
use Rattle.krb_ccache.proofs.Faults.{Steps-start, Steps-credential}
use Rattle.krb_ccache.proofs.Items.{items_after-fault}

-- ---- what is before the credentials

-- nothing was read of a file
abbrev pub unread : Option ℕ → Option (List ℕ) → Cursor
unread limit left = record { ahead = []; left = left; place = 0; bounds = limited limit }

start_read : (limit : Option ℕ) (file : List ℕ) (start : Start) (new : Cursor) → HasRead (start_at (3 ∷ 4 ∷ [])) start (unread limit (Some file)) new → Reads limit new start (states.Open (tt {0})) file 0
start_read limit file start new read =
    let now = some_rest new in
    let first = read.from now.rest now.there in
    let all : Source → CacheItems Credential = λ s. credentials_of limit (start_at (3 ∷ 4 ∷ []) (limited limit) s) in
    let none = gave_none all limit file (unread limit (Some file)) refl (λ octets there. there) in
    record {
      is_open = refl;
      after = source_at new.place now.rest;
      begins = ap (file_start limit) (sym first.1) ∙ first.2;
      gave = ([], goes_on (start_at (3 ∷ 4 ∷ [])) limit all (credentials_of limit) (λ s. refl) (credentials limit file) (unread limit (Some file)) [] [] none start new (items_after (credential_at one_enctype start.version) limit) read (λ t. refl), refl);
    }

pub starts : (limit : Option ℕ) (file : List ℕ) (known : Option (List ℕ)) (start : Start) (new : Cursor) → known ≡ Some file → HasRead (start_at (3 ∷ 4 ∷ [])) start (unread limit known) new → Reads limit new start (states.Open (tt {0})) file 0
starts limit file known start new is read = start_read limit file start new (subst (λ (k : Option (List ℕ)). HasRead (start_at (3 ∷ 4 ∷ [])) start (unread limit k) new) is read)

-- ---- the credentials
module _ (limit : Option ℕ) (file : List ℕ) (count : ℕ) (start : Start) (state : Progress (Unit {0}) (Unit {0})) (old new : Cursor) (reads : Reads limit old start state file count) where
  -- the next credential, what it leaves, and its law
  abbrev next : Reader (Option Credential)
  next = next_at one_enctype start.version

  abbrev left : Source → CacheItems Credential
  left = items_after (credential_at one_enctype start.version) limit

  abbrev after : Result (Option Credential × Source) Fault → CacheItems Credential
  after = after_read (credential_at one_enctype start.version) limit

  law : (s : Source) → left s ≡ after (next (limited limit) s)
  law = after-step (credential_at one_enctype start.version) (Shortens-credential one_enctype start.version) limit

  pub credential_given : (c : Credential) → HasRead next (Some c) old new → IsItem (credentials limit file) count c × Reads limit new start state file (suc count)
  credential_given c read =
      let given = item_given next limit left after law (credentials limit file) old count reads.gave (Some c) c new left read (λ t. refl) in
      (given.0, record { is_open = reads.is_open; after = reads.after; begins = reads.begins; gave = given.1 })

  pub end_given : HasRead next None old new → EndsBy (credentials limit file) count (Ok new.place)
  end_given read = items-end_given next limit left after law (credentials limit file) old count reads.gave None (λ place. Ok place) new read (λ t. refl)

  pub fault_given : (e : FileFault) (MayFail : Type 0) → FailsBy e next MayFail old → FailsAfter (λ f. Err f) (credentials limit file) count e
  fault_given e MayFail fails = items-fault_given next limit left after law (credentials limit file) old count reads.gave (λ f. Err f) e MayFail fails (λ f. refl)

-- ---- a refusal is at a place of the file or at its end
start_inside : (limit : Option ℕ) (file : List ℕ) (f : Fault) → file_start limit file ≡ Err f → f.place ≤ length file
start_inside limit file f e = let p = (Steps-start (3 ∷ 4 ∷ [])).faults (limited limit) (source_of file) f e in omega (arith, p.upto)

start_met : (limit : Option ℕ) (file : List ℕ) (e : FileFault) → FailsBy e (start_at (3 ∷ 4 ∷ [])) (Unit {0}) (unread limit (Some file)) → IsStreamFaultIn file e
start_met limit file (faults.Refused fault) fails = start_inside limit file fault (ap (file_start limit) (sym fails.there) ∙ fails.refused)
start_met limit file other fails = tt

pub start_refusal_in_file : (limit : Option ℕ) (file : List ℕ) (known : Option (List ℕ)) (e : FileFault) → known ≡ Some file → FailsBy e (start_at (3 ∷ 4 ∷ [])) (Unit {0}) (unread limit known) → IsStreamFaultIn file e
start_refusal_in_file limit file known e is fails = start_met limit file e (subst (λ (k : Option (List ℕ)). FailsBy e (start_at (3 ∷ 4 ∷ [])) (Unit {0}) (unread limit k)) is fails)

credentials_inside : (limit : Option ℕ) (file : List ℕ) (f : Fault) (r : Result (Start × Source) Fault) → file_start limit file ≡ r → (credentials_of limit r).end ≡ Err f → f.place ≤ length file
credentials_inside limit file f (Err g) begins e = start_inside limit file f (begins ∙ ap (failed (Start × Source)) (err_is ℕ g f e))
credentials_inside limit file f (Ok (start, after)) begins e =
    let m = (Steps-start (3 ∷ 4 ∷ [])).moves (limited limit) (source_of file) start after begins in
    let p = items_after-fault (credential_at one_enctype start.version) (Steps-credential one_enctype start.version) limit after f e in
    omega (arith, m.same, p.upto)

pub refusal_in_file : (limit : Option ℕ) (file : List ℕ) (count : ℕ) (given : Result (Option Credential) FileFault) (cursor : Cursor) (start : Start) (state : Progress (Unit {0}) (Unit {0})) → ReturnsNext limit file count given cursor start state → IfErr given (IsStreamFaultIn file)
refusal_in_file limit file count (Ok answered) cursor start state answer = tt
refusal_in_file limit file count (Err fault) cursor start state answer = fault_in_file (λ f. Err f) (credentials limit file) count file fault (λ f e. credentials_inside limit file f (file_start limit file) refl e) answer
