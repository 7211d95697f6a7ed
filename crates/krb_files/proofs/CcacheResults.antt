-- The results of a function that agrees with the definition of reading a cache.
use Rattle.std.proofs.Common.{◌≡◌, ℕ, List, Result, Ok, Err, ◌≤◌, length, subst}
use Rattle.std.specs.Prelude.{IfOk, IfErr}
use Rattle.krb_der.specs.Octets.{AreOctets}
use Rattle.krb_file.specs.Fields.{Fault, Agrees, IsFaultIn}
use Rattle.krb_file.specs.declared.fault.FileFault.{FileFault}
use Rattle.krb_file.specs.declared.fault.FileFault.TheVariants as faults
use Rattle.krb_source.specs.declared.file_why.FileWhy.TheVariants as why
use Rattle.krb_ccache.specs.declared.value.Cache3.{Cache3}
use Rattle.krb_ccache.specs.declared.value.Ccache.{Ccache}
use Rattle.krb_ccache.specs.Spelling.{CcacheSpells, Spells3}
use Rattle.krb_ccache.specs.Reading.{one_enctype, both_enctypes, read_in, read, read3}
use Rattle.krb_ccache.proofs.Ccaches.{ccache_of, read-sound, spells-read, cache3_of, read3-sound, spells3-read}
use Rattle.krb_files.proofs.CcacheWhole.{file-fault, made-fault}

-- a cache of a version: how it is read, and its spelling
module _ {A : Type 0} (read_as : List ℕ → Result A Fault) (Spells : A → List ℕ → Type 0) (sound : (file : List ℕ) (v : A) → AreOctets file → read_as file ≡ Ok v → Spells v file) (again : (v : A) (b : List ℕ) → Spells v b → read_as b ≡ Ok v) (fault : (file : List ℕ) (f : Fault) → read_as file ≡ Err f → (f.place ≤ length file) × ((size : ℕ) → f.why ≡ why.TooLong size → ⊥)) where
  found_of : (file : List ℕ) (answer : Result A FileFault) → AreOctets file → Agrees (λ v. v) answer (read_as file) → IfOk answer (λ v. Spells v file)
  found_of file (Ok v) octets succeed = sound file v octets succeed
  found_of file (Err fault) octets succeed = tt

  only_of : (file : List ℕ) (answer : Result A FileFault) → Agrees (λ v. v) answer (read_as file) → (v : A) → Spells v file → Agrees (λ v. v) answer (Ok v)
  only_of file answer succeed v spelled = subst (Agrees (λ v. v) answer) (again v file spelled) succeed

  refused_of : (file : List ℕ) (answer : Result A FileFault) → Agrees (λ v. v) answer (read_as file) → IfErr answer (IsFaultIn file)
  refused_of file (Ok v) succeed = tt
  refused_of file (Err faults.Memory) succeed = tt
  refused_of file (Err faults.Read) succeed = absurd succeed
  refused_of file (Err (faults.Refused refusal)) succeed = fault file refusal succeed

read-fault : (file : List ℕ) (f : Fault) → read file ≡ Err f → (f.place ≤ length file) × ((size : ℕ) → f.why ≡ why.TooLong size → ⊥)
read-fault file f e = file-fault one_enctype 4 file f (made-fault (read_in one_enctype 4 file) ccache_of f e)

read3-fault : (file : List ℕ) (f : Fault) → read3 file ≡ Err f → (f.place ≤ length file) × ((size : ℕ) → f.why ≡ why.TooLong size → ⊥)
read3-fault file f e = file-fault both_enctypes 3 file f (made-fault (read_in both_enctypes 3 file) cache3_of f e)

-- ---- version 4
pub found : (file : List ℕ) (answer : Result Ccache FileFault) → AreOctets file → Agrees (λ v. v) answer (read file) → IfOk answer (λ v. CcacheSpells v file)
found = found_of read CcacheSpells read-sound spells-read read-fault

pub only : (file : List ℕ) (answer : Result Ccache FileFault) → Agrees (λ v. v) answer (read file) → (v : Ccache) → CcacheSpells v file → Agrees (λ v. v) answer (Ok v)
only = only_of read CcacheSpells read-sound spells-read read-fault

pub refused : (file : List ℕ) (answer : Result Ccache FileFault) → Agrees (λ v. v) answer (read file) → IfErr answer (IsFaultIn file)
refused = refused_of read CcacheSpells read-sound spells-read read-fault

-- ---- version 3
pub found3 : (file : List ℕ) (answer : Result Cache3 FileFault) → AreOctets file → Agrees (λ v. v) answer (read3 file) → IfOk answer (λ v. Spells3 v file)
found3 = found_of read3 Spells3 read3-sound spells3-read read3-fault

pub only3 : (file : List ℕ) (answer : Result Cache3 FileFault) → Agrees (λ v. v) answer (read3 file) → (v : Cache3) → Spells3 v file → Agrees (λ v. v) answer (Ok v)
only3 = only_of read3 Spells3 read3-sound spells3-read read3-fault

pub refused3 : (file : List ℕ) (answer : Result Cache3 FileFault) → Agrees (λ v. v) answer (read3 file) → IfErr answer (IsFaultIn file)
refused3 = refused_of read3 Spells3 read3-sound spells3-read read3-fault
