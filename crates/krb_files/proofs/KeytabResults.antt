-- The results of a function that agrees with the definition of reading a keytab.
use Rattle.std.proofs.Common.{◌≡◌, ℕ, ◌≤◌, None, List, length, Result, Ok, Err, refl, ap, subst, arith}
use Rattle.std.specs.Prelude.{IfOk, IfErr}
use Rattle.krb_der.specs.Octets.{AreOctets}
use Rattle.krb_file.specs.Fields.{Fault, Agrees, IsFaultIn}
use Rattle.krb_file.specs.declared.fault.FileFault.{FileFault}
use Rattle.krb_file.specs.declared.fault.FileFault.TheVariants as faults
use Rattle.krb_file.proofs.Fields.{failed, err_is}
use Rattle.krb_source.specs.declared.file_why.FileWhy.TheVariants as why
use Rattle.krb_keytab.specs.declared.value.Keytab.{Keytab}
use Rattle.krb_keytab.specs.declared.value.Record.{Record}
use Rattle.krb_keytab.specs.declared.value.Stop.{Stop}
use Rattle.krb_keytab.specs.Spelling.{ReadAs}
use Rattle.krb_keytab.specs.Reading.{items, keytab_of, read}
use Rattle.krb_keytab.proofs.Keytabs.{read-sound, read_as-again}
use Rattle.krb_keytab.proofs.Faults.{items-fault}

-- ---- a fault is at a place of the file or at its end, and none is TooLong
keytab_of-err : (found : List Record) (end : Result (Stop × ℕ) Fault) (f : Fault) → keytab_of found end ≡ Err f → end ≡ Err f
keytab_of-err found (Err g) f e = ap (failed (Stop × ℕ)) (err_is (Keytab × ℕ) g f e)
keytab_of-err found (Ok end) f e = absurd cc

read-fault : (file : List ℕ) (f : Fault) → read file ≡ Err f → (f.place ≤ length file) × ((size : ℕ) → f.why ≡ why.TooLong size → ⊥)
read-fault file f e =
    let found = items None file in
    let p = items-fault None file f (keytab_of-err found.items found.end f e) in
    (omega (arith, p.upto), p.limited refl)

-- ---- results
abbrev Answer : Type 0
Answer = Result (Keytab × ℕ) FileFault

pub found : (file : List ℕ) (answer : Answer) → AreOctets file → Agrees (λ taken. taken) answer (read file) → IfOk answer (λ taken. ReadAs file taken.0 taken.1)
found file (Ok taken) octets succeed = read-sound file taken.0 taken.1 octets succeed
found file (Err fault) octets succeed = tt

pub only : (file : List ℕ) (answer : Answer) → Agrees (λ taken. taken) answer (read file) → (v : Keytab) (k : ℕ) → ReadAs file v k → Agrees (λ taken. taken) answer (Ok (v, k))
only file answer succeed v k spelled = subst (Agrees (λ taken. taken) answer) (read_as-again file v k spelled) succeed

pub refused : (file : List ℕ) (answer : Answer) → Agrees (λ taken. taken) answer (read file) → IfErr answer (IsFaultIn file)
refused file (Ok taken) succeed = tt
refused file (Err faults.Memory) succeed = tt
refused file (Err faults.Read) succeed = absurd succeed
refused file (Err (faults.Refused fault)) succeed = read-fault file fault succeed
