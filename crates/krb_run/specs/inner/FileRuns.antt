-- What the parts of a run on a file promise each other.
use Rattle.std.specs.Prelude.{ℕ, ◌≡◌, ◌≤◌, ◌⊎◌, List, length, Option, Some, IfSome}
use Rattle.std.specs.Io.KnownBytes.{Consumes, IsAtEnd}
use Rattle.krb_run.specs.declared.run.RunFault.{RunFault}
use Rattle.krb_run.specs.declared.run.RunFault.TheVariants as fault
use Rattle.krb_run.specs.declared.transfer.ReaderState.{ReaderState}
use Rattle.krb_run.specs.declared.transfer.ReaderState.TheVariants as reader
use Rattle.krb_run.specs.Faults.{IsRead}

-- Octets that a reader had were read, up to its end or up to the greatest number.
pub record ReadsUpTo (had left : Option (List ℕ)) (most : Option ℕ) (file : List ℕ) : Type 0 where
  pub taken : Consumes had left file
  pub enough : IsAtEnd left ⊎ (most ≡ Some (length file))
  pub within : IfSome most (λ most. length file ≤ most)

-- no read failed
abbrev pub IsNotFailed : ReaderState → Type 0
IsNotFailed reader.Open = Unit {0}
IsNotFailed reader.Ended = Unit {0}
IsNotFailed reader.Failed = ⊥

-- the fault of a run that has not written: that of its reader if this failed, and else out of memory
abbrev pub IsOfReading : ReaderState → RunFault → Type 0
IsOfReading reader.Failed e = IsRead e
IsOfReading reader.Open e = e ≡ fault.Memory
IsOfReading reader.Ended e = e ≡ fault.Memory
