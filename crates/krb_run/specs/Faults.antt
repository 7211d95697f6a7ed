-- Which of the three a fault is, whatever the error is that it carries.
use Rattle.std.specs.Prelude.{◌≡◌}
use Rattle.krb_file.specs.declared.fault.FileFault.{FileFault}
use Rattle.krb_file.specs.declared.fault.FileFault.TheVariants as faults
use Rattle.krb_run.specs.declared.run.RunFault.{RunFault}
use Rattle.krb_run.specs.declared.run.RunFault.TheVariants as fault

-- a read failed
abbrev pub IsRead : RunFault → Type 0
IsRead (fault.Read error) = Unit {0}
IsRead (fault.Write error) = ⊥
IsRead fault.Memory = ⊥

-- a write failed
abbrev pub IsWrite : RunFault → Type 0
IsWrite (fault.Read error) = ⊥
IsWrite (fault.Write error) = Unit {0}
IsWrite fault.Memory = ⊥

-- A run ends by this fault at that of its file, or instead of appending the line of its refusal. A file that could not be read is a read that failed; else memory ran out.
abbrev pub IsFaultAt : FileFault → RunFault → Type 0
IsFaultAt faults.Read e = IsRead e
IsFaultAt (faults.Refused refusal) e = e ≡ fault.Memory
IsFaultAt faults.Memory e = e ≡ fault.Memory
