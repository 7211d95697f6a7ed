-- How a run ends, as the status of a process.
use Rattle.std.specs.Prelude.{ℕ, Result, Ok, Err}
use Rattle.krb_run.specs.declared.run.RunEnd.{RunEnd}
use Rattle.krb_run.specs.declared.run.RunEnd.TheVariants as run
use Rattle.krb_run.specs.declared.run.RunFault.{RunFault}

-- the status of a process whose run returned this
abbrev pub status_of : Result RunEnd RunFault → ℕ
status_of (Ok run.Clean) = 0
status_of (Ok run.Refused) = 1
status_of (Ok run.RefusedAtOnce) = 1
status_of (Err fault) = 3
