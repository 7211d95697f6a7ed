-- A scanner as contracts see it.
use Rattle.std.specs.Prelude.{ℕ, List, vec_capacity}
use Rattle.krb_der.specs.declared.profile.Profile.{Profile}
use Rattle.krb_der.specs.declared.verdict.Verdict.{Verdict}
use Rattle.krb_scan.specs.Machine as machine
use Rattle.krb_scan.specs.declared.mark.Mark.{Mark}
use Rattle.krb_scan.specs.declared.scanner.Scanner.{Scanner}

-- the verdict on the octets that it scanned
abbrev pub verdict_of : Scanner → Verdict
verdict_of scanner = machine.verdict_of scanner.machine

-- how many octets it has looked at in all
abbrev pub ledger_of : Scanner → ℕ
ledger_of scanner = machine.ledger_of scanner.machine

-- how many octets of the message it has scanned
abbrev pub looked_of : Scanner → ℕ
looked_of scanner = scanner.machine.path.looked

-- for how many marks it has capacity
abbrev pub capacity_of : Scanner → ℕ
capacity_of scanner = vec_capacity scanner.marks

abbrev pub marks_of : Scanner → List Mark
marks_of scanner = scanner.marks.items

-- the profile that it judges by
abbrev pub profile_of : Scanner → Profile
profile_of scanner = machine.profile_of scanner.machine

-- a scanner has scanned these octets of a message of n octets, by a profile
abbrev pub HasScanned : Profile → Scanner → ℕ → List ℕ → Type 0
HasScanned profile scanner n octets = machine.HasMarked profile scanner.machine scanner.marks.items n octets
