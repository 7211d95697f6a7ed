-- A machine as contracts see it, and one beside marks.
use Rattle.std.specs.Prelude.{ℕ, List}
use Rattle.krb_der.specs.declared.profile.Profile.{Profile}
use Rattle.krb_der.specs.declared.verdict.Verdict.{Verdict}
use Rattle.krb_msg.specs.Grammar.{messages}
use Rattle.krb_scan.specs.State.{AreMarks}
use Rattle.krb_scan.specs.Scanned.{IsScanOf, Marks}
use Rattle.krb_scan.specs.declared.machine.Machine.{Machine}
use Rattle.krb_scan.specs.declared.mark.Mark.{Mark}

-- the verdict on the octets that it scanned
abbrev pub verdict_of : Machine → Verdict
verdict_of machine = machine.verdict

-- how many octets it has looked at in all
abbrev pub ledger_of : Machine → ℕ
ledger_of machine = machine.ledger.looks

-- the profile that it judges by
abbrev pub profile_of : Machine → Profile
profile_of machine = machine.profile

-- a machine has scanned these octets of a message of n octets, by a profile
abbrev pub HasScanned : Profile → Machine → ℕ → List ℕ → Type 0
HasScanned profile machine n octets = IsScanOf (messages profile) machine.path machine.verdict n octets

-- and these are their marks
pub record HasMarked (profile : Profile) (machine : Machine) (kept : List Mark) (n : ℕ) (octets : List ℕ) : Type 0 where
  pub scanned : HasScanned profile machine n octets
  pub marks : AreMarks kept (Marks profile n octets)
