use Rattle.std.proofs.Common.{◌≡◌, ℕ, ◌-◌, ◌<◌, ◌≤◌, List, ◌++◌, length, take}
use Rattle.krb_der.specs.declared.verdict.Verdict.TheVariants as verdict
use Rattle.krb_msg.specs.Term.{Term}
use Rattle.krb_msg.specs.Judgement.{judgement_by}
use Rattle.krb_scan.specs.Scanned.{IsScanOf}
use Rattle.krb_scan.proofs.path.Path.scan.Given as goal

-- the octets scanned so far decide nothing, nor do fewer
abbrev pub invariant-octets : goal.invariant-octets
invariant-octets l =
    (l.used ≤ length l.octets) × ((terms : List Term) (n : ℕ) (before : List ℕ) → IsScanOf terms l.fn.self verdict.Open n before → IsScanOf terms l.self verdict.Open n (before ++ take l.used l.octets))
    × ((terms : List Term) (n : ℕ) (before : List ℕ) (k : ℕ) → IsScanOf terms l.fn.self verdict.Open n before → k < l.used → judgement_by terms n (before ++ take k l.octets) ≡ verdict.Open)

abbrev pub decreases-octets : goal.decreases-octets
decreases-octets l = length l.octets - l.used
