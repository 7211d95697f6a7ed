-- The field at fault of a message, of which C has the first octets.
use Rattle.std.specs.Prelude.{ℕ, ◌+◌, nat_lt, if◌then◌else◌, List, take, Option, None}
use Rattle.krb_der.specs.declared.profile.Profile.{Profile}
use Rattle.krb_der.specs.declared.verdict.Verdict.{Verdict}
use Rattle.krb_der.specs.declared.verdict.Verdict.TheVariants as verdict
use Rattle.krb_judge.specs.Paths.{message_path}
use Rattle.krb_c.specs.Judged.{front_verdict}

-- by their verdict: of a refusal the path by the octets up to and with the refused one, and of a message that is cut by all that are there
abbrev pub path_by : Verdict → Profile → ℕ → List ℕ → Option (List ℕ)
path_by verdict.Whole profile n octets = None
path_by verdict.Open profile n octets = message_path profile n octets
path_by (verdict.Refused refusal) profile n octets = message_path profile n (take (refusal.place + 1) octets)

-- of a message of n octets; octets after these are not looked at, and there is no path if they are too many for a message
abbrev pub fault_path : Profile → ℕ → List ℕ → Option (List ℕ)
fault_path profile n octets =
    if nat_lt 2147483647 n then None else path_by (front_verdict profile n octets) profile n (take n octets)
