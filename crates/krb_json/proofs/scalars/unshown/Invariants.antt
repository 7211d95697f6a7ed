use Rattle.std.proofs.Common.{◌≡◌, ◌++◌, length, option_map}
use Rattle.krb_json.specs.Spelling.{unshown}
use Rattle.krb_json.proofs.scalars.unshown.Given as goal

abbrev pub invariant-loop-rest : goal.invariant-loop-rest
invariant-loop-rest l = unshown l.fn.text ≡ option_map (λ octets. l.octets.items ++ octets) (unshown l.rest)

abbrev pub decreases-loop-rest : goal.decreases-loop-rest
decreases-loop-rest l = length l.rest
