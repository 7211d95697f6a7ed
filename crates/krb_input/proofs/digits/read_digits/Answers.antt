use Rattle.std.proofs.Common.{◌≡◌, ◌<◌, ℕ, Option, Some, Err, List, [], ◌∷◌, length, ◌∙◌, ap, arith}
use Rattle.krb_input.specs.Readings.{prepend}
use Rattle.krb_input.specs.inner.Results.{digits_on}
use Rattle.krb_input.proofs.digits.read_digits.Goals as goal

-- the second digit is missing
one_missing : (octets rest : List ℕ) (high : Option ℕ) (first : ℕ) → high ≡ Some first → length rest < 1 → prepend octets (digits_on high rest) ≡ Err 0
one_missing octets [] high first is short = ap (λ (h : Option ℕ). prepend octets (digits_on h [])) is
one_missing octets (octet ∷ rest) high first is short = absurd (omega arith)

pub returns-in-Some-high-clause-fault : goal.returns-in-Some-high-clause-fault
returns-in-Some-high-clause-fault c =
    c.loop-rest.invariant ∙ one_missing c.loop-rest.octets.items c.loop-rest.rest.now c.loop-rest.high c.in-Some-high.field-0 c.in-Some-high.is c.in_default.len_below
