use Rattle.std.proofs.Common.{◌+◌, ◌-◌, ◌++◌, length, take, drop, arith, rules, ◌∙◌}
use Rattle.krb_msg.specs.Grammar.{messages}
use Rattle.krb_scan.specs.Scanner.{HasScanned, capacity_of}
use Rattle.std.proofs.lemmas.List.{take_rest, length-append, length-take, length-drop}
use Rattle.krb_scan.proofs.Undecided.{then_at, then_sooner, then_ends}
use Rattle.krb_scan.proofs.MarkSteps.{enough}
use Rattle.krb_scan.proofs.scanner.Scanner.take.Goals as goal

pub octets-preserved : goal.octets-preserved
octets-preserved c = (
  grind (arith, c.take_some-scanned.ensures.within, length-take (length c.args.octets.now - c.octets.used) (drop c.octets.used c.args.octets.now), length-drop c.octets.used c.args.octets.now),
  search rules,
  λ profile n before at. then_at (HasScanned profile c.take_some-scanned.new.self n) before c.args.octets.now _ c.octets.used c.take_some-scanned.result.used (take_rest c.args.octets.now c.octets.used) (c.take_some-scanned.ensures.at profile n _ (c.octets.invariant.2 profile n before at)),
  λ profile n before k at lt. then_sooner (messages profile) n before c.args.octets.now _ c.octets.used c.take_some-scanned.result.used k (take_rest c.args.octets.now c.octets.used) (c.octets.invariant.3 profile n before k at) (λ j. c.take_some-scanned.ensures.sooner profile n _ j (c.octets.invariant.2 profile n before at)) lt,
  omega (arith, c.take_some-scanned.ensures.ledger, c.octets.invariant.4),
  omega (arith, c.take_some-scanned.ensures.capacity, c.octets.invariant.5),
  c.take_some-scanned.ensures.profile ∙ c.octets.invariant.6,
)

pub returns-in_default-clause-at : goal.returns-in_default-clause-at
returns-in_default-clause-at c = λ profile n before at.
    then_at (HasScanned profile c.take_some-scanned.new.self n) before c.args.octets.now _ c.octets.used c.take_some-scanned.result.used (take_rest c.args.octets.now c.octets.used) (c.take_some-scanned.ensures.at profile n _ (c.octets.invariant.2 profile n before at))

pub returns-in_default-clause-sooner : goal.returns-in_default-clause-sooner
returns-in_default-clause-sooner c = λ profile n before k at lt.
    then_sooner (messages profile) n before c.args.octets.now _ c.octets.used c.take_some-scanned.result.used k (take_rest c.args.octets.now c.octets.used) (c.octets.invariant.3 profile n before k at) (λ j. c.take_some-scanned.ensures.sooner profile n _ j (c.octets.invariant.2 profile n before at)) lt

pub returns-in_default-2-clause-at : goal.returns-in_default-2-clause-at
returns-in_default-2-clause-at c = λ profile n before at.
    then_at (HasScanned profile c.take_some-scanned.new.self n) before c.args.octets.now _ c.octets.used c.take_some-scanned.result.used (take_rest c.args.octets.now c.octets.used) (c.take_some-scanned.ensures.at profile n _ (c.octets.invariant.2 profile n before at))

pub returns-in_default-2-clause-sooner : goal.returns-in_default-2-clause-sooner
returns-in_default-2-clause-sooner c = λ profile n before k at lt.
    then_sooner (messages profile) n before c.args.octets.now _ c.octets.used c.take_some-scanned.result.used k (take_rest c.args.octets.now c.octets.used) (c.octets.invariant.3 profile n before k at) (λ j. c.take_some-scanned.ensures.sooner profile n _ j (c.octets.invariant.2 profile n before at)) lt

pub returns-in_default-2-clause-ends : goal.returns-in_default-2-clause-ends
returns-in_default-2-clause-ends c = λ profile n before at.
    then_ends profile c.take_some-scanned.result.verdict n before c.args.octets.now _ c.octets.used c.take_some-scanned.result.used (take_rest c.args.octets.now c.octets.used) (c.take_some-scanned.ensures.ends profile n _ (c.octets.invariant.2 profile n before at))

pub returns-in_default-2-clause-enough : goal.returns-in_default-2-clause-enough
returns-in_default-2-clause-enough c = λ profile n before at much.
    let used = c.octets.used + c.take_some-scanned.result.used in
    let now = then_at (HasScanned profile c.take_some-scanned.new.self n) before c.args.octets.now _ c.octets.used c.take_some-scanned.result.used (take_rest c.args.octets.now c.octets.used) (c.take_some-scanned.ensures.at profile n _ (c.octets.invariant.2 profile n before at)) in
    let ends = then_ends profile c.take_some-scanned.result.verdict n before c.args.octets.now _ c.octets.used c.take_some-scanned.result.used (take_rest c.args.octets.now c.octets.used) (c.take_some-scanned.ensures.ends profile n _ (c.octets.invariant.2 profile n before at)) in
    enough c.take_some-scanned.result.verdict c.take_some-scanned.new.self.machine c.take_some-scanned.new.self.marks.items n (before ++ take used c.args.octets.now) (before ++ take (used + 1) c.args.octets.now) (capacity_of c.octets.self) now c.take_some-scanned.ensures.memory
    (omega (arith, length-append before (take used c.args.octets.now), length-append before (take (used + 1) c.args.octets.now), length-take used c.args.octets.now, length-take (used + 1) c.args.octets.now))
    ends c.take_some-scanned.ensures.full (omega (arith, much, c.octets.invariant.5))
