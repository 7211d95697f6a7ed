use Rattle.std.proofs.Common.{◌+◌, ◌-◌, ◌++◌, length, take, drop, subst, arith}
use Rattle.std.proofs.lemmas.List.{take_rest, length-take, length-drop}
use Rattle.krb_scan.specs.Scanned.{IsScanOf}
use Rattle.krb_scan.proofs.Running.{reached_on}
use Rattle.krb_scan.proofs.Undecided.{then_at, then_sooner}
use Rattle.krb_scan.proofs.path.Path.scan.Goals as goal

pub scan_some-count-requires-clause-reached : goal.scan_some-count-requires-clause-reached
scan_some-count-requires-clause-reached c = reached_on c.args.self.now c.octets.self (λ before. before ++ take c.octets.used c.args.octets.now) c.requires c.octets.invariant.1

pub octets-preserved : goal.octets-preserved
octets-preserved c = (
  grind (arith, c.scan_some-count.ensures.within, length-take (length c.args.octets.now - c.octets.used) (drop c.octets.used c.args.octets.now), length-drop c.octets.used c.args.octets.now),
  λ terms n before at. subst (λ v. IsScanOf terms c.scan_some-count.new.self v n (before ++ take (c.octets.used + c.scan_some-count.result.0) c.args.octets.now)) c.in-Open.is (then_at (IsScanOf terms c.scan_some-count.new.self c.scan_some-count.result.1 n) before c.args.octets.now _ c.octets.used c.scan_some-count.result.0 (take_rest c.args.octets.now c.octets.used) (c.scan_some-count.ensures.at terms n _ (c.octets.invariant.1 terms n before at))),
  λ terms n before k at lt. then_sooner terms n before c.args.octets.now _ c.octets.used c.scan_some-count.result.0 k (take_rest c.args.octets.now c.octets.used) (c.octets.invariant.2 terms n before k at) (λ j. c.scan_some-count.ensures.sooner terms n _ j (c.octets.invariant.1 terms n before at)) lt,
)

pub returns-in_default-clause-at : goal.returns-in_default-clause-at
returns-in_default-clause-at c = λ terms n before at.
    then_at (IsScanOf terms c.scan_some-count.new.self c.scan_some-count.result.1 n) before c.args.octets.now _ c.octets.used c.scan_some-count.result.0 (take_rest c.args.octets.now c.octets.used) (c.scan_some-count.ensures.at terms n _ (c.octets.invariant.1 terms n before at))

pub returns-in_default-clause-sooner : goal.returns-in_default-clause-sooner
returns-in_default-clause-sooner c = λ terms n before k at lt.
    then_sooner terms n before c.args.octets.now _ c.octets.used c.scan_some-count.result.0 k (take_rest c.args.octets.now c.octets.used) (c.octets.invariant.2 terms n before k at) (λ j. c.scan_some-count.ensures.sooner terms n _ j (c.octets.invariant.1 terms n before at)) lt
