use Rattle.std.proofs.Common.{◌≡◌, ℕ, List, ◌++◌, take, append-nil, refl, ap, ◌∙◌, subst, arith}
use Rattle.std.proofs.Math.Logic.{∥∥₁_elim, ∥∥₁_map}
use Rattle.std.specs.Coded.{le_prop}
use Rattle.krb_der.specs.declared.verdict.Verdict.TheVariants as verdict
use Rattle.krb_msg.specs.Term.{Term}
use Rattle.krb_scan.specs.Scanned.{IsScanOf}
use Rattle.krb_scan.specs.inner.Paths.{IsPathOf}
use Rattle.krb_scan.proofs.Running.{run_at}
use Rattle.krb_scan.proofs.ScannerSteps.{is_path_of}
use Rattle.krb_scan.proofs.Undecided.{sooner, take_first}
use Rattle.krb_scan.proofs.path.Path.scan_some.Goals as goal

pub returns-then-count-gt0-clause-at : goal.returns-then-count-gt0-clause-at
returns-then-count-gt0-clause-at c = λ terms n before at.
    run_at c.args.self.now c.run-count.new.self verdict.Open n c.run-count.result before c.args.octets.now at refl c.run-count.ensures.size (c.run-count.ensures.goes terms)

pub returns-then-count-gt0-clause-sooner : goal.returns-then-count-gt0-clause-sooner
returns-then-count-gt0-clause-sooner c = λ terms n before k at lt.
    sooner c.run-count.new.self verdict.Open n before c.args.octets.now c.run-count.result k
    (run_at c.args.self.now c.run-count.new.self verdict.Open n c.run-count.result before c.args.octets.now at refl c.run-count.ensures.size (c.run-count.ensures.goes terms))
    (λ refusal e. absurd (cc e))
    (omega (arith, c.run-count.ensures.longest terms before (is_path_of c.args.self.now verdict.Open n before at refl)))
    lt

pub returns-then-count-gt0-clause-within : goal.returns-then-count-gt0-clause-within
returns-then-count-gt0-clause-within c =
    ∥∥₁_elim c.requires.reached le_prop (λ (k : (octets : List ℕ) × (terms : List Term) × IsPathOf terms c.args.self.now octets). omega (arith, c.run-count.ensures.longest k.1 k.0 k.2))

pub step-requires : goal.step-requires
step-requires c =
    ∥∥₁_map c.requires.reached (λ (k : (octets : List ℕ) × (terms : List Term) × IsPathOf terms c.args.self.now octets). (k.0 ++ take c.run-count.result c.args.octets.now, k.1, c.run-count.ensures.goes k.1 k.0 k.2))

pub returns-clause-at : goal.returns-clause-at
returns-clause-at c = λ terms n before at.
    let none : c.run-count.result ≡ 0 = omega (arith, c.if-count-gt0.false) in
    let run : IsScanOf terms c.run-count.new.self verdict.Open n (before ++ take c.run-count.result c.args.octets.now) =
    run_at c.args.self.now c.run-count.new.self verdict.Open n c.run-count.result before c.args.octets.now at refl c.run-count.ensures.size (c.run-count.ensures.goes terms) in
    let here : IsScanOf terms c.run-count.new.self verdict.Open n before = subst (IsScanOf terms c.run-count.new.self verdict.Open n) (ap (λ k. before ++ take k c.args.octets.now) none ∙ append-nil before) run in
    subst (λ l. IsScanOf terms c.step.new.self c.step.result n (before ++ l)) (take_first c.args.octets.now c.requires.some) (c.step.ensures terms n before here)
