use Rattle.std.proofs.Common.{ℕ, List, refl, arith}
use Rattle.std.proofs.Math.Logic.{∥∥₁_elim}
use Rattle.std.proofs.Props.{props}
use Rattle.krb_der.specs.declared.verdict.Verdict.TheVariants as verdict
use Rattle.krb_msg.specs.Term.{Term}
use Rattle.krb_scan.specs.inner.Paths.{IsPathOf}
use Rattle.krb_scan.proofs.PathFacts.{at_tip}
use Rattle.krb_scan.proofs.ScannerSteps.{is_path_of, scanned_at}
use Rattle.krb_scan.proofs.path.Path.step.Goals as goal

pub overflow_add-self : goal.overflow_add-self
overflow_add-self c = ∥∥₁_elim c.requires (hlevel props) (λ (r : (octets : List ℕ) × (terms : List Term) × IsPathOf terms c.args.self.now octets).
    omega (arith, (at_tip c.args.self.now r.0 r.2).near, c.take-decided.ensures.same.1))

pub returns : goal.returns
returns c = λ terms n octets at.
    scanned_at c.args.self.now c.take-decided.new.self c.take-decided.result verdict.Open n octets c.args.octet at refl (omega arith) c.take-decided.ensures.same.0 c.take-decided.ensures.same.1
    (c.take-decided.ensures.step terms octets (is_path_of c.args.self.now verdict.Open n octets at refl))
