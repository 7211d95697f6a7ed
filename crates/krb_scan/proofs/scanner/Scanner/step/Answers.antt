use Rattle.std.proofs.Common.{◌++◌, [], ◌∷◌, arith, length-append}
use Rattle.krb_scan.proofs.MarkSteps.{some_then, some_kept, enough, err_holds}
use Rattle.krb_scan.proofs.scanner.Scanner.step.Goals as goal

pub invariant_of-self : goal.invariant_of-self
invariant_of-self c = record { reached = some_kept c.args.self.now.machine c.args.self.now.marks.items c.mark.new.marks.items c.args.self.now.reached c.in_err-mark.ensures.same }

pub returns-in_err-mark-clause-ends : goal.returns-in_err-mark-clause-ends
returns-in_err-mark-clause-ends c = λ profile n octets at. err_holds c.from_residual.result (c.in_err-mark.ensures.ends profile n octets at)

pub returns-in_err-mark-clause-enough : goal.returns-in_err-mark-clause-enough
returns-in_err-mark-clause-enough c = λ profile n octets at much.
    enough c.from_residual.result c.args.self.now.machine c.args.self.now.marks.items n octets (octets ++ c.args.octet ∷ []) _ at (err_holds c.from_residual.result c.requires) (omega (arith, length-append octets (c.args.octet ∷ [])))
    (err_holds c.from_residual.result (c.in_err-mark.ensures.ends profile n octets at)) (err_holds c.from_residual.result (omega (arith, c.in_err-mark.ensures.full, c.args.self.now.marks.ok.0))) much

pub invariant_of-self-2 : goal.invariant_of-self-2
invariant_of-self-2 c = record {
  reached = some_then c.args.self.now.machine c.step.new.self c.args.self.now.marks.items c.mark.new.marks.items (λ octets. octets ++ c.args.octet ∷ []) c.args.self.now.reached
      (λ profile n octets at. record { scanned = c.step.ensures.at profile n octets at.scanned; marks = c.in_ok-mark.ensures.ok profile n octets at });
}

pub returns-clause-at : goal.returns-clause-at
returns-clause-at c = λ profile n octets at. record { scanned = c.step.ensures.at profile n octets at.scanned; marks = c.in_ok-mark.ensures.ok profile n octets at }
