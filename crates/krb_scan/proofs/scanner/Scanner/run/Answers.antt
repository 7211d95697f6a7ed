use Rattle.std.proofs.Common.{◌++◌, take, sym, subst, arith}
use Rattle.std.proofs.lemmas.List.{length-take}
use Rattle.krb_der.specs.inner.Numbers.{AreOctets-slice, AreOctets-take}
use Rattle.krb_scan.specs.State.{AreMarks}
use Rattle.krb_scan.proofs.Running.{run_marks}
use Rattle.krb_scan.proofs.MarkSteps.{some_then}
use Rattle.krb_scan.proofs.scanner.Scanner.run.Goals as goal

pub returns-clause-at : goal.returns-clause-at
returns-clause-at c = λ profile n before at.
    record {
      scanned = c.run.ensures.at profile n before at.scanned;
      marks = subst (AreMarks c.args.self.now.marks.items) (sym (run_marks profile n before (take c.run.result c.args.octets.now) at.scanned.some at.scanned.are_octets (AreOctets-take c.run.result c.args.octets.now (AreOctets-slice c.args.octets.now c.type_inv.octets)) (omega (arith, length-take c.run.result c.args.octets.now, c.run.ensures.longest profile n before at.scanned)))) at.marks;
    }

pub invariant_of-self : goal.invariant_of-self
invariant_of-self c = record {
  reached = some_then c.args.self.now.machine c.run.new.self c.args.self.now.marks.items c.args.self.now.marks.items (λ before. before ++ take c.run.result c.args.octets.now) c.args.self.now.reached (λ profile n before at.
      record {
        scanned = c.run.ensures.at profile n before at.scanned;
        marks = subst (AreMarks c.args.self.now.marks.items) (sym (run_marks profile n before (take c.run.result c.args.octets.now) at.scanned.some at.scanned.are_octets (AreOctets-take c.run.result c.args.octets.now (AreOctets-slice c.args.octets.now c.type_inv.octets)) (omega (arith, length-take c.run.result c.args.octets.now, c.run.ensures.longest profile n before at.scanned)))) at.marks;
      });
}

pub returns-clause-longest : goal.returns-clause-longest
returns-clause-longest c = λ profile n before at. c.run.ensures.longest profile n before at.scanned
