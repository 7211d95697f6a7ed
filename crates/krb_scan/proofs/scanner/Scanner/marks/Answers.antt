use Rattle.std.proofs.Common.{◌*◌, ◌≤◌, length, sym, subst}
use Rattle.krb_scan.proofs.MarkSteps.{marks_few}
use Rattle.krb_scan.proofs.scanner.Scanner.marks.Goals as goal

pub returns-clause-few : goal.returns-clause-few
returns-clause-few c = subst (λ items. 2 * length items ≤ c.args.self.now.machine.path.looked) (sym c.as_slice.ensures.value) (marks_few c.args.self.now.machine c.args.self.now.marks.items c.args.self.now.reached)
