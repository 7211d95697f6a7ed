use Rattle.krb_scan.proofs.MarkSteps.{some_kept}
use Rattle.krb_scan.proofs.scanner.Scanner.reserve.Goals as goal

pub invariant_of-self : goal.invariant_of-self
invariant_of-self c = record { reached = some_kept c.args.self.now.machine c.args.self.now.marks.items c.reserve.new.self.items c.args.self.now.reached c.reserve.ensures.items }
