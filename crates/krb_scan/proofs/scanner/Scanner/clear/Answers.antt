use Rattle.std.proofs.Common.{rules}
use Rattle.krb_scan.proofs.MarkSteps.{nothing_marked}
use Rattle.krb_scan.proofs.scanner.Scanner.clear.Goals as goal

pub invariant_of-self : goal.invariant_of-self
invariant_of-self c = record { reached = nothing_marked c.args.self.now.machine.profile c.clear.new.self c.clear-2.new.self.items c.args.n c.clear.ensures.at (search rules) }
