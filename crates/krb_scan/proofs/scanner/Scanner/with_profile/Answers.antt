use Rattle.std.proofs.Common.{rules}
use Rattle.krb_scan.proofs.MarkSteps.{nothing_marked}
use Rattle.krb_scan.proofs.scanner.Scanner.with_profile.Goals as goal

pub invariant_of-result : goal.invariant_of-result
invariant_of-result c = record { reached = nothing_marked c.args.profile c.new.result c.new-2.result.items c.args.n c.new.ensures.at (search rules) }
