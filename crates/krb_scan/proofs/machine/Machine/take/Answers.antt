use Rattle.std.proofs.Common.{◌++◌, subst, take}
use Rattle.krb_msg.specs.Grammar.{messages}
use Rattle.krb_scan.specs.Scanned.{IsScanOf}
use Rattle.krb_scan.proofs.ScannerSteps.{some_path, some_on}
use Rattle.krb_scan.proofs.machine.Machine.take.Goals as goal

pub scan-used-requires : goal.scan-used-requires
scan-used-requires c = some_path c.args.self.now.path c.args.self.now.verdict c.args.self.now.reached c.requires

pub invariant_of-self : goal.invariant_of-self
invariant_of-self c = record { reached = some_on c.args.self.now.path c.scan-used.new.self c.args.self.now.verdict c.scan-used.result.1 (λ before. before ++ take c.scan-used.result.0 c.args.octets.now) c.args.self.now.reached c.requires c.scan-used.ensures.at }

pub returns-clause-at : goal.returns-clause-at
returns-clause-at c = λ profile n before at. c.scan-used.ensures.at (messages profile) n before (subst (λ v. IsScanOf (messages profile) c.args.self.now.path v n before) c.requires at)

pub returns-clause-sooner : goal.returns-clause-sooner
returns-clause-sooner c = λ profile n before k at. c.scan-used.ensures.sooner (messages profile) n before k (subst (λ v. IsScanOf (messages profile) c.args.self.now.path v n before) c.requires at)
