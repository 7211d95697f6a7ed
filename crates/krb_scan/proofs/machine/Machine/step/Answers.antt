use Rattle.std.proofs.Common.{◌++◌, [], ◌∷◌, subst}
use Rattle.krb_msg.specs.Grammar.{messages}
use Rattle.krb_scan.specs.Scanned.{IsScanOf}
use Rattle.krb_scan.proofs.ScannerSteps.{some_path, some_on}
use Rattle.krb_scan.proofs.machine.Machine.step.Goals as goal

pub step-decided-requires : goal.step-decided-requires
step-decided-requires c = some_path c.args.self.now.path c.args.self.now.verdict c.args.self.now.reached c.requires

pub invariant_of-self : goal.invariant_of-self
invariant_of-self c = record { reached = some_on c.args.self.now.path c.step-decided.new.self c.args.self.now.verdict c.step-decided.result (λ octets. octets ++ c.args.octet ∷ []) c.args.self.now.reached c.requires c.step-decided.ensures }

pub returns-clause-at : goal.returns-clause-at
returns-clause-at c = λ profile n octets at. c.step-decided.ensures (messages profile) n octets (subst (λ v. IsScanOf (messages profile) c.args.self.now.path v n octets) c.requires at)
