use Rattle.std.proofs.Common.{subst}
use Rattle.krb_msg.specs.Grammar.{messages}
use Rattle.krb_scan.specs.Scanned.{IsScanOf}
use Rattle.krb_scan.proofs.ScannerSteps.{some_path, some_unchanged, unchanged_at}
use Rattle.krb_scan.proofs.machine.Machine.peek.Goals as goal

pub step-requires : goal.step-requires
step-requires c = some_path c.copy.result c.args.self.now.verdict (some_unchanged c.args.self.now.path c.copy.result c.args.self.now.verdict c.args.self.now.reached c.copy.ensures.unchanged c.copy.ensures.same.0 c.copy.ensures.same.1) c.requires

pub returns : goal.returns
returns c = λ profile n octets at.
    let there : IsScanOf (messages profile) c.copy.result c.args.self.now.verdict n octets = unchanged_at c.args.self.now.path c.copy.result c.args.self.now.verdict n octets at c.copy.ensures.unchanged c.copy.ensures.same.0 c.copy.ensures.same.1 in
    (c.step.ensures (messages profile) n octets (subst (λ v. IsScanOf (messages profile) c.copy.result v n octets) c.requires there)).decides
