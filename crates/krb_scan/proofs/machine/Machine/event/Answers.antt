use Rattle.std.proofs.Common.{◌++◌, [], ◌∷◌, subst}
use Rattle.krb_msg.specs.Grammar.{messages}
use Rattle.krb_scan.specs.Scan.{scan}
use Rattle.krb_scan.specs.Scanned.{Marks}
use Rattle.krb_scan.specs.inner.Paths.{ChangesTo}
use Rattle.krb_scan.proofs.ScannerSteps.{is_path_of, some_path}
use Rattle.krb_scan.proofs.machine.Machine.event.Goals as goal

pub event-requires : goal.event-requires
event-requires c = some_path c.args.self.now.path c.args.self.now.verdict c.args.self.now.reached c.requires

pub returns : goal.returns
returns c = λ profile n octets at.
    subst (λ k. ChangesTo c.event.result (Marks profile k octets) (scan (messages profile) k (octets ++ c.args.octet ∷ []))) at.size (c.event.ensures (messages profile) octets (is_path_of c.args.self.now.path c.args.self.now.verdict n octets at c.requires))
