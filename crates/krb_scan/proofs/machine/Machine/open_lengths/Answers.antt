use Rattle.std.proofs.Common.{◌+◌, ◌≤◌, length, ap, sym, ◌∙◌, subst}
use Rattle.krb_scan.specs.State.{lengths_at}
use Rattle.krb_scan.proofs.ScannerSteps.{lengths_few}
use Rattle.krb_scan.proofs.machine.Machine.open_lengths.Goals as goal

pub returns-in-Leaf-clause-few : goal.returns-in-Leaf-clause-few
returns-in-Leaf-clause-few c =
    subst (λ count. count ≤ 13) (ap (λ tip. lengths_at tip (length c.args.self.now.path.outer.items)) c.in-Leaf.is ∙ ap (λ count. count + 1) (sym c.len.ensures.value))
    (lengths_few c.args.self.now.path c.args.self.now.verdict c.args.self.now.reached)
