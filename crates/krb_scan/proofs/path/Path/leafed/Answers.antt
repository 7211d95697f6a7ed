use Rattle.std.proofs.Common.{subst}
use Rattle.krb_scan.specs.inner.Outcomes.{LeafIs}
use Rattle.krb_scan.proofs.Completing.{leaf_done}
use Rattle.krb_scan.proofs.path.Path.leafed.Goals as goal

pub returns-in-Done-clause-step : goal.returns-in-Done-clause-step
returns-in-Done-clause-step c = λ stack marks outcome term start count octets containers is ends open_still.
    leaf_done c.args.self.now c.close.new.self c.close.result stack marks outcome term start count octets (subst (λ next. LeafIs next outcome) c.in-Done.is is) ends (λ all. c.close.ensures.step stack all containers)
