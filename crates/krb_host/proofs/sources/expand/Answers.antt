use Rattle.std.proofs.lemmas.List.{nil_from_length}
use Rattle.krb_host.proofs.Stand.{Grows-end, Grows-on}
use Rattle.krb_host.proofs.sources.expand.Goals as goal

pub given-preserved : goal.given-preserved
given-preserved g c = Grows-on _ _ _ _ _ _ _ _ _ _ c.given.invariant c.in-Some.ensures.cases.0 c.in_ok-put_source.ensures c.max-status.ensures

pub returns : goal.returns
returns g c = Grows-end _ _ _ _ _ c.given.invariant (nil_from_length _ c.in_default.ensures.cases)
