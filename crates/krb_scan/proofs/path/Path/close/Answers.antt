use Rattle.std.proofs.Common.{◌+◌, sym, subst}
use Rattle.krb_scan.specs.State.{AreOpen}
use Rattle.krb_scan.specs.inner.Machine.{settle}
use Rattle.krb_scan.specs.inner.Outcomes.{HasContainers, StaysOpen}
use Rattle.krb_scan.proofs.Completing.{stays, whole}
use Rattle.krb_scan.proofs.path.Path.close.Goals as goal

pub closing-requires : goal.closing-requires
closing-requires c = subst (HasContainers c.args.self.now.inner) (sym c.as_slice.ensures.value) c.requires.containers

pub returns-in-Stays-clause-step : goal.returns-in-Stays-clause-step
returns-in-Stays-clause-step c = λ stack marks containers.
    stays c.args.self.now c.close_to.new.self c.in-Stays.inner c.in-Stays.outer marks _
    (subst (λ items. StaysOpen items marks (c.args.self.now.looked + 1) c.in-Stays.inner c.in-Stays.outer (settle stack marks (c.args.self.now.looked + 1))) c.as_slice.ensures.value
    (c.in-Stays.ensures stack marks (subst (λ items. AreOpen c.args.self.now.inner items stack) (sym c.as_slice.ensures.value) containers)))
    c.close_to.ensures

pub returns-in-Whole-clause-step : goal.returns-in-Whole-clause-step
returns-in-Whole-clause-step c = λ stack marks containers.
    whole c.args.self.now c.close_all.new.self marks _ (c.in-Whole.ensures stack marks (subst (λ items. AreOpen c.args.self.now.inner items stack) (sym c.as_slice.ensures.value) containers)) c.close_all.ensures
