use Rattle.krb_choosing.proofs.Keys.{grown}
use Rattle.krbls.proofs.Chosen.{lists-to}
use Rattle.krbls.proofs.lister.Lister.run_into.Goals as goal

pub returns-clause-given : goal.returns-clause-given
returns-clause-given g c =
    let more = c.run.ensures.written in
    (more.0, (grown _ _ _ _ _ _ _ _ _ _ _ more.1).2, lists-to _ _ _ more.0 c.run.result more.1 c.run.ensures.does)

pub returns-clause-same_writer : goal.returns-clause-same_writer
returns-clause-same_writer g c = (grown _ _ _ _ _ _ _ _ _ _ _ c.run.ensures.written.1).0

pub returns-clause-same_before : goal.returns-clause-same_before
returns-clause-same_before g c = (grown _ _ _ _ _ _ _ _ _ _ _ c.run.ensures.written.1).1.0

pub returns-clause-same_choice : goal.returns-clause-same_choice
returns-clause-same_choice g c = (grown _ _ _ _ _ _ _ _ _ _ _ c.run.ensures.written.1).1.1.0

pub returns-clause-same_goes_on : goal.returns-clause-same_goes_on
returns-clause-same_goes_on g c = (grown _ _ _ _ _ _ _ _ _ _ _ c.run.ensures.written.1).1.1.1
