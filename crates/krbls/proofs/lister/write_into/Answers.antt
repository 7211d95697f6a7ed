use Rattle.krb_choosing.proofs.Keys.{grown}
use Rattle.krb_choosing.proofs.Writes.{map-ok}
use Rattle.krbls.proofs.Chosen.{given-part}
use Rattle.krbls.proofs.lister.write_into.Goals as goal

pub returns-clause-all : goal.returns-clause-all
returns-clause-all g c = map-ok c.write_all.result (λ e. (grown _ _ _ _ _ _ _ _ _ _ _ e).2) c.write_all.ensures.all

pub returns-clause-prefix : goal.returns-clause-prefix
returns-clause-prefix g c = let p = given-part c.write_all.result _ _ _ c.write_all.ensures.all c.write_all.ensures.prefix in (p.prefix, p.rest, (grown _ _ _ _ _ _ _ _ _ _ _ p.added).2, p.whole)

pub returns-clause-same_writer : goal.returns-clause-same_writer
returns-clause-same_writer g c = let p = given-part c.write_all.result _ _ _ c.write_all.ensures.all c.write_all.ensures.prefix in (grown _ _ _ _ _ _ _ _ _ _ _ p.added).0

pub returns-clause-same_before : goal.returns-clause-same_before
returns-clause-same_before g c = let p = given-part c.write_all.result _ _ _ c.write_all.ensures.all c.write_all.ensures.prefix in (grown _ _ _ _ _ _ _ _ _ _ _ p.added).1.0

pub returns-clause-same_choice : goal.returns-clause-same_choice
returns-clause-same_choice g c = let p = given-part c.write_all.result _ _ _ c.write_all.ensures.all c.write_all.ensures.prefix in (grown _ _ _ _ _ _ _ _ _ _ _ p.added).1.1.0

pub returns-clause-same_goes_on : goal.returns-clause-same_goes_on
returns-clause-same_goes_on g c = let p = given-part c.write_all.result _ _ _ c.write_all.ensures.all c.write_all.ensures.prefix in (grown _ _ _ _ _ _ _ _ _ _ _ p.added).1.1.1
