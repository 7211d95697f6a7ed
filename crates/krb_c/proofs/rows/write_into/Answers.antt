use Rattle.krb_choosing.proofs.Keys.{grown}
use Rattle.krb_choosing.proofs.Writes.{map-ok}
use Rattle.krb_c.proofs.rows.write_into.Goals as goal

pub returns-clause-all : goal.returns-clause-all
returns-clause-all g c = map-ok c.write_all.result (λ e. (grown _ _ _ _ _ _ _ _ _ _ _ e).2) c.write_all.ensures.all

pub returns-clause-same_writer : goal.returns-clause-same_writer
returns-clause-same_writer g c = map-ok c.write_all.result (λ e. (grown _ _ _ _ _ _ _ _ _ _ _ e).0) c.write_all.ensures.all

pub returns-clause-same_before : goal.returns-clause-same_before
returns-clause-same_before g c = map-ok c.write_all.result (λ e. (grown _ _ _ _ _ _ _ _ _ _ _ e).1.0) c.write_all.ensures.all

pub returns-clause-same_choice : goal.returns-clause-same_choice
returns-clause-same_choice g c = map-ok c.write_all.result (λ e. (grown _ _ _ _ _ _ _ _ _ _ _ e).1.1.0) c.write_all.ensures.all

pub returns-clause-same_goes_on : goal.returns-clause-same_goes_on
returns-clause-same_goes_on g c = map-ok c.write_all.result (λ e. (grown _ _ _ _ _ _ _ _ _ _ _ e).1.1.1) c.write_all.ensures.all
