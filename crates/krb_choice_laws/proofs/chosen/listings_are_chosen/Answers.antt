use Rattle.krb_choice_laws.proofs.AllKinds.{all-listed}
use Rattle.krb_choice_laws.proofs.Lines.{listing-chosen}
use Rattle.krb_choice_laws.proofs.chosen.listings_are_chosen.Goals as goal

pub returns-clause-each : goal.returns-clause-each
returns-clause-each c = listing-chosen

pub returns-clause-all : goal.returns-clause-all
returns-clause-all c = all-listed
