use Rattle.krb_choice_laws.proofs.KeptKinds.{all-kept, kept-shown}
use Rattle.krb_choice_laws.proofs.chosen.kinds_are_kept.Goals as goal

pub returns-clause-shown : goal.returns-clause-shown
returns-clause-shown c = kept-shown

pub returns-clause-all : goal.returns-clause-all
returns-clause-all c = all-kept
