use Rattle.krb_choice_laws.proofs.Ends.{ends-told}
use Rattle.krb_choice_laws.proofs.Lines.{listing-told}
use Rattle.krb_choice_laws.proofs.chosen.listings_are_told.Goals as goal

pub returns-clause-told : goal.returns-clause-told
returns-clause-told c = listing-told

pub returns-clause-ends : goal.returns-clause-ends
returns-clause-ends c = ends-told
