use Rattle.std.proofs.Common.{ap}
use Rattle.krb_choice.specs.Wanted.{choice_form}
use Rattle.krb_choosing.specs.Listings.{chosen_listing}
use Rattle.krb_text_laws.proofs.ListMasks.{same_cache, same_keytab}
use Rattle.krb_text_laws.proofs.TextMasks.{captured-same, line_from-same}
use Rattle.krb_choice_laws.proofs.chosen.keys_are_not_chosen.Goals as goal

pub returns-clause-message : goal.returns-clause-message
returns-clause-message c = λ choice goes_on origin m. ap (chosen_listing choice goes_on) (line_from-same (choice_form choice) origin m)

pub returns-clause-capture : goal.returns-clause-capture
returns-clause-capture c = λ choice goes_on origin m. ap (chosen_listing choice goes_on) (captured-same (choice_form choice) origin m)

pub returns-clause-keytab : goal.returns-clause-keytab
returns-clause-keytab c = λ choice goes_on v. ap (chosen_listing choice goes_on) (same_keytab (choice_form choice) v)

pub returns-clause-cache : goal.returns-clause-cache
returns-clause-cache c = λ choice goes_on now v. ap (chosen_listing choice goes_on) (same_cache (choice_form choice) now v)
