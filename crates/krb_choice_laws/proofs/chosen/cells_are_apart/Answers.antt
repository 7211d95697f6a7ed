use Rattle.krb_choice_laws.proofs.Decoded.{files-apart, strings-apart, strings-there}
use Rattle.krb_choice_laws.proofs.Lists.{number-apart, number-lists-apart, string-lists-apart}
use Rattle.krb_choice_laws.proofs.chosen.cells_are_apart.Goals as goal

pub returns-clause-strings : goal.returns-clause-strings
returns-clause-strings c = strings-apart

pub returns-clause-string_lists : goal.returns-clause-string_lists
returns-clause-string_lists c = string-lists-apart

pub returns-clause-names : goal.returns-clause-names
returns-clause-names c = files-apart

pub returns-clause-there : goal.returns-clause-there
returns-clause-there c = strings-there

pub returns-clause-numbers : goal.returns-clause-numbers
returns-clause-numbers c = number-apart

pub returns-clause-number_lists : goal.returns-clause-number_lists
returns-clause-number_lists c = number-lists-apart
