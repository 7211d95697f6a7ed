use Rattle.krb_choice_laws.proofs.MessagesPlain.{captured-plain, from-plain}
use Rattle.krb_choice_laws.proofs.MessagesListed.{captured-whole, listed-captured, listed-plain, listed-whole}
use Rattle.krb_choice_laws.proofs.chosen.messages_are_plain.Goals as goal

pub returns-clause-message : goal.returns-clause-message
returns-clause-message c = from-plain

pub returns-clause-capture : goal.returns-clause-capture
returns-clause-capture c = captured-plain

pub returns-clause-listed : goal.returns-clause-listed
returns-clause-listed c = record { message = listed-plain; capture = listed-captured }

pub returns-clause-whole : goal.returns-clause-whole
returns-clause-whole c = record { message = listed-whole; capture = captured-whole }
