use Rattle.krb_items_laws.proofs.Accepted.{frames-are-covered, messages-are-covered, tickets-are-covered}
use Rattle.krb_items_laws.proofs.items.octets_are_covered.Goals as goal

pub returns-clause-message : goal.returns-clause-message
returns-clause-message c = messages-are-covered

pub returns-clause-ticket : goal.returns-clause-ticket
returns-clause-ticket c = tickets-are-covered

pub returns-clause-frame : goal.returns-clause-frame
returns-clause-frame c = frames-are-covered
