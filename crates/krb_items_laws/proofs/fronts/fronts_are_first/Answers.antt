use Rattle.krb_items_laws.proofs.FrontMessages.{frame-fronts-are-first, message-fronts-are-first, ticket-fronts-are-first}
use Rattle.krb_items_laws.proofs.fronts.fronts_are_first.Goals as goal

pub returns-clause-message : goal.returns-clause-message
returns-clause-message c = message-fronts-are-first

pub returns-clause-ticket : goal.returns-clause-ticket
returns-clause-ticket c = ticket-fronts-are-first

pub returns-clause-frame : goal.returns-clause-frame
returns-clause-frame c = frame-fronts-are-first
