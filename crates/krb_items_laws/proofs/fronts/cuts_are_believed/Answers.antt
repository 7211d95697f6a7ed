use Rattle.krb_items_laws.proofs.FrontLengths.{cut-frames-are-believed, cut-messages-are-believed, cut-tickets-are-believed}
use Rattle.krb_items_laws.proofs.fronts.cuts_are_believed.Goals as goal

pub returns-clause-message : goal.returns-clause-message
returns-clause-message c = cut-messages-are-believed

pub returns-clause-ticket : goal.returns-clause-ticket
returns-clause-ticket c = cut-tickets-are-believed

pub returns-clause-frame : goal.returns-clause-frame
returns-clause-frame c = cut-frames-are-believed
