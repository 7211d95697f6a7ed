use Rattle.krb_items_laws.proofs.MaskedItems.{masked-frames, masked-messages, masked-tickets}
use Rattle.krb_items_laws.proofs.masked.masked_octets_are_in_no_record.Goals as goal

pub returns-clause-message : goal.returns-clause-message
returns-clause-message c = masked-messages c.octets_are_covered.ensures.message

pub returns-clause-ticket : goal.returns-clause-ticket
returns-clause-ticket c = masked-tickets c.octets_are_covered.ensures.ticket

pub returns-clause-frame : goal.returns-clause-frame
returns-clause-frame c = masked-frames c.octets_are_covered.ensures.frame
