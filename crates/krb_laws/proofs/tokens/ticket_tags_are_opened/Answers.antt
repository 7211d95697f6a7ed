use Rattle.krb_laws.proofs.TokenTickets.{ticket_tags_are_opened}
use Rattle.krb_laws.proofs.tokens.ticket_tags_are_opened.Goals as goal

pub returns : goal.returns
returns c = ticket_tags_are_opened
