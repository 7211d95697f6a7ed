-- asn1/generate wrote this from asn1/krb5.asn1
use Rattle.krb_msg.specs.Grammar.{ticket}
use Rattle.krb_codec.proofs.Puts.{sized}
use Rattle.krb_codec.proofs.ticket.TicketItem.size.Goals as goal

pub returns : goal.returns
returns c = sized ticket c.layout.ensures c.size.ensures
