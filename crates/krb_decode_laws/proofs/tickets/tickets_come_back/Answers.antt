use Rattle.krb_decode_laws.proofs.TicketTexts.{tickets_come_back}
use Rattle.krb_decode_laws.proofs.tickets.tickets_come_back.Goals as goal

pub returns : goal.returns
returns c = tickets_come_back c.value_of_der_is_value.ensures
