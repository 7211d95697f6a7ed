use Rattle.krb_record.specs.Forms.{cell}
use Rattle.krb_record.specs.TicketFlags.{eight_hex}
use Rattle.krb_record.proofs.ticket_flags.TicketFlagsShown.put_cell.Goals as goal

pub returns-in-Bits : goal.returns-in-Bits
unfolding cell
returns-in-Bits c = rw c.in-Bits.is c.push_number.ensures

pub returns-in-Hex : goal.returns-in-Hex
unfolding cell eight_hex
returns-in-Hex c = rw c.in-Hex.is c.put_eight_hex.ensures
