use Rattle.std.proofs.Common.{arith}
use Rattle.krb_decode.proofs.Findings.{adds-as, adds-nothing, decoded-long, decoded-opened}
use Rattle.krb_decode.proofs.found.put_octets.Goals as goal

pub returns-in-Message : goal.returns-in-Message
returns-in-Message c = adds-as c.put_part.result _ _ _ _ (decoded-opened c.args.profile c.args.octets.now c.open-opened.result _ (omega arith) c.open-opened.ensures.opened c.in-Message.is) c.put_part.ensures

pub returns-in-Ticket : goal.returns-in-Ticket
returns-in-Ticket c = adds-as c.put_lone.result _ _ _ _ (decoded-opened c.args.profile c.args.octets.now c.open-opened.result _ (omega arith) c.open-opened.ensures.opened c.in-Ticket.is) c.put_lone.ensures
