use Rattle.std.proofs.Common.{[], refl, subst}
use Rattle.std.proofs.lemmas.Result.{on_ok_weaker}
use Rattle.std.specs.Prelude.{codes}
use Rattle.krb_judge.specs.Parses.{ticket_refusal}
use Rattle.krb_tool.proofs.Messages.{not_refused, ticket-read}
use Rattle.krb_decode.specs.Decoded.{decoded_ticket}
use Rattle.krb_decode.specs.inner.Adding.{Adds}
use Rattle.krb_decode.proofs.Findings.{adds-judged, adds-refused, ticket-fits, ticket-form}
use Rattle.krb_decode.proofs.found.put_lone.Goals as goal

pub put_ticket-requires-clause-short : goal.put_ticket-requires-clause-short
put_ticket-requires-clause-short c = c.in-Ok.ensures.ticket.short

pub put_ticket-requires-clause-fits : goal.put_ticket-requires-clause-fits
put_ticket-requires-clause-fits c = ticket-fits c.args.profile c.args.octets.now _ c.in-Ok.ensures.ticket

pub put_ticket-requires-clause-form : goal.put_ticket-requires-clause-form
put_ticket-requires-clause-form c = ticket-form c.args.profile c.args.octets.now _ c.in-Ok.ensures.ticket

pub returns-in-Ok : goal.returns-in-Ok
returns-in-Ok c =
    let refusal = ticket_refusal c.args.profile c.args.octets.now in
    let none = not_refused refusal (λ r e. absurd (let bad = (c.in-Ok.ensures.refused r).1 e in cc)) in
    let read = ticket-read c.args.profile c.args.octets.now _ c.in-Ok.ensures.ticket in
    on_ok_weaker c.put_ticket.result
    (λ adds. adds-judged refusal _ _ _ none (subst (λ t. Adds (decoded_ticket [] (codes "Ticket.enc-part") t) c.args.parts.now c.put_ticket.new.parts) read adds))
    c.put_ticket.ensures

pub returns-in-Err : goal.returns-in-Err
returns-in-Err c = adds-refused (ticket_refusal c.args.profile c.args.octets.now) c.in-Err._refusal _ c.args.parts.now ((c.in-Err.ensures.refused c.in-Err._refusal).0 refl)
