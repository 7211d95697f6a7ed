use Rattle.std.proofs.Common.{sym, refl, ap}
use Rattle.krb_der.specs.declared.profile.Profile.TheVariants as profile
use Rattle.krb_judge.specs.Parses.{ticket_refusal}
use Rattle.krb_tool.proofs.Messages.{not_refused, ticket-read}
use Rattle.krb_decode.specs.Caches.{decoded_field}
use Rattle.krb_decode.proofs.CacheRuns.{field-refused, field-ticket, no-octet, some-octet}
use Rattle.krb_decode.proofs.Findings.{adds-as, ticket-fits, ticket-form}
use Rattle.krb_decode.proofs.credential.put_field.Goals as goal

pub returns-then-is_empty : goal.returns-then-is_empty
returns-then-is_empty c = adds-as c.put_absent.result _ _ _ _ (ap (decoded_field c.args.origin.now) (sym (no-octet c.args.octets.now c.is_empty.result c.is_empty.ensures c.if-is_empty.true))) c.put_absent.ensures

pub put_ticket-requires-clause-short : goal.put_ticket-requires-clause-short
put_ticket-requires-clause-short c = c.in-Ok.ensures.ticket.short

pub put_ticket-requires-clause-fits : goal.put_ticket-requires-clause-fits
put_ticket-requires-clause-fits c = ticket-fits profile.Lenient c.args.octets.now _ c.in-Ok.ensures.ticket

pub put_ticket-requires-clause-form : goal.put_ticket-requires-clause-form
put_ticket-requires-clause-form c = ticket-form profile.Lenient c.args.octets.now _ c.in-Ok.ensures.ticket

pub returns-in-Ok : goal.returns-in-Ok
returns-in-Ok c =
    let refusal = ticket_refusal profile.Lenient c.args.octets.now in
    let none = not_refused refusal (λ r e. absurd (let bad = (c.in-Ok.ensures.refused r).1 e in cc)) in
    field-ticket c.put_ticket.result c.args.origin.now c.args.octets.now _ _ _ (some-octet c.args.octets.now c.is_empty.result c.is_empty.ensures c.if-is_empty.false) none (ticket-read profile.Lenient c.args.octets.now _ c.in-Ok.ensures.ticket) c.put_ticket.ensures

pub returns-in-Err : goal.returns-in-Err
returns-in-Err c =
    field-refused c.put_refused.result c.args.origin.now c.args.octets.now c.in-Err.refusal _ _ (some-octet c.args.octets.now c.is_empty.result c.is_empty.ensures c.if-is_empty.false) ((c.in-Err.ensures.refused c.in-Err.refusal).0 refl) c.put_refused.ensures
