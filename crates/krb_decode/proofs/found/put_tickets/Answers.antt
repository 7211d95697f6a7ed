use Rattle.std.proofs.Common.{◌-◌, length, refl, sym, ◌∙◌}
use Rattle.krb_msg.specs.Types.{ticket_view_value}
use Rattle.krb_decode.proofs.Findings.{IsFirst, all-added, first-item, none-added, one-added, split-first, ticket-path}
use Rattle.krb_decode.proofs.found.put_tickets.Goals as goal

pub items-init : goal.items-init
items-init c = none-added c.args.origin.now c.args.tickets.octets.now c.args.parts.now c.requires

pub items-preserved : goal.items-preserved
items-preserved c =
    let f = c.in-Some.ensures.0 in
    one-added c.args.origin.now c.args.tickets.octets.now c.items.items.octets.now c.items.index c.args.parts.now c.items.parts c.put_ticket.new.parts (ticket_view_value c.in-Some.ticket) c.in-Some.rest.octets.now c.as_str.result.now c.items.invariant f.items f.viewed f.shorter
    (c.as_str.ensures.value ∙ c.in_ok-path.ensures.ok ∙ ticket-path c.items.index)
    c.in_ok-put_ticket.ensures

pub put_ticket-requires-clause-fits : goal.put_ticket-requires-clause-fits
put_ticket-requires-clause-fits c =
    let f = c.in-Some.ensures.0 in
    let first : IsFirst c.items.items.octets.now (ticket_view_value c.in-Some.ticket) c.in-Some.rest.octets.now = first-item c.items.items.octets.now (ticket_view_value c.in-Some.ticket) c.in-Some.rest.octets.now c.items.invariant.viewed f.items f.viewed in
    first.fits

pub put_ticket-requires-clause-form : goal.put_ticket-requires-clause-form
put_ticket-requires-clause-form c =
    let octets = c.items.items.octets.now in
    let rest = c.in-Some.rest.octets.now in
    let f = c.in-Some.ensures.0 in
    let first : IsFirst octets (ticket_view_value c.in-Some.ticket) rest = first-item octets (ticket_view_value c.in-Some.ticket) rest c.items.invariant.viewed f.items f.viewed in
    sym (c.split_at.ensures.front ∙ split-first octets (ticket_view_value c.in-Some.ticket) rest (length octets - length rest) first refl)

pub returns : goal.returns
returns c = all-added c.args.origin.now c.args.tickets.octets.now c.items.items.octets.now c.items.index c.args.parts.now c.items.parts c.items.invariant c.in_default.ensures
