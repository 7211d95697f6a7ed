use Rattle.std.proofs.Common.{ap, inl, Ok, subst, sym}
use Rattle.krb_der.specs.inner.Numbers.{AreOctets-slice}
use Rattle.krb_judge.specs.Parses.{AreOfTicket}
use Rattle.krb_judge.proofs.Values.{ticket_not_refused}
use Rattle.krb_values.proofs.Parsed.{as_fault, not_refused_here, refused_of_memory, refused_of_value, ticket_fits, same_ticket, no_ticket}
use Rattle.krb_values.proofs.parsing.parse_ticket_in.Goals as goal

pub from_view-requires : goal.from_view-requires
from_view-requires c = (ticket_fits c.args.profile c.in-Ok.ticket c.in-Ok.ensures.lists c.in-Ok.ensures.ticket, c.in-Ok.ensures.lists)

pub returns-in_err-from_view-in-Ok-clause-refused : goal.returns-in_err-from_view-in-Ok-clause-refused
returns-in_err-from_view-in-Ok-clause-refused c = refused_of_memory c.from_residual.result c.from_residual.ensures.1 (ticket_not_refused c.args.profile _ c.in-Ok.ensures.ticket)

pub returns-in_ok-from_view-in-Ok-clause-refused : goal.returns-in_ok-from_view-in-Ok-clause-refused
returns-in_ok-from_view-in-Ok-clause-refused c = refused_of_value c.in_ok-from_view-in-Ok.field-0 (ticket_not_refused c.args.profile _ c.in-Ok.ensures.ticket)

pub returns-in_err-from_view-in-Ok-clause-none : goal.returns-in_err-from_view-in-Ok-clause-none
returns-in_err-from_view-in-Ok-clause-none c = no_ticket c.args.profile c.args.octets.now (AreOctets-slice c.args.octets.now c.type_inv.octets)

pub returns-in_ok-from_view-in-Ok-clause-ticket : goal.returns-in_ok-from_view-in-Ok-clause-ticket
returns-in_ok-from_view-in-Ok-clause-ticket c = subst (AreOfTicket c.args.profile c.args.octets.now) (sym c.in_ok-from_view-in-Ok.ensures) c.in-Ok.ensures.ticket

pub returns-in_ok-from_view-in-Ok-clause-found : goal.returns-in_ok-from_view-in-Ok-clause-found
returns-in_ok-from_view-in-Ok-clause-found c =
    let are = subst (AreOfTicket c.args.profile c.args.octets.now) (sym c.in_ok-from_view-in-Ok.ensures) c.in-Ok.ensures.ticket in
    λ t a. inl (ap Ok (same_ticket c.args.profile c.in_ok-from_view-in-Ok.field-0 t are a))

pub returns-in_ok-from_view-in-Ok-clause-none : goal.returns-in_ok-from_view-in-Ok-clause-none
returns-in_ok-from_view-in-Ok-clause-none c = no_ticket c.args.profile c.args.octets.now (AreOctets-slice c.args.octets.now c.type_inv.octets)

pub returns-in-Err-clause-found : goal.returns-in-Err-clause-found
returns-in-Err-clause-found c = λ t a. not_refused_here c.in-Err.refusal c.in-Err.ensures.refused (ticket_not_refused c.args.profile t a)

pub returns-in-Err-clause-refused : goal.returns-in-Err-clause-refused
returns-in-Err-clause-refused c = as_fault c.in-Err.refusal c.in-Err.ensures.refused

pub returns-in-Err-clause-none : goal.returns-in-Err-clause-none
returns-in-Err-clause-none c = no_ticket c.args.profile c.args.octets.now (AreOctets-slice c.args.octets.now c.type_inv.octets)
