use Rattle.std.proofs.Common.{Some, Err, ap, sym, ◌∙◌}
use Rattle.json.specs.Value.{value_view}
use Rattle.krb_json.specs.Tickets.{line_octets, value_octets}
use Rattle.krb_json.proofs.ReadMessages.{value-there, no-value}
use Rattle.krb_json.proofs.ReadTickets.{line-octets, line-fault}
use Rattle.krb_json.proofs.ticket_reading.read_line_or_ticket.Goals as goal

pub returns-in-Ok-clause-octets : goal.returns-in-Ok-clause-octets
returns-in-Ok-clause-octets c =
    line-octets (value_octets c.args.profile c.args.limit (Some (value_view c.in-Ok.value))) (line_octets c.args.profile c.args.limit c.args.line.now) c.read_value.result
    (ap (value_octets c.args.profile c.args.limit) (sym (value-there c.args.line.now (value_view c.in-Ok.value) c.in-Ok.ensures.ok.0 c.in-Ok.ensures.ok.1))) c.read_value.ensures

pub returns-in-Ok-clause-fault : goal.returns-in-Ok-clause-fault
returns-in-Ok-clause-fault c =
    line-fault (value_octets c.args.profile c.args.limit (Some (value_view c.in-Ok.value))) (line_octets c.args.profile c.args.limit c.args.line.now) c.read_value.result
    (ap (value_octets c.args.profile c.args.limit) (sym (value-there c.args.line.now (value_view c.in-Ok.value) c.in-Ok.ensures.ok.0 c.in-Ok.ensures.ok.1))) c.read_value.ensures

pub returns-in-Err-Invalid-clause-fault : goal.returns-in-Err-Invalid-clause-fault
returns-in-Err-Invalid-clause-fault c =
    ap (value_octets c.args.profile c.args.limit) (no-value c.args.line.now (c.from_slice.ensures.invalid (c.in-Err-Invalid.is ∙ ap Err c.in-Err-Invalid.field-0-is)))
