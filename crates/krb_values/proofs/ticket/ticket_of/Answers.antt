use Rattle.std.proofs.Common.{◌≡◌, ◌≢◌, false, [], rules}
use Rattle.krb_ccache.specs.Spelling.{is_config}
use Rattle.krb_ccache.proofs.Tickets.{state-ticket, state-refused}
use Rattle.krb_values.proofs.Tickets.{refused-by, whole-by, state-whole}
use Rattle.krb_values.proofs.ticket.ticket_of.Goals as goal

pub returns-in-Ok-clause-state : goal.returns-in-Ok-clause-state
returns-in-Ok-clause-state c =
    let no_config : is_config c.args.credential.now ≡ false = search rules in
    let some : c.args.credential.now.ticket ≢ [] = search rules in
    state-ticket c.args.credential.now c.in-Ok.ticket no_config some (rw c.as_slice-octets.ensures at c.in-Ok.ensures.ticket)

pub returns-in-Err-Refused-clause-state : goal.returns-in-Err-Refused-clause-state
returns-in-Err-Refused-clause-state c =
    let no_config : is_config c.args.credential.now ≡ false = search rules in
    let some : c.args.credential.now.ticket ≢ [] = search rules in
    let e = rw (c.in-Err-Refused.field-0-is, c.as_slice-octets.ensures) at c.in-Err-Refused.ensures.refused in
    state-refused c.args.credential.now c.in-Err-Refused.refusal no_config some (refused-by c.args.credential.now.ticket c.in-Err-Refused.refusal e)

pub returns-in-Err-Memory-clause-memory : goal.returns-in-Err-Memory-clause-memory
returns-in-Err-Memory-clause-memory c =
    let no_config : is_config c.args.credential.now ≡ false = search rules in
    let some : c.args.credential.now.ticket ≢ [] = search rules in
    let e = rw (c.in-Err-Memory.field-0-is, c.as_slice-octets.ensures) at c.in-Err-Memory.ensures.refused in
    state-whole c.args.credential.now no_config some (whole-by c.args.credential.now.ticket e)
