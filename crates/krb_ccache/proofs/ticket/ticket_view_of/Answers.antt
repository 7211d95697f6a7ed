use Rattle.std.proofs.Common.{◌≡◌, ◌≢◌, false, [], refl, rules}
use Rattle.krb_msg.specs.Types.{ticket_of_view}
use Rattle.krb_ccache.specs.Spelling.{is_config}
use Rattle.krb_ccache.proofs.Tickets.{state-ticket, state-refused}
use Rattle.krb_ccache.proofs.ticket.ticket_view_of.Goals as goal

pub returns-in-Ok-clause-state : goal.returns-in-Ok-clause-state
returns-in-Ok-clause-state c =
    let no_config : is_config c.args.credential.now ≡ false = search rules in
    let some : c.args.credential.now.ticket ≢ [] = search rules in
    state-ticket c.args.credential.now (ticket_of_view c.in-Ok.ticket) no_config some (rw c.as_slice-octets.ensures at c.in-Ok.ensures.ticket)

pub returns-in-Err-clause-state : goal.returns-in-Err-clause-state
returns-in-Err-clause-state c =
    let no_config : is_config c.args.credential.now ≡ false = search rules in
    let some : c.args.credential.now.ticket ≢ [] = search rules in
    state-refused c.args.credential.now c.in-Err.refusal no_config some ((rw c.as_slice-octets.ensures at c.in-Err.ensures.refused c.in-Err.refusal).0 refl)
