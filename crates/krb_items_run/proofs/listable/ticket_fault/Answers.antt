use Rattle.std.proofs.Common.{refl, sym}
use Rattle.krb_judge.specs.Parses.{ticket_refusal}
use Rattle.krb_tool.proofs.Messages.{not_refused}
use Rattle.krb_items_run.proofs.listable.ticket_fault.Goals as goal

pub returns-in-Ok : goal.returns-in-Ok
returns-in-Ok c = sym (not_refused (ticket_refusal c.args.profile c.args.octets.now) (λ r e. absurd (let bad = (c.in-Ok.ensures.refused r).1 e in cc)))

pub returns-in-Err : goal.returns-in-Err
returns-in-Err c = sym ((c.in-Err.ensures.refused c.in-Err.refusal).0 refl)
