use Rattle.std.proofs.Common.{◌≡◌, length, Option, Some, None, OnOk, refl, sym, subst}
use Rattle.krb_der.specs.declared.verdict.Refusal.{Refusal}
use Rattle.krb_judge.specs.Parses.{ticket_refusal}
use Rattle.krb_tool.proofs.Messages.{not_refused}
use Rattle.krb_c.specs.Spans.{unless_refused}
use Rattle.krb_c.specs.inner.Adding.{Adds}
use Rattle.krb_c.proofs.spans.put_ticket.Goals as goal

pub returns-in-Ok : goal.returns-in-Ok
returns-in-Ok c =
    let refusal = ticket_refusal c.args.profile c.args.octets.now in
    let none : refusal ≡ None = not_refused refusal (λ r e. absurd (let bad = (c.in-Ok.ensures.refused r).1 e in cc)) in
    subst (λ (r : Option Refusal). OnOk c.put.result (Adds (unless_refused r 0 (length c.args.octets.now) (length c.args.octets.now)) c.args.spans.now c.put.new.self)) (sym none) c.put.ensures

pub returns-in-Err : goal.returns-in-Err
returns-in-Err c =
    let is : ticket_refusal c.args.profile c.args.octets.now ≡ Some c.in-Err._refusal = (c.in-Err.ensures.refused c.in-Err._refusal).0 refl in
    subst (λ (r : Option Refusal). OnOk c.put_refused.result (Adds (unless_refused r 0 (length c.args.octets.now) (length c.args.octets.now)) c.args.spans.now c.put_refused.new.self)) (sym is) c.put_refused.ensures
