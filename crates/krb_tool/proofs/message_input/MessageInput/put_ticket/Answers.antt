use Rattle.std.proofs.Common.{refl, subst}
use Rattle.std.specs.Prelude.{IfOk, string_bytes}
use Rattle.std.specs.Option.{option_map}
use Rattle.krb_judge.specs.Parses.{ticket_refusal}
use Rattle.krb_tool.specs.Messages.{OneRecord, Puts, layered_of}
use Rattle.krb_tool.proofs.Messages.{not_refused, puts-ticket, refused-ticket, ticket-read}
use Rattle.krb_tool.proofs.message_input.MessageInput.put_ticket.Goals as goal

pub returns-in_ok-put_ticket-in-Ok-clause-put : goal.returns-in_ok-put_ticket-in-Ok-clause-put
returns-in_ok-put_ticket-in-Ok-clause-put c =
    puts-ticket c.args.self.now (layered_of c.args.layered.now) _ _ _ _ _ c.origin.ensures.line c.origin.ensures.layers (not_refused (ticket_refusal c.args.self.now.profile c.args.layered.now.all.now) (λ r e. absurd (let bad = (c.in-Ok.ensures.refused r).1 e in cc))) (ticket-read c.args.self.now.profile c.args.layered.now.all.now _ c.in-Ok.ensures.ticket) c.in_ok-put_ticket-in-Ok.ensures

pub returns-in_ok-path-in-Err-clause-put : goal.returns-in_ok-path-in-Err-clause-put
returns-in_ok-path-in-Err-clause-put c =
    subst (λ (listing : OneRecord). IfOk c.put_refusal.result (Puts c.args.self.now.form c.args.text.now c.put_refusal.new.text listing))
    (refused-ticket c.args.self.now (layered_of c.args.layered.now) c.in-Err.refusal (option_map string_bytes c.in_ok-path-in-Err.path)
    ((c.in-Err.ensures.refused c.in-Err.refusal).0 refl) c.in_ok-path-in-Err.ensures.path)
    c.put_refusal.ensures.put
