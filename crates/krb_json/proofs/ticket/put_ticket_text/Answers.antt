use Rattle.std.proofs.Common.{◌++◌, ◌∙◌, ap, ap₂}
use Rattle.json.specs.Print.{print}
use Rattle.json.specs.Tree.{json_tokens}
use Rattle.krb_json.specs.Tickets.{ticket_json}
use Rattle.krb_json.proofs.ticket.put_ticket_text.Goals as goal

pub returns : goal.returns
returns c = λ value fits form.
    c.into_inner.ensures.items
    ∙ ap₂ (λ before tokens. before ++ print tokens) (c.in_ok-put_ticket.ensures.before ∙ c.new-out.ensures.before)
    (c.in_ok-put_ticket.ensures.written value fits form ∙ ap (λ tokens. tokens ++ json_tokens (ticket_json value)) c.new-out.ensures.tokens)
