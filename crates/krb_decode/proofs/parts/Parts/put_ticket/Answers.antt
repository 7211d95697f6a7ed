use Rattle.std.proofs.Common.{◌∷◌, [], ◌++◌, sym, ◌∙◌, ap, append-nil, append_assoc}
use Rattle.krb_json.specs.Tickets.{ticket_text}
use Rattle.krb_decode.proofs.parts.Parts.put_ticket.Goals as goal

pub returns : goal.returns
returns c = λ value fits form.
    let text = ticket_text value in
    let put = c.in_ok-self.ensures value fits form in
    record {
      lines = c.in_ok-push.ensures.items ∙ ap (λ t. t ++ 10 ∷ []) (put ∙ ap (λ l. l.items ++ text) c.replace-lines.ensures.value) ∙ append_assoc c.args.self.now.lines.items text (10 ∷ []);
      said = sym (append-nil c.args.self.now.said);
    }
