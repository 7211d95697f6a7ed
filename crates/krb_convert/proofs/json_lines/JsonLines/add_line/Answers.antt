use Rattle.std.proofs.Common.{◌∷◌, [], ◌++◌, refl, ◌∙◌, ap, arith, append_assoc}
use Rattle.krb_json.specs.Lines.{message_text}
use Rattle.krb_msg.specs.Views.{message_of_der}
use Rattle.krb_convert.proofs.json_lines.JsonLines.add_line.Goals as goal

pub returns : goal.returns
returns c =
    let text = message_text (message_of_der c.args.octets.now) in
    let put = c.in_ok-self.ensures (message_of_der c.args.octets.now) c.requires.message.in_profile c.requires.message.form in
    record {
      text = c.in_ok-push.ensures.items ∙ ap (λ t. t ++ 10 ∷ []) (put ∙ ap (λ l. l.items ++ text) c.replace-lines.ensures.value) ∙ append_assoc c.args.self.now.text.items text (10 ∷ []);
      messages = λ few. omega (arith, few, c.saturating_add-self.ensures);
      few = omega (arith, c.saturating_add-self.ensures);
      same = refl;
    }
