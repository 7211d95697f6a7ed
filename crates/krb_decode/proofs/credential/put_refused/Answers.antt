use Rattle.std.proofs.Common.{◌++◌, sym, ◌∙◌, ap₂, append-nil, append_assoc}
use Rattle.krb_der.specs.declared.profile.Profile.TheVariants as profile
use Rattle.krb_record.specs.Refusals.{untold_message_refused_line}
use Rattle.krb_record.specs.declared.form.Form.TheVariants as form
use Rattle.krb_tool.specs.Paths.{ticket_refused_path}
use Rattle.krb_decode.proofs.credential.put_refused.Goals as goal

pub returns : goal.returns
returns c =
    let old = c.args.parts.now in
    let line = untold_message_refused_line form.NamedLines c.args.refusal in
    record {
      lines = sym (append-nil old.lines.items);
      said =
          c.in_ok-put_untold_message_refusal.ensures
          ∙ ap₂ (λ t p. t ++ line p) c.in_ok-push_str.ensures (c.as_deref.ensures.value ∙ c.in_ok-path.ensures)
          ∙ append_assoc old.said c.args.origin.now (line (ticket_refused_path profile.Lenient c.args.octets.now c.args.refusal));
    }
