use Rattle.std.proofs.Common.{refl, sym, ◌∙◌, ap, subst}
use Rattle.std.proofs.lemmas.Result.{on_ok_weaker}
use Rattle.std.specs.Option.{option_map}
use Rattle.std.specs.Prelude.{Some, string_bytes}
use Rattle.krb_msg.specs.Views.{message_of_der}
use Rattle.krb_convert.specs.inner.JsonLines.{PutsBy}
use Rattle.krb_convert.proofs.json_lines.JsonLines.put_message.Goals as goal

pub returns-in-Some : goal.returns-in-Some
returns-in-Some c =
    let found = c.in_ok-path.ensures (message_of_der c.args.octets.now) c.requires.message.in_profile c.requires.message.form ∙ ap (option_map string_bytes) c.in-Some.is in
    let old = c.args.self.now in
    subst (λ u. PutsBy u c.args.octets.now old (record old { unencrypted = Some c.in-Some.path })) (sym found) (record { kept = refl; text = refl; messages = refl })

pub returns-in-None : goal.returns-in-None
returns-in-None c =
    let found = c.in_ok-path.ensures (message_of_der c.args.octets.now) c.requires.message.in_profile c.requires.message.form ∙ ap (option_map string_bytes) c.in-None.is in
    on_ok_weaker c.add_line.result (subst (λ u. PutsBy u c.args.octets.now c.args.self.now c.add_line.new.self) (sym found)) c.add_line.ensures
