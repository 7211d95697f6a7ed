use Rattle.std.proofs.Common.{sym, ◌∙◌, ap, subst}
use Rattle.std.proofs.lemmas.Result.{on_ok_weaker}
use Rattle.std.specs.Option.{option_map}
use Rattle.std.specs.Prelude.{Some, string_bytes}
use Rattle.krb_decode.specs.Decoded.{message_by}
use Rattle.krb_decode.specs.inner.Adding.{Adds}
use Rattle.krb_decode.proofs.parts.Parts.put_message.Goals as goal

pub returns-in-Some : goal.returns-in-Some
returns-in-Some c =
    on_ok_weaker c.put_unencrypted.result
    (λ adds m in_profile form.
    let found = c.in_ok-path.ensures m in_profile form ∙ ap (option_map string_bytes) c.in-Some.is ∙ ap Some (sym c.as_str.ensures.value) in
    subst (λ u. Adds (message_by u c.args.origin.now m) c.args.self.now c.put_unencrypted.new.self) (sym found) adds)
    c.put_unencrypted.ensures

pub returns-in-None : goal.returns-in-None
returns-in-None c =
    on_ok_weaker c.put_line.result
    (λ adds m in_profile form.
    let found = c.in_ok-path.ensures m in_profile form ∙ ap (option_map string_bytes) c.in-None.is in
    subst (λ u. Adds (message_by u c.args.origin.now m) c.args.self.now c.put_line.new.self) (sym found) (adds m in_profile form))
    c.put_line.ensures
