use Rattle.std.proofs.Common.{sym, subst}
use Rattle.std.proofs.lemmas.Result.{on_ok_weaker}
use Rattle.krb_msg.specs.ViewValues.{IsMessageView, message_of_view}
use Rattle.krb_msg.specs.declared.message_view.MessageView.{MessageView}
use Rattle.krb_decode.specs.Decoded.{Added, decoded_found}
use Rattle.krb_decode.specs.inner.Adding.{Adds}
use Rattle.krb_decode.proofs.Findings.{adds-as, other-found}
use Rattle.krb_decode.proofs.found.put_message.Goals as goal

pub put_credentials-requires-clause-view : goal.put_credentials-requires-clause-view
put_credentials-requires-clause-view c = subst (IsMessageView c.args.octets.now) c.in-KrbCred.is c.requires.view

pub returns-in-KrbCred : goal.returns-in-KrbCred
returns-in-KrbCred c = adds-as c.put_credentials.result _ _ _ _ (λ i. decoded_found c.args.origin.now (message_of_view (sym c.in-KrbCred.is i))) c.put_credentials.ensures

pub returns-in_default : goal.returns-in_default
returns-in_default c =
    on_ok_weaker c.put_message.result
    (λ adds.
    subst (λ (a : Added). Adds a c.args.parts.now c.put_message.new.self) (sym (other-found c.args.origin.now c.args.message.now c.in_default.not-KrbCred))
    (adds (message_of_view c.args.message.now) c.requires.view.in_profile c.requires.view.form))
    c.put_message.ensures
