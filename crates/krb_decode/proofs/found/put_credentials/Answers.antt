use Rattle.std.proofs.Common.{ℕ, Bool, false, true, if◌then◌else◌, codes, sym, subst, ◌∙◌}
use Rattle.std.proofs.lemmas.Result.{on_ok_weaker}
use Rattle.krb_msg.specs.ViewValues.{message_of_view}
use Rattle.krb_msg.specs.Types.{krb_cred_of_view}
use Rattle.krb_msg.specs.declared.message_view.MessageView.TheVariants as view
use Rattle.krb_decode.specs.Decoded.{Added, both, decoded_message, decoded_tickets, not_encrypted, said}
use Rattle.krb_decode.specs.inner.Adding.{Adds}
use Rattle.krb_decode.proofs.Findings.{adds-both, adds-chosen}
use Rattle.krb_decode.proofs.found.put_credentials.Goals as goal

pub put_tickets-requires : goal.put_tickets-requires
put_tickets-requires c = c.requires.view.lists.0

pub returns-then-is_sealed : goal.returns-then-is_sealed
returns-then-is_sealed c =
    on_ok_weaker c.put_message.result
    (λ adds. adds-chosen _ true _ _ _ _ (sym c.is_sealed.ensures ∙ c.if-is_sealed.true) (adds (message_of_view (view.KrbCred c.args.cred.now)) c.requires.view.in_profile c.requires.view.form))
    c.put_message.ensures

pub returns : goal.returns
returns c =
    on_ok_weaker c.put_unencrypted.result
    (λ adds. adds-chosen _ false _ _ _ _ (sym c.is_sealed.ensures ∙ c.if-is_sealed.false) (adds-both _ _ _ _ _ c.in_ok-put_tickets.ensures adds))
    c.put_unencrypted.ensures
