use Rattle.std.proofs.Common.{◌≡◌, ◌++◌, length, ap, subst, sym, ◌∙◌, arith}
use Rattle.krb_der.specs.declared.profile.Profile.TheVariants.{Lenient}
use Rattle.krb_der.specs.declared.verdict.Verdict.TheVariants.{Whole}
use Rattle.krb_msg.specs.Judgement.{judgement}
use Rattle.krb_msg.specs.Views.{message_of_der, message_der}
use Rattle.krb_msg.proofs.Judged.{message_is_whole}
use Rattle.krb_msg.proofs.MessageOfDer.{message_of_der_is_message}
use Rattle.krb_text.specs.Messages.{message_text}
use Rattle.krb_values.proofs.lines.put_text_of.Goals as goal

-- the octets of a message are judged whole
pub unreachable-requires : goal.unreachable-requires
unreachable-requires c =
    let octets : c.as_slice.result.now ≡ message_der c.args.message.now = c.as_slice.ensures.value ∙ c.in-Ok.ensures.octets in
    let none = rw c.if-branch.false at c.in_ok-put_message_text.ensures in
    none.0 (omega (arith, ap length octets, c.in-Ok.ensures.in_profile.short)) (subst (λ l. judgement Lenient (length l) l ≡ Whole) (sym octets) (message_is_whole Lenient c.args.message.now c.in-Ok.ensures.in_profile))

-- and are read as that message
pub returns : goal.returns
returns c =
    let octets : c.as_slice.result.now ≡ message_der c.args.message.now = c.as_slice.ensures.value ∙ c.in-Ok.ensures.octets in
    let same : message_of_der c.as_slice.result.now ≡ c.args.message.now = ap message_of_der octets ∙ message_of_der_is_message Lenient c.args.message.now c.in-Ok.ensures.in_profile in
    let put = rw c.if-branch.true at c.in_ok-put_message_text.ensures in
    subst (λ m. c.put_message_text.new.text ≡ c.args.text.now ++ message_text c.args.form m) same put.1
