use Rattle.std.proofs.Common.{length, refl, sym, ◌∙◌, ap}
use Rattle.std.proofs.lemmas.Result.{IfOk-weaker}
use Rattle.std.specs.Prelude.{None, Some}
use Rattle.krb_convert.specs.Decoding.{Refusing, ending_of}
use Rattle.krb_convert.proofs.DecodedFrames.{message_viewed}
use Rattle.krb_convert.proofs.WholeRuns.{whole-long, whole-short, is_long, is_short}
use Rattle.krb_convert.proofs.whole_run.decode_message.Goals as goal

pub returns-then-octets-get-clause-decoded : goal.returns-then-octets-get-clause-decoded
returns-then-octets-get-clause-decoded c =
    let long = is_long c.args.limit c.get.result (length c.args.octets.now) c.get.ensures.value c.if-octets-get.true in
    (λ i. record { text = c.refused.ensures.text i; end = ending_of (c.refused.ensures.end i) })
    ∙ sym (whole-long c.args.profile c.args.limit c.args.octets.now long)

pub put_message-requires-clause-message : goal.put_message-requires-clause-message
put_message-requires-clause-message c = message_viewed c.args.octets.now _ c.in-Ok.ensures.message

pub returns-in-Ok-clause-decoded : goal.returns-in-Ok-clause-decoded
returns-in-Ok-clause-decoded c =
    let short = is_short c.args.limit c.get.result (length c.args.octets.now) c.get.ensures.value c.if-octets-get.false in
    let whole = whole-short c.args.profile c.args.limit c.args.octets.now None short (sym c.in-Ok.ensures.whole) in
    IfOk-weaker c.put_message.result _ _ (λ line e. e ∙ sym whole) c.put_message.ensures.put

pub returns-in_ok-path-in-Err-clause-decoded : goal.returns-in_ok-path-in-Err-clause-decoded
returns-in_ok-path-in-Err-clause-decoded c =
    let short = is_short c.args.limit c.get.result (length c.args.octets.now) c.get.ensures.value c.if-octets-get.false in
    let whole = whole-short c.args.profile c.args.limit c.args.octets.now (Some c.in-Err.refusal) short (sym ((c.in-Err.ensures.refused c.in-Err.refusal).0 refl)) in
    (λ i. record { text = c.refused-in-Err.ensures.text i; end = (ap ending_of c.refused-in-Err.ensures.end ∙ ap (Refusing 0 c.in-Err.refusal) c.in_ok-path-in-Err.ensures.path) i })
    ∙ sym whole
