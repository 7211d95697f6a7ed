use Rattle.std.proofs.Common.{sym, ◌∙◌, ap}
use Rattle.std.proofs.lemmas.Result.{IfOk-weaker}
use Rattle.krb_input.specs.Inputs.{spelled}
use Rattle.krb_decode.specs.Decoded.{decoded_by, decoded_spelled}
use Rattle.krb_decode.proofs.InputRuns.{input-by, refused-by}
use Rattle.krb_decode.proofs.input.decode_input.Goals as goal

pub returns-in-Clean : goal.returns-in-Clean
returns-in-Clean c =
    let spelled_so = decoded_spelled c.args.profile (spelled c.args.input.now) in
    let by = input-by c.args.profile _ c.args.input.now _ _ _ _ c.none-label.ensures c.new-said.ensures.items c.in_ok-ended.ensures.listed ∙ ap (λ e. decoded_by e c.run_message_in.new.writer.items spelled_so) c.in-Clean.is in
    IfOk-weaker c.decode_accepted.result _ _ (λ made e. e ∙ sym by) c.decode_accepted.ensures

pub returns-in-Refused : goal.returns-in-Refused
returns-in-Refused c =
    let by = input-by c.args.profile _ c.args.input.now _ _ _ _ c.none-label.ensures c.new-said.ensures.items c.in_ok-ended.ensures.listed in
    c.refused.ensures ∙ sym (by ∙ refused-by _ _ (decoded_spelled c.args.profile (spelled c.args.input.now)) c.in-Refused.is)
