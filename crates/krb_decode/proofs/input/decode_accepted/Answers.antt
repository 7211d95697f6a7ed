use Rattle.std.proofs.Common.{sym, ◌∙◌, ap, subst}
use Rattle.std.proofs.lemmas.Result.{IfOk-weaker}
use Rattle.krb_decode.specs.Decoded.{accepted, decoded_octets, decoded_spelled}
use Rattle.krb_decode.proofs.input.decode_accepted.Goals as goal

pub returns-in-Ok : goal.returns-in-Ok
returns-in-Ok c =
    let is = ap (decoded_octets c.args.profile) c.as_slice.ensures.value ∙ ap (decoded_spelled c.args.profile) (sym c.in-Ok.ensures.octets) in
    IfOk-weaker c.decode_octets.result _ _ (λ made e. e ∙ ap accepted is) c.decode_octets.ensures
