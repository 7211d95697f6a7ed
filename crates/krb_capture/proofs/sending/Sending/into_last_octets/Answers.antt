use Rattle.std.proofs.lemmas.Result.{IfOk-weaker}
use Rattle.krb_capture.proofs.sending.Sending.into_last_octets.Goals as goal

pub returns : goal.returns
returns c = IfOk-weaker c.into_last_octets.result _ _ (λ octets e limit sent r. e sent.stream r.keeps) c.into_last_octets.ensures
