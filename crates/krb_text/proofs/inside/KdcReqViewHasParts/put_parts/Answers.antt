use Rattle.std.proofs.lemmas.Result.{IfOk-weaker}
use Rattle.krb_text.proofs.Parts.{tells_both}
use Rattle.krb_text.proofs.inside.KdcReqViewHasParts.put_parts.Goals as goal

pub returns : goal.returns
returns c = IfOk-weaker c.put_optional_tickets.result _ _ (λ by_now tickets. tells_both _ _ c.in_ok-told.ensures tickets) c.put_optional_tickets.ensures
