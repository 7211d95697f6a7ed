use Rattle.std.proofs.Common.{◌∙◌}
use Rattle.std.proofs.lemmas.Result.{IfOk-weaker}
use Rattle.krb_flow.proofs.Keeping.{kept_after}
use Rattle.krb_flow.proofs.direction.Direction.into_last_octets.Goals as goal

pub returns : goal.returns
returns c = IfOk-weaker c.into_octets.result _ _ (λ octets e stream k. e ∙ kept_after c.end.new.self c.args.self stream c.end.ensures.most c.end.ensures.octets k) c.into_octets.ensures
