use Rattle.krb_msg.proofs.Grammars.{refusal_is_final}
use Rattle.krb_msg.proofs.law.refusal_is_final.Goals as goal

pub returns : goal.returns
returns c = refusal_is_final
