use Rattle.krb_msg.proofs.Grammars.{refusal_is_none_of}
use Rattle.krb_msg.proofs.law.refusal_is_none_of.Goals as goal

pub returns : goal.returns
returns c = refusal_is_none_of
