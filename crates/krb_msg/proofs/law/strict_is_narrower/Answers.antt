use Rattle.krb_msg.proofs.Strictness.{strict_is_narrower}
use Rattle.krb_msg.proofs.law.strict_is_narrower.Goals as goal

pub returns : goal.returns
returns c = strict_is_narrower
