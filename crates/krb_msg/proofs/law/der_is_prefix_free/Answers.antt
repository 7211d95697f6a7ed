use Rattle.krb_msg.proofs.Judged.{der_is_prefix_free}
use Rattle.krb_msg.proofs.law.der_is_prefix_free.Goals as goal

pub returns : goal.returns
returns c = der_is_prefix_free
