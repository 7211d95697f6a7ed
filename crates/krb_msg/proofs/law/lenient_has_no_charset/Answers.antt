use Rattle.krb_msg.proofs.Reasons.{lenient_has_no_charset}
use Rattle.krb_msg.proofs.law.lenient_has_no_charset.Goals as goal

pub returns : goal.returns
returns c = lenient_has_no_charset
