use Rattle.krb_frame.proofs.Refusals.{lenient_has_no_charset}
use Rattle.krb_frame.proofs.law.lenient_has_no_charset.Goals as goal

pub returns : goal.returns
returns c = lenient_has_no_charset
