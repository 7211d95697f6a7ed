use Rattle.krb_msg.proofs.Strictness.{strict_has_no_notes}
use Rattle.krb_msg.proofs.law.strict_has_no_notes.Goals as goal

pub returns : goal.returns
returns c = strict_has_no_notes
