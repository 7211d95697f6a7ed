use Rattle.krb_text.proofs.Parts.{told_none, told_some}
use Rattle.krb_text.proofs.clear.put_encrypted.Goals as goal

pub returns-in-None : goal.returns-in-None
returns-in-None c = told_none _ _ _ _ _ c.in-None.ensures

pub returns-in_ok-put_encrypted_part-in-Some : goal.returns-in_ok-put_encrypted_part-in-Some
returns-in_ok-put_encrypted_part-in-Some c = told_some _ _ _ _ _ _ c.in-Some.ensures.0 c.saturating_add.ensures c.in_ok-put_encrypted_part-in-Some.ensures
