use Rattle.krb_text.proofs.Parts.{told_none, told_some}
use Rattle.krb_text.proofs.error_data.put_optional_ext_error.Goals as goal

pub returns-in-None : goal.returns-in-None
returns-in-None c = told_none _ _ _ _ _ c.in-None.is

pub returns-in_ok-put_ext_error-in-Some : goal.returns-in_ok-put_ext_error-in-Some
returns-in_ok-put_ext_error-in-Some c = told_some _ _ _ _ _ _ c.in-Some.is c.saturating_add.ensures c.in_ok-put_ext_error-in-Some.ensures
