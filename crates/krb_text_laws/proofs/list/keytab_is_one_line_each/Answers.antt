use Rattle.krb_text_laws.proofs.FileOneLine.{record_shown, keytab_end_shown}
use Rattle.krb_text_laws.proofs.list.keytab_is_one_line_each.Goals as goal

pub returns-clause-record : goal.returns-clause-record
returns-clause-record c = record_shown

pub returns-clause-end : goal.returns-clause-end
returns-clause-end c = keytab_end_shown
