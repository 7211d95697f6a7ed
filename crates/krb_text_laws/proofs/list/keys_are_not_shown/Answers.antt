use Rattle.krb_text_laws.proofs.ListMasks.{same_keytab, same_record}
use Rattle.krb_text_laws.proofs.list.keys_are_not_shown.Goals as goal

pub returns-clause-keytab : goal.returns-clause-keytab
returns-clause-keytab c = same_keytab

pub returns-clause-record : goal.returns-clause-record
returns-clause-record c = same_record
