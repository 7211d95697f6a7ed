use Rattle.krb_file_laws.proofs.KeytabLimits.{records-spelled}
use Rattle.krb_file_laws.proofs.keytab.records_are_spelled.Goals as goal

pub returns : goal.returns
returns c = records-spelled
