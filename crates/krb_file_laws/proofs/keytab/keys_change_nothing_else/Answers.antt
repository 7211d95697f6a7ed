use Rattle.krb_file_laws.proofs.KeytabKeyOctets.{keys-alone}
use Rattle.krb_file_laws.proofs.keytab.keys_change_nothing_else.Goals as goal

pub returns : goal.returns
returns c = keys-alone
