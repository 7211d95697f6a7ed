use Rattle.krb_keytab.proofs.Keytabs.{read_as-one}
use Rattle.krb_file_laws.proofs.keytab.read_as_one.Goals as goal

pub returns : goal.returns
returns c = read_as-one
