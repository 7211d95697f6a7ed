use Rattle.krb_keytab.proofs.Keytabs.{spells-one}
use Rattle.krb_file_laws.proofs.keytab.spells_one.Goals as goal

pub returns : goal.returns
returns c = spells-one
