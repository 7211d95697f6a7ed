use Rattle.krb_file_laws.proofs.KeytabLimits.{limits-add}
use Rattle.krb_file_laws.proofs.keytab.limits_add_too_long.Goals as goal

pub returns : goal.returns
returns c = limits-add
