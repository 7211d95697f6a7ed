use Rattle.krb_file_laws.proofs.CcacheLimits.{limits-add}
use Rattle.krb_file_laws.proofs.ccache.limits_add_too_long.Goals as goal

pub returns : goal.returns
returns c = limits-add
