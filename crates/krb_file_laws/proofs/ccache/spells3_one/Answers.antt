use Rattle.krb_ccache.proofs.Ccaches.{spells3-one}
use Rattle.krb_file_laws.proofs.ccache.spells3_one.Goals as goal

pub returns : goal.returns
returns c = spells3-one
