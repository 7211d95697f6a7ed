use Rattle.krb_ccache.proofs.Ccaches.{spells-one}
use Rattle.krb_file_laws.proofs.ccache.spells_one.Goals as goal

pub returns : goal.returns
returns c = spells-one
