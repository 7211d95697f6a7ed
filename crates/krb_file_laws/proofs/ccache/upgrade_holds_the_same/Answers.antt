use Rattle.krb_file_laws.proofs.Upgrades.{holds_the_same}
use Rattle.krb_file_laws.proofs.ccache.upgrade_holds_the_same.Goals as goal

pub returns : goal.returns
returns c = holds_the_same
