use Rattle.krb_der.specs.inner.Numbers.{AreOctets-slice}
use Rattle.krb_files.proofs.CcacheResults.{found, only, refused}
use Rattle.krb_files.proofs.ccache.reading.read.Goals as goal

pub returns-clause-found : goal.returns-clause-found
returns-clause-found c = found c.args.octets.now c.whole.result (AreOctets-slice c.args.octets.now c.type_inv.octets) c.whole.ensures

pub returns-clause-only : goal.returns-clause-only
returns-clause-only c = only c.args.octets.now c.whole.result c.whole.ensures

pub returns-clause-refused : goal.returns-clause-refused
returns-clause-refused c = refused c.args.octets.now c.whole.result c.whole.ensures
