use Rattle.krb_der.specs.inner.Numbers.{AreOctets-slice}
use Rattle.krb_files.proofs.CcacheResults.{found3, only3, refused3}
use Rattle.krb_files.proofs.ccache.reading.read3.Goals as goal

pub returns-clause-found : goal.returns-clause-found
returns-clause-found c = found3 c.args.octets.now c.whole3.result (AreOctets-slice c.args.octets.now c.type_inv.octets) c.whole3.ensures

pub returns-clause-only : goal.returns-clause-only
returns-clause-only c = only3 c.args.octets.now c.whole3.result c.whole3.ensures

pub returns-clause-refused : goal.returns-clause-refused
returns-clause-refused c = refused3 c.args.octets.now c.whole3.result c.whole3.ensures
