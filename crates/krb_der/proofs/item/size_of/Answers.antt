use Rattle.krb_der.specs.inner.Numbers.{AreOctets-slice}
use Rattle.krb_der.proofs.item.size_of.Goals as goal

pub returns-clause-octets : goal.returns-clause-octets
returns-clause-octets c = AreOctets-slice c.args.octets.now c.type_inv.octets
