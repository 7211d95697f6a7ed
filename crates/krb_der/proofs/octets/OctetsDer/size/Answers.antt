use Rattle.std.proofs.Common.{◌∙◌, length, ap, subst}
use Rattle.krb_der.proofs.Sizes.{exact-item}
use Rattle.krb_der.specs.Octets.{AreOctets}
use Rattle.krb_der.proofs.octets.OctetsDer.size.Goals as goal

pub returns-clause-octets : goal.returns-clause-octets
returns-clause-octets c = exact-item 0x04 _ c.item_size.result c.args.self.now (c.size_of.ensures.value ∙ ap length c.as_slice.ensures) c.item_size.ensures

pub returns-clause-fits : goal.returns-clause-fits
returns-clause-fits c = subst AreOctets c.as_slice.ensures c.size_of.ensures.octets
