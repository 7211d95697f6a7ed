use Rattle.std.proofs.Common.{◌∙◌, length, ap, subst}
use Rattle.krb_der.proofs.Sizes.{exact-item}
use Rattle.krb_der.specs.Octets.{AreOctets}
use Rattle.krb_der.proofs.kstring.KStringDer.size.Goals as goal

pub returns-clause-octets : goal.returns-clause-octets
returns-clause-octets c = exact-item 0x1B _ c.item_size.result c.args.self.now (c.size_of.ensures.value ∙ ap length c.octets.ensures) c.item_size.ensures

pub returns-clause-fits : goal.returns-clause-fits
returns-clause-fits c = subst AreOctets c.octets.ensures c.size_of.ensures.octets
