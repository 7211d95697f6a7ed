use Rattle.std.proofs.Common.{◌+◌}
use Rattle.krb_der.specs.Octets.{item}
use Rattle.krb_der.proofs.Sizes.{saturated-item, saturated-append}
use Rattle.krb_msg.specs.Term.{der, der_of_fields}
use Rattle.krb_codec.proofs.fields.RequiredRefEncodeFields.size.Goals as goal

pub returns-clause-octets : goal.returns-clause-octets
returns-clause-octets g c =
    let list = c.args.self.now in
    let octets = der g.T.Item.term (g.T.Item.value list.0.now) in
    saturated-append c.add_sizes.result c.item_size.result c.size-2.result (item (0xA0 + g.row.INDEX) octets) (der_of_fields g.F.EncodeFields.fields (g.F.EncodeFields.values list.1)) c.add_sizes.ensures
    (saturated-item (0xA0 + g.row.INDEX) c.size.result c.item_size.result octets c.size.ensures.octets c.item_size.ensures)
    c.size-2.ensures.octets

pub returns-clause-fit : goal.returns-clause-fit
returns-clause-fit g c = (c.size.ensures.fits, c.size-2.ensures.fit)
