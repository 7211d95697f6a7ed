use Rattle.std.proofs.Common.{◌+◌}
use Rattle.krb_der.specs.Octets.{item}
use Rattle.krb_der.proofs.Sizes.{saturated-item, saturated-append}
use Rattle.krb_msg.specs.Term.{der, der_of_fields}
use Rattle.krb_codec.proofs.fields.OptionalRefEncodeFields.size.Goals as goal

pub returns-in-Some-clause-octets : goal.returns-in-Some-clause-octets
returns-in-Some-clause-octets g c =
    let list = c.args.self.now in
    let octets = der g.T.Item.term (g.T.Item.value c.in-Some.value.now) in
    rw c.in-Some.is
    (saturated-append c.add_sizes.result c.item_size.result c.size-in-Some.result (item (0xA0 + g.row.INDEX) octets) (der_of_fields g.F.EncodeFields.fields (g.F.EncodeFields.values list.1)) c.add_sizes.ensures
    (saturated-item (0xA0 + g.row.INDEX) c.size.result c.item_size.result octets c.size.ensures.octets c.item_size.ensures)
    c.size-in-Some.ensures.octets)

pub returns-in-Some-clause-fit : goal.returns-in-Some-clause-fit
returns-in-Some-clause-fit g c = rw c.in-Some.is (c.size.ensures.fits, c.size-in-Some.ensures.fit)
