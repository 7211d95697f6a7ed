use Rattle.std.proofs.Common.{◌+◌}
use Rattle.krb_der.proofs.Sizes.{saturated-item}
use Rattle.krb_msg.specs.Term.{der}
use Rattle.krb_codec.proofs.fields.ApplicationEncode.size.Goals as goal

pub returns : goal.returns
returns g c = record {
  octets = saturated-item (0x60 + g.row.NUMBER) c.size.result c.item_size.result (der g.E.Encode.term (g.E.Encode.value c.args.self.now.0)) c.size.ensures.octets c.item_size.ensures;
  fits = c.size.ensures.fits;
}
