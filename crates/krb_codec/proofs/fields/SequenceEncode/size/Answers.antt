use Rattle.krb_der.proofs.Sizes.{saturated-item}
use Rattle.krb_msg.specs.Term.{der_of_fields}
use Rattle.krb_codec.proofs.fields.SequenceEncode.size.Goals as goal

pub returns : goal.returns
returns g c = record {
  octets = saturated-item 0x30 c.size.result c.item_size.result (der_of_fields g.F.EncodeFields.fields (g.F.EncodeFields.values c.args.self.now.0)) c.size.ensures.octets c.item_size.ensures;
  fits = c.size.ensures.fit;
}
