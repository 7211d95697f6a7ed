-- asn1/generate wrote this from asn1/krb5.asn1
use Rattle.krb_msg.specs.Grammar.{checksum}
use Rattle.krb_codec.proofs.Puts.{sized}
use Rattle.krb_codec.proofs.checksum.ChecksumItem.size.Goals as goal

pub returns : goal.returns
returns c = sized checksum c.layout.ensures c.size.ensures
