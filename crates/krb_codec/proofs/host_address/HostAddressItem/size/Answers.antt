-- asn1/generate wrote this from asn1/krb5.asn1
use Rattle.krb_msg.specs.Grammar.{host_address}
use Rattle.krb_codec.proofs.Puts.{sized}
use Rattle.krb_codec.proofs.host_address.HostAddressItem.size.Goals as goal

pub returns : goal.returns
returns c = sized host_address c.layout.ensures c.size.ensures
