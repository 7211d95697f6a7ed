-- asn1/generate wrote this from asn1/krb5.asn1
use Rattle.krb_msg.specs.Grammar.{encrypted_data}
use Rattle.krb_codec.proofs.Puts.{sized}
use Rattle.krb_codec.proofs.encrypted_data.EncryptedDataItem.size.Goals as goal

pub returns : goal.returns
returns c = sized encrypted_data c.layout.ensures c.size.ensures
