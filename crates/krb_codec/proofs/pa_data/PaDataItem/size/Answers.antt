-- asn1/generate wrote this from asn1/krb5.asn1
use Rattle.krb_msg.specs.Grammar.{pa_data}
use Rattle.krb_codec.proofs.Puts.{sized}
use Rattle.krb_codec.proofs.pa_data.PaDataItem.size.Goals as goal

pub returns : goal.returns
returns c = sized pa_data c.layout.ensures c.size.ensures
