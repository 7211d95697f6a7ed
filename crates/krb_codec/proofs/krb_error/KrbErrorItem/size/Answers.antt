-- asn1/generate wrote this from asn1/krb5.asn1
use Rattle.krb_msg.specs.Grammar.{krb_error}
use Rattle.krb_codec.proofs.Puts.{sized}
use Rattle.krb_codec.proofs.krb_error.KrbErrorItem.size.Goals as goal

pub returns : goal.returns
returns c = sized krb_error c.layout.ensures c.size.ensures
