-- asn1/generate wrote this from asn1/krb5.asn1
use Rattle.krb_msg.specs.Grammar.{krb_cred}
use Rattle.krb_codec.proofs.Puts.{sized}
use Rattle.krb_codec.proofs.krb_cred.KrbCredItem.size.Goals as goal

pub returns : goal.returns
returns c = sized krb_cred c.layout.ensures c.size.ensures
