-- asn1/generate wrote this from asn1/krb5.asn1
use Rattle.krb_msg.specs.Grammar.{krb_priv}
use Rattle.krb_codec.proofs.Puts.{sized}
use Rattle.krb_codec.proofs.krb_priv.KrbPrivItem.size.Goals as goal

pub returns : goal.returns
returns c = sized krb_priv c.layout.ensures c.size.ensures
