-- asn1/generate wrote this from asn1/krb5.asn1
use Rattle.krb_msg.specs.Grammar.{ap_rep}
use Rattle.krb_codec.proofs.Puts.{sized}
use Rattle.krb_codec.proofs.ap_rep.ApRepItem.size.Goals as goal

pub returns : goal.returns
returns c = sized ap_rep c.layout.ensures c.size.ensures
