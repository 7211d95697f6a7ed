-- asn1/generate wrote this from asn1/krb5.asn1
use Rattle.krb_msg.specs.Grammar.{ap_req}
use Rattle.krb_codec.proofs.Puts.{sized}
use Rattle.krb_codec.proofs.ap_req.ApReqItem.size.Goals as goal

pub returns : goal.returns
returns c = sized ap_req c.layout.ensures c.size.ensures
