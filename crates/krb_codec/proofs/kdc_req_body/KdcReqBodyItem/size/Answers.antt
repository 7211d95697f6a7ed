-- asn1/generate wrote this from asn1/krb5.asn1
use Rattle.krb_msg.specs.Grammar.{kdc_req_body}
use Rattle.krb_codec.proofs.Puts.{sized}
use Rattle.krb_codec.proofs.kdc_req_body.KdcReqBodyItem.size.Goals as goal

pub returns : goal.returns
returns c = sized kdc_req_body c.layout.ensures c.size.ensures
