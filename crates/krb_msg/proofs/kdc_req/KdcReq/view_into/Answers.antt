-- asn1/generate wrote this from asn1/krb5.asn1
use Rattle.krb_msg.proofs.kdc_req.KdcReq.view_into.Goals as goal

pub returns : goal.returns
returns g c = (c.if-not-view_whole_sequence.ensures.0, (c.if-not-view_whole_sequence.ensures.1.0, c.if-not-view_whole_sequence.ensures.1.1.0))
