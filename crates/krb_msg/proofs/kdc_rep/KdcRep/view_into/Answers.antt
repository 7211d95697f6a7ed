-- asn1/generate wrote this from asn1/krb5.asn1
use Rattle.krb_msg.proofs.kdc_rep.KdcRep.view_into.Goals as goal

pub returns : goal.returns
returns g c = (c.if-not-view_whole_sequence.ensures.0, (record { padata = c.if-not-view_whole_sequence.ensures.1.0; cname = c.if-not-view_whole_sequence.ensures.1.1.1.0; ticket = c.if-not-view_whole_sequence.ensures.1.1.1.1.0; enc_part = c.if-not-view_whole_sequence.ensures.1.1.1.1.1.0 }))
