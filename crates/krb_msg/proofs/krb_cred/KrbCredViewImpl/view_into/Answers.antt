-- asn1/generate wrote this from asn1/krb5.asn1
use Rattle.krb_msg.proofs.krb_cred.KrbCredViewImpl.view_into.Goals as goal

pub returns : goal.returns
returns c = (c.if-not-view_into.ensures.0, (c.if-not-view_into.ensures.1.0, c.if-not-view_into.ensures.1.1.0))
