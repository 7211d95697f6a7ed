-- asn1/generate wrote this from asn1/krb5.asn1
use Rattle.krb_msg.specs.Grammar.{kdc_req_body}
use Rattle.krb_codec.proofs.Puts.{has_capacity, is_put}
use Rattle.krb_codec.proofs.kdc_req_body.KdcReqBodyItem.put.Goals as goal

pub put-requires-clause-short : goal.put-requires-clause-short
put-requires-clause-short c = (has_capacity kdc_req_body c.args.out.now c.layout.ensures c.requires.short c.requires.capacity).0

pub put-requires-clause-capacity : goal.put-requires-clause-capacity
put-requires-clause-capacity c = (has_capacity kdc_req_body c.args.out.now c.layout.ensures c.requires.short c.requires.capacity).1

pub returns : goal.returns
returns c = is_put kdc_req_body c.layout.ensures c.put.ensures
