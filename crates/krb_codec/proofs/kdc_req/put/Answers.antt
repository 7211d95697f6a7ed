-- asn1/generate wrote this from asn1/krb5.asn1
use Rattle.std.proofs.Common.{arith}
use Rattle.krb_msg.specs.Term.{Application}
use Rattle.krb_msg.specs.Grammar.{kdc_req}
use Rattle.krb_codec.proofs.Puts.{has_capacity, is_put}
use Rattle.krb_codec.proofs.kdc_req.put.Goals as goal

pub put-requires : goal.put-requires
put-requires g c = (omega (arith, g.N.fits), (c.requires.tags, has_capacity (Application g.row.N (kdc_req g.row.N)) c.args.out.now c.layout.ensures c.requires.short c.requires.capacity))

pub returns : goal.returns
returns g c = is_put (Application g.row.N (kdc_req g.row.N)) c.layout.ensures c.put.ensures
