-- asn1/generate wrote this from asn1/krb5.asn1
use Rattle.std.proofs.Common.{refl, arith}
use Rattle.krb_msg.specs.Grammar.{krb_priv}
use Rattle.krb_codec.proofs.Puts.{has_capacity, is_put}
use Rattle.krb_codec.proofs.krb_priv.KrbPrivItem.put.Goals as goal

pub put-requires : goal.put-requires
put-requires c = (omega arith, (refl, has_capacity krb_priv c.args.out.now c.layout.ensures c.requires.short c.requires.capacity))

pub returns : goal.returns
returns c = is_put krb_priv c.layout.ensures c.put.ensures
