-- asn1/generate wrote this from asn1/krb5.asn1
use Rattle.krb_msg.specs.Grammar.{krb_safe_body}
use Rattle.krb_codec.proofs.Puts.{sized}
use Rattle.krb_codec.proofs.krb_safe_body.KrbSafeBodyItem.size.Goals as goal

pub returns : goal.returns
returns c = sized krb_safe_body c.layout.ensures c.size.ensures
