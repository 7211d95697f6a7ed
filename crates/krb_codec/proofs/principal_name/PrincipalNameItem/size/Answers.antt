-- asn1/generate wrote this from asn1/krb5.asn1
use Rattle.krb_msg.specs.Grammar.{principal_name}
use Rattle.krb_codec.proofs.Puts.{sized}
use Rattle.krb_codec.proofs.principal_name.PrincipalNameItem.size.Goals as goal

pub returns : goal.returns
returns c = sized principal_name c.layout.ensures c.size.ensures
