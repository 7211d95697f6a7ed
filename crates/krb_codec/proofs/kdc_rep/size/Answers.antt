-- asn1/generate wrote this from asn1/krb5.asn1
use Rattle.krb_msg.specs.Term.{Application}
use Rattle.krb_msg.specs.Grammar.{kdc_rep}
use Rattle.krb_codec.proofs.Puts.{sized}
use Rattle.krb_codec.proofs.kdc_rep.size.Goals as goal

pub returns : goal.returns
returns g c = sized (Application g.row.N (kdc_rep g.row.N)) c.layout.ensures c.size.ensures
