use Rattle.krb_laws.proofs.Octets.{octets_are_spelled}
use Rattle.krb_laws.proofs.spelled.octets_are_spelled.Goals as goal

pub returns : goal.returns
returns c = octets_are_spelled
