use Rattle.krb_laws.proofs.Dumps.{dumps_are_spelled}
use Rattle.krb_laws.proofs.spelled.dumps_are_spelled.Goals as goal

pub returns : goal.returns
returns c = dumps_are_spelled
