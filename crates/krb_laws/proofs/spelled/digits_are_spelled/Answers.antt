use Rattle.krb_laws.proofs.Hexadecimal.{digits_are_spelled}
use Rattle.krb_laws.proofs.spelled.digits_are_spelled.Goals as goal

pub returns : goal.returns
returns c = digits_are_spelled
