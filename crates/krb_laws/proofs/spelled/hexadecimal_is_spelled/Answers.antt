use Rattle.krb_laws.proofs.Hexadecimal.{hexadecimal_is_spelled}
use Rattle.krb_laws.proofs.spelled.hexadecimal_is_spelled.Goals as goal

pub returns : goal.returns
returns c = hexadecimal_is_spelled
