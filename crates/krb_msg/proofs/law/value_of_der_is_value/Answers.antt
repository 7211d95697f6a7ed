use Rattle.krb_msg.proofs.ValueOfDer.{value_of_der_is_value}
use Rattle.krb_msg.proofs.law.value_of_der_is_value.Goals as goal

pub returns : goal.returns
returns c = value_of_der_is_value
