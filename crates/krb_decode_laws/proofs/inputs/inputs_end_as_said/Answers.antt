use Rattle.krb_decode_laws.proofs.InputEnds.{inputs_end_as_said}
use Rattle.krb_decode_laws.proofs.inputs.inputs_end_as_said.Goals as goal

pub returns : goal.returns
returns c = inputs_end_as_said
