use Rattle.krb_input.proofs.Decoded.{decoded_lines_are_spelled}
use Rattle.krb_input.proofs.law.decoded_lines_are_spelled.Goals as goal

pub returns : goal.returns
returns c = decoded_lines_are_spelled
