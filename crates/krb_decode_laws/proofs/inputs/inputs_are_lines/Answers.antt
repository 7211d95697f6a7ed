use Rattle.krb_decode_laws.proofs.InputLines.{inputs_are_lines}
use Rattle.krb_decode_laws.proofs.inputs.inputs_are_lines.Goals as goal

pub returns : goal.returns
returns c =
    inputs_are_lines record {
      message_of_der = c.message_of_der_is_message.ensures;
      value_of_der = c.value_of_der_is_value.ensures;
      json = c.texts_are_json.ensures;
      listed = c.messages_are_lines.ensures;
    }
