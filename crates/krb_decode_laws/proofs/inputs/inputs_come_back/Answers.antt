use Rattle.krb_decode_laws.proofs.InputsBack.{inputs_come_back}
use Rattle.krb_decode_laws.proofs.inputs.inputs_come_back.Goals as goal

pub returns : goal.returns
returns c =
    inputs_come_back record {
      message_of_der = c.message_of_der_is_message.ensures;
      value_of_der = c.value_of_der_is_value.ensures;
      json = c.texts_are_json.ensures;
      short = c.texts_are_short.ensures;
      back = c.texts_come_back.ensures;
      spell = c.lines_spell_octets.ensures;
    }
