use Rattle.krb_tool_laws.proofs.ListedLines.{messages_are_lines}
use Rattle.krb_tool_laws.proofs.listings.messages_are_lines.Goals as goal

pub returns : goal.returns
returns c = messages_are_lines (record {
  message_of_der = c.message_of_der_is_message.ensures;
  value_of_der = c.value_of_der_is_value.ensures;
  inside = c.refusals_are_inside.ensures;
  message_line_is = c.message_is_one_line.ensures.from;
  ticket_line_is = c.message_is_one_line.ensures.ticket;
  refusal_line_is = c.end_is_one_line.ensures.message;
  input_line_is = c.end_is_one_line.ensures.input;
  counted_line_is = c.end_is_one_line.ensures.counted;
  messages_json = c.messages_are_json.ensures;
  ends_json = c.ends_are_json.ensures;
})
