use Rattle.krb_tool_laws.proofs.ListedStreams.{streams_are_lines}
use Rattle.krb_tool_laws.proofs.listings.streams_are_lines.Goals as goal

pub returns : goal.returns
returns c = streams_are_lines (record {
  prefix_free = c.der_is_prefix_free.ensures;
  narrower = c.strict_is_narrower.ensures;
  inside = c.refusals_are_inside.ensures;
  message_line_is = c.message_is_one_line.ensures.message;
  end_line_is = c.end_is_one_line.ensures.stream;
  counted_line_is = c.end_is_one_line.ensures.counted;
  messages_json = c.messages_are_json.ensures;
  ends_json = c.ends_are_json.ensures;
})
