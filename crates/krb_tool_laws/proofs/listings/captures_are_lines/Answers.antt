use Rattle.krb_tool_laws.proofs.ListedCaptures.{captures_are_lines}
use Rattle.krb_tool_laws.proofs.listings.captures_are_lines.Goals as goal

pub returns : goal.returns
returns c = captures_are_lines (record {
  rules = record { message_of = c.message_of_der_is_message.ensures; inside = c.refusals_are_inside.ensures; frames_inside = c.refusals_are_inside-2.ensures };
  message_line_is = c.capture_is_one_line_each.ensures.message;
  refusal_line_is = c.capture_is_one_line_each.ensures.refusal;
  joined_line_is = c.capture_is_one_line_each.ensures.joined;
  lost_line_is = c.capture_is_one_line_each.ensures.lost;
  unread_line_is = c.capture_is_one_line_each.ensures.unread;
  password_line_is = c.capture_is_one_line_each.ensures.password;
  unanswered_line_is = c.capture_is_one_line_each.ensures.unanswered;
  unreachable_line_is = c.capture_is_one_line_each.ensures.unreachable;
  end_line_is = c.capture_is_one_line_each.ensures.end;
  file_line_is = c.capture_is_one_line_each.ensures.file;
  json = c.captures_are_json.ensures;
})
