use Rattle.krb_record.specs.declared.form.Base.TheVariants.{NamedLines}
use Rattle.krb_decode_laws.proofs.ListedAgain.{captures_are_listed_again}
use Rattle.krb_decode_laws.proofs.captures.captures_are_listed_again.Goals as goal

pub returns : goal.returns
returns c = captures_are_listed_again (record {
  rules = record { message_of = c.message_of_der_is_message.ensures; inside = c.refusals_are_inside.ensures; frames_inside = c.refusals_are_inside-2.ensures };
  lines = record {
    json = c.texts_are_json.ensures;
    refusal_line_is = c.capture_is_one_line_each.ensures.refusal;
    joined_line_is = c.capture_is_one_line_each.ensures.joined;
    lost_line_is = c.capture_is_one_line_each.ensures.lost;
    unread_line_is = λ origin place octets reason range. c.capture_is_one_line_each.ensures.unread NamedLines origin place octets reason range;
  };
  end_line_is = c.capture_is_one_line_each.ensures.end;
  file_line_is = c.capture_is_one_line_each.ensures.file;
}) (record { json = c.texts_are_json.ensures; short = c.texts_are_short.ensures; back = c.texts_come_back.ensures }) c.der_is_prefix_free.ensures
