use Rattle.krb_text.specs.Messages.{message_line}
use Rattle.krb_text.proofs.record.put_message_in.Goals as goal

pub returns : goal.returns
unfolding message_line
returns c = c.put_record_of.ensures
