use Rattle.krb_message_laws.proofs.ValueMarks.{whole_has_marks_of_message}
use Rattle.krb_message_laws.proofs.scan.whole_has_marks_of_message.Goals as goal

pub returns : goal.returns
returns c = whole_has_marks_of_message
