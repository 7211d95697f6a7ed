use Rattle.krb_scan.proofs.MarkCounts.{marks_are_few}
use Rattle.krb_message_laws.proofs.scan.marks_are_few.Goals as goal

pub returns : goal.returns
returns c = marks_are_few
