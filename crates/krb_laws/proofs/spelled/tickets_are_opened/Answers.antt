use Rattle.krb_laws.proofs.Opened.{tickets_are_opened}
use Rattle.krb_laws.proofs.spelled.tickets_are_opened.Goals as goal

pub returns : goal.returns
returns c = tickets_are_opened
