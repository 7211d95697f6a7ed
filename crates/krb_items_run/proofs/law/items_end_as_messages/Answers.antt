use Rattle.krb_items_run.proofs.Ends.{items-end}
use Rattle.krb_items_run.proofs.law.items_end_as_messages.Goals as goal

pub returns : goal.returns
returns c = items-end
