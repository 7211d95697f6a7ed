use Rattle.krb_items_run.proofs.Inputs.{cut-items}
use Rattle.krb_items_run.proofs.run.SpelledItemsFileFormat.most.Goals as goal

pub returns : goal.returns
returns c = cut-items _ _
