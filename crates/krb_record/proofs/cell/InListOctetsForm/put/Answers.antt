use Rattle.krb_record.specs.Forms.{item_cell}
use Rattle.krb_record.proofs.cell.InListOctetsForm.put.Goals as goal

pub returns : goal.returns
unfolding item_cell
returns c = c.put_any.ensures
