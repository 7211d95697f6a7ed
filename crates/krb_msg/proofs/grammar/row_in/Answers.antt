use Rattle.krb_msg.proofs.Table.{row_of, row_there}
use Rattle.krb_msg.proofs.grammar.row_in.Goals as goal

pub returns : goal.returns
returns c = row_of c.args.rows.now c.args.node _ c.requires.rows (row_there c.args.rows.now c.args.node c.requires.rows c.requires.known)

pub bounds-rows-node : goal.bounds-rows-node
bounds-rows-node c = row_there c.args.rows.now c.args.node c.requires.rows c.requires.known
