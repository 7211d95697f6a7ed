use Rattle.std.proofs.Common.{rules}
use Rattle.krb_msg.proofs.FieldViews.{integer_kept, integer_none}
use Rattle.krb_msg.proofs.view.scalars.Wide32View.view_into.Goals as goal

pub returns-in-None : goal.returns-in-None
returns-in-None c = integer_none _ _ c.args.contents.now c.in-None.ensures

pub returns-in-Some : goal.returns-in-Some
returns-in-Some c = (integer_kept _ _ c.args.contents.now c.in-Some.found (search rules) c.in-Some.ensures, tt)
