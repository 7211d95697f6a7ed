use Rattle.std.proofs.Common.{length}
use Rattle.krb_msg.proofs.ItemViews.{Passed}
use Rattle.krb_msg.proofs.view.items.are_items.Given as goal

abbrev pub invariant-items : goal.invariant-items
invariant-items g l = Passed g.T.View.term l.fn.octets l.rest

abbrev pub decreases-items : goal.decreases-items
decreases-items g l = length l.rest
