use Rattle.std.proofs.Common.{◌∙◌}
use Rattle.krb_msg.proofs.ItemViews.{empty_items}
use Rattle.krb_msg.proofs.notes.items.has_no_items_in_view.Goals as goal

pub returns : goal.returns
returns g c = c.is_empty.ensures ∙ empty_items g.T.View.term c.args.items.now.octets.now c.requires
