use Rattle.krb_items_laws.proofs.PrintedItems.{items-are-printed}
use Rattle.krb_items_laws.proofs.PrintedListings.{listings-are-printed}
use Rattle.krb_items_laws.proofs.items.items_are_printed.Goals as goal

pub returns-clause-items : goal.returns-clause-items
returns-clause-items c = items-are-printed

pub returns-clause-listing : goal.returns-clause-listing
returns-clause-listing c = listings-are-printed c.messages_are_lines.ensures
