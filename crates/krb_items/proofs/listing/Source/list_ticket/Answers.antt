use Rattle.std.proofs.Common.{[], codes}
use Rattle.krb_items.specs.Items.{here_at, item_items}
use Rattle.krb_items.specs.Seen.{context_of, here_of, limits_of}
use Rattle.krb_items.specs.Shapes.{ticket, type_of}
use Rattle.krb_items.proofs.Walks.{item-listed}
use Rattle.krb_items.proofs.listing.Source.list_ticket.Goals as goal

pub returns : goal.returns
returns c =
    item-listed (context_of c.args.self) (item_items 16 (limits_of c.args.self)) (here_at [] (codes "Ticket") 0 0) (here_of c.new-here.result) ticket (type_of c.ticket_type.result) c.args.octets.now c.args.out.now c.item.new.out c.item.result
    c.new-here.ensures c.ticket_type.ensures.ticket c.item.ensures
