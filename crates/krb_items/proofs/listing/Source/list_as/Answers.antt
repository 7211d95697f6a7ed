use Rattle.std.proofs.Common.{IfOk, subst}
use Rattle.krb_items.specs.Items.{Here, item_items, spnego_items}
use Rattle.krb_items.specs.Records.{Lists}
use Rattle.krb_items.specs.Seen.{context_of, limits_of}
use Rattle.krb_items.proofs.listing.Source.list_as.Goals as goal

pub returns-in-Spnego : goal.returns-in-Spnego
returns-in-Spnego c =
    let limits = limits_of c.args.self in
    rw c.in-Spnego.is
    (subst (λ (here : Here). IfOk c.spnego.result (Lists (context_of c.args.self) (spnego_items (item_items 16 limits) limits c.in-Spnego.neg here c.args.self.octets.now) c.args.out.now c.spnego.new.out)) c.new-here-in-Spnego.ensures c.spnego.ensures)
