use Rattle.std.proofs.Common.{IfOk, refl, subst, sym}
use Rattle.krb_msg.specs.Grammar.{ticket}
use Rattle.krb_msg.specs.Types.{ticket_of}
use Rattle.krb_msg.specs.Viewed.{items_of}
use Rattle.krb_text.specs.Inside.{ticket_part}
use Rattle.krb_text.specs.inner.Parts.{Tells}
use Rattle.krb_text.proofs.Items.{map-map}
use Rattle.krb_text.proofs.inside.put_tickets.Goals as goal

pub returns : goal.returns
returns c =
    subst
    (λ parts. IfOk c.put_each.result (λ by_now. Tells c.args.at.form parts c.args.at.told c.args.text.now by_now c.put_each.new.text))
    (sym (map-map ticket_part ticket_of (items_of ticket c.args.items.octets.now)))
    (c.put_each.ensures (λ v. ticket_part (ticket_of v)) (λ seen. refl))
