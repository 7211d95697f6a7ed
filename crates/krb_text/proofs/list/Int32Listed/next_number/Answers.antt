use Rattle.krb_msg.specs.declared.view.items.ItemsView.{ItemsView}
use Rattle.krb_text.proofs.Items.{first_number}
use Rattle.krb_text.proofs.list.Int32Listed.next_number.Goals as goal

pub returns : goal.returns
returns c = first_number (λ (rest : ItemsView). rest.octets.now) c.args.items.octets.now c.next_item.result c.next_item.ensures
