use Rattle.krb_msg.specs.declared.view.items.ItemsView.{ItemsView}
use Rattle.krb_text.proofs.Items.{first_type}
use Rattle.krb_text.proofs.list.PaDataListed.next_number.Goals as goal

pub returns : goal.returns
returns c = first_type (λ (rest : ItemsView). rest.octets.now) c.args.items.octets.now c.next_type.result c.next_type.ensures
