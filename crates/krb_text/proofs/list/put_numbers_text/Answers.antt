use Rattle.std.proofs.Common.{◌≡◌, ◌++◌, map, OnOk, subst, sym}
use Rattle.krb_msg.specs.Viewed.{items_of}
use Rattle.krb_record.specs.Forms.{value_text}
use Rattle.krb_record.specs.Values.{Numbers}
use Rattle.krb_text.specs.inner.Items.{item_number}
use Rattle.krb_text.proofs.list.put_numbers_text.Goals as goal

pub returns-then-names : goal.returns-then-names
unfolding value_text
returns-then-names g c =
    subst
    (λ names. OnOk c.put_list.result (c.put_list.new.text ≡ c.args.line.now ++ value_text names (Numbers c.args.registry (map (item_number g.T.View.term) (items_of g.T.View.term c.args.items.octets.now)))))
    (sym c.if-names.true)
    c.put_list.ensures

pub returns-else-names : goal.returns-else-names
unfolding value_text
returns-else-names g c =
    subst
    (λ names. OnOk c.put_list-else-names.result (c.put_list-else-names.new.text ≡ c.args.line.now ++ value_text names (Numbers c.args.registry (map (item_number g.T.View.term) (items_of g.T.View.term c.args.items.octets.now)))))
    (sym c.if-names.false)
    c.put_list-else-names.ensures
