use Rattle.std.proofs.Common.{◌≡◌, ◌++◌, ◌∙◌, map, OnOk, subst, sym}
use Rattle.krb_msg.specs.Viewed.{items_of}
use Rattle.krb_record.specs.Forms.{cell}
use Rattle.krb_text.specs.inner.Items.{item_number}
use Rattle.krb_text.proofs.Cells.{name_cells, nameless_cell, whole_cells}
use Rattle.krb_text.proofs.list.put_numbers_cell.Goals as goal

pub returns-in-Whole : goal.returns-in-Whole
unfolding cell
returns-in-Whole g c =
    rw c.in-Whole.is
    (subst
    (λ text. OnOk c.put_items_cell.result (c.put_items_cell.new.text ≡ c.args.text.now ++ text))
    (whole_cells g.T.View.term (items_of g.T.View.term c.args.items.octets.now))
    c.put_items_cell.ensures)

pub returns-in-Names : goal.returns-in-Names
unfolding cell
returns-in-Names g c =
    rw c.in-Names.is
    (subst
    (λ text. OnOk c.push_str.result (c.push_str.new.self ≡ c.args.text.now ++ text))
    (sym (nameless_cell c.args.registry (map (item_number g.T.View.term) (items_of g.T.View.term c.args.items.octets.now)) (sym c.is_nameless.ensures ∙ c.if-is_nameless.true)))
    c.push_str.ensures)

pub returns-in-Names-2 : goal.returns-in-Names-2
unfolding cell
returns-in-Names-2 g c =
    rw c.in-Names-2.is
    (subst
    (λ text. OnOk c.put_items_cell-in-Names-2.result (c.put_items_cell-in-Names-2.new.text ≡ c.args.text.now ++ text))
    (name_cells c.args.registry g.T.View.term (items_of g.T.View.term c.args.items.octets.now) (sym c.is_nameless.ensures ∙ c.if-is_nameless.false))
    c.put_items_cell-in-Names-2.ensures)
