use Rattle.std.proofs.Common.{◌≡◌, ◌++◌, ◌∙◌, [], List, ℕ, OnOk, ap, append_assoc, codes, subst, sym}
use Rattle.krb_msg.specs.Viewed.{items_of}
use Rattle.krb_record.specs.Text.{joined}
use Rattle.krb_record.specs.Items.{number_item}
use Rattle.krb_text.specs.inner.Items.{item_number}
use Rattle.krb_text.proofs.Items.{list_text_map}
use Rattle.krb_text.proofs.list.put_list.Goals as goal

pub returns : goal.returns
returns g c =
    let items = items_of g.T.View.term c.args.items.octets.now in
    let numbers : List ℕ = joined [] (codes ",") (λ item. number_item c.args.form (item_number g.T.View.term item)) items in
    subst
    (λ text. OnOk c.push_sign-2.result (c.push_sign-2.new.self ≡ text))
    (ap (λ text. text ++ codes "]") (c.in_ok-put_numbers.ensures ∙ ap (λ text. text ++ numbers) c.in_ok-push_sign.ensures ∙ append_assoc c.args.text.now (codes "[") numbers)
    ∙ append_assoc c.args.text.now (codes "[" ++ numbers) (codes "]")
    ∙ ap (λ text. c.args.text.now ++ text) (sym (list_text_map (item_number g.T.View.term) (number_item c.args.form) items)))
    c.push_sign-2.ensures
