use Rattle.std.proofs.Common.{◌≡◌, [], ◌++◌, ◌∙◌, OnOk, ap, subst, w64, FitsSigned, rules}
use Rattle.std.proofs.lemmas.Int.{to_z-of_z}
use Rattle.krb_record.specs.Items.{number_item}
use Rattle.krb_text.proofs.Items.{numbers_put}
use Rattle.krb_text.proofs.list.put_numbers.Goals as goal

pub returns-in_ok-put_number_item-in-Some : goal.returns-in_ok-put_number_item-in-Some
returns-in_ok-put_number_item-in-Some g c =
    let fits : FitsSigned w64 c.in-Some.first = search rules in
    let put = c.in_ok-put_number_item-in-Some.ensures ∙ ap (λ number. c.args.text.now ++ number_item c.args.form number) (to_z-of_z w64 c.in-Some.first fits) in
    subst
    (λ text. OnOk c.put_other_numbers.result (c.put_other_numbers.new.text ≡ text))
    (numbers_put g.T.View.term c.args.form [] c.args.items.octets.now c.in-Some.others.octets.now c.args.text.now c.put_number_item.new.text c.in-Some.first c.in-Some.ensures put)
    c.put_other_numbers.ensures
