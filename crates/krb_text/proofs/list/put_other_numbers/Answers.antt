use Rattle.std.proofs.Common.{◌++◌, ◌∙◌, ap, w64, FitsSigned, rules}
use Rattle.std.proofs.lemmas.Int.{to_z-of_z}
use Rattle.krb_record.specs.Items.{number_item}
use Rattle.krb_text.proofs.Items.{number_put}
use Rattle.krb_text.proofs.list.put_other_numbers.Goals as goal

pub others-preserved : goal.others-preserved
others-preserved g c =
    let fits : FitsSigned w64 c.in-Some.number = search rules in
    let put = c.in_ok-put_number_item.ensures ∙ ap (λ number. c.push_sign.new.self ++ number_item c.args.form number) (to_z-of_z w64 c.in-Some.number fits) in (
      c.in-Some.ensures.first.viewed,
      number_put g.T.View.term c.args.form c.others.others.octets.now c.in-Some.rest.octets.now c.others.text c.push_sign.new.self c.put_number_item.new.text c.in-Some.number c.in-Some.ensures c.in_ok-push_sign.ensures put ∙ c.others.invariant.1,
    )
