use Rattle.std.proofs.Common.{[], ◌∙◌}
use Rattle.krb_record.specs.Labels.{begin_text}
use Rattle.krb_record.specs.Values.{printed}
use Rattle.krb_items.proofs.Labels.{bare-text}
use Rattle.krb_items.proofs.label.empty_object.Goals as goal

pub returns : goal.returns
returns c =
    let label = c.args.label.now in
    c.into_string.ensures ∙ c.in_ok-end.ensures [] (printed [] [])
    (bare-text label.form c.form.result c.form-2.result (begin_text label) c.new-text.result c.begin.new.text c.put_opening.new.text c.put_end.new.text
    c.new-text.ensures c.in_ok-begin.ensures c.in_ok-put_opening.ensures c.in_ok-put_end.ensures c.form.ensures c.form-2.ensures)
