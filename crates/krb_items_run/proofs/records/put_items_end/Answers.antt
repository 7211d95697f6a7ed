use Rattle.std.proofs.lemmas.Result.{on_ok_weaker}
use Rattle.krb_record.proofs.Labels.{ends-after}
use Rattle.krb_items_run.specs.Items.{items_end_record}
use Rattle.krb_items_run.proofs.records.put_items_end.Goals as goal

pub returns : goal.returns
returns c =
    on_ok_weaker c.end.result
    (λ ended. ends-after c.args.label.now c.args.text.now c.begin.new.text c.put_end_line.new.text c.end.new.text (items_end_record c.args.count) ended c.in_ok-begin.ensures (rw c.form.ensures at c.in_ok-put_end_line.ensures))
    c.end.ensures
