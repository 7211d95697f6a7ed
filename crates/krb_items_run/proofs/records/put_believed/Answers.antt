use Rattle.std.proofs.lemmas.Result.{on_ok_weaker}
use Rattle.krb_record.proofs.Labels.{ends-after}
use Rattle.krb_items_run.specs.Items.{believed_record}
use Rattle.krb_items_run.proofs.records.put_believed.Goals as goal

pub returns : goal.returns
returns c =
    on_ok_weaker c.end.result
    (λ ended. ends-after c.args.label.now c.args.text.now c.begin.new.text c.put_believed_line.new.text c.end.new.text (believed_record c.args.size c.args.count) ended c.in_ok-begin.ensures (rw c.form.ensures at c.in_ok-put_believed_line.ensures))
    c.end.ensures
