use Rattle.std.proofs.lemmas.Result.{on_ok_weaker}
use Rattle.krb_record.proofs.Labels.{ends-after}
use Rattle.krb_record.specs.Captures.{capture_end_record}
use Rattle.krb_capture.proofs.labelled.put_end.Goals as goal

pub returns : goal.returns
returns c =
    on_ok_weaker c.end.result
    (λ ended. ends-after c.args.label.now c.args.text.now c.begin.new.text c.put_capture_end.new.text c.end.new.text (capture_end_record c.args.label.now.form c.args.counts.now c.args.told.now) ended c.in_ok-begin.ensures (rw c.form.ensures at c.in_ok-put_capture_end.ensures))
    c.end.ensures
