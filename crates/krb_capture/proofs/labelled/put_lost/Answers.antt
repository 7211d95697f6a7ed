use Rattle.std.proofs.lemmas.Result.{on_ok_weaker}
use Rattle.krb_record.proofs.Labels.{ends-after}
use Rattle.std.specs.Option.{option_copied}
use Rattle.krb_record.specs.Captures.{captured, lost_record}
use Rattle.krb_capture.proofs.labelled.put_lost.Goals as goal

pub returns : goal.returns
returns c =
    on_ok_weaker c.end.result
    (λ ended. ends-after c.args.label.now c.args.text.now c.begin.new.text c.put_lost.new.text c.end.new.text (captured c.args.label.now.form c.args.origin.now (lost_record c.args.label.now.form c.args.lost.place c.args.lost.octets (option_copied c.args.path))) ended c.in_ok-begin.ensures (rw c.form.ensures at c.in_ok-put_lost.ensures))
    c.end.ensures
