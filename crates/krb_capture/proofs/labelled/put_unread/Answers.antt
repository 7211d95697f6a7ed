use Rattle.std.proofs.lemmas.Result.{on_ok_weaker}
use Rattle.krb_record.proofs.Labels.{ends-after}
use Rattle.krb_record.specs.Captures.{captured, unread_record}
use Rattle.krb_capture.proofs.labelled.put_unread.Goals as goal

pub returns : goal.returns
returns c =
    on_ok_weaker c.end.result
    (λ ended. ends-after c.args.label.now c.args.text.now c.begin.new.text c.put_unread.new.text c.end.new.text (captured c.args.label.now.form c.args.origin.now (unread_record c.args.unread.place c.args.unread.octets c.args.unread.why)) ended c.in_ok-begin.ensures (rw c.form.ensures at c.in_ok-put_unread.ensures))
    c.end.ensures
