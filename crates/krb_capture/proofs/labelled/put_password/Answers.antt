use Rattle.std.proofs.lemmas.Result.{on_ok_weaker}
use Rattle.krb_record.proofs.Labels.{ends-after}
use Rattle.krb_record.specs.Captures.{captured, password_record}
use Rattle.krb_capture.proofs.labelled.put_password.Goals as goal

pub returns : goal.returns
returns c =
    on_ok_weaker c.end.result
    (λ ended. ends-after c.args.label.now c.args.text.now c.begin.new.text c.put_password.new.text c.end.new.text (captured c.args.label.now.form c.args.origin.now (password_record c.args.version c.args.ap c.args.rest)) ended c.in_ok-begin.ensures (rw c.form.ensures at c.in_ok-put_password.ensures))
    c.end.ensures
