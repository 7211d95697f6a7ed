use Rattle.std.proofs.lemmas.Result.{on_ok_weaker}
use Rattle.krb_record.proofs.Labels.{ends-after}
use Rattle.krb_record.specs.Captures.{captured}
use Rattle.std.specs.Prelude.{[], codes}
use Rattle.krb_record.specs.Values.{printed}
use Rattle.krb_capture.proofs.labelled.put_joined.Goals as goal

pub returns : goal.returns
returns c =
    on_ok_weaker c.end.result
    (λ ended. ends-after c.args.label.now c.args.text.now c.begin.new.text c.put_joined.new.text c.end.new.text (captured c.args.label.now.form c.args.origin.now (printed (codes "joined") [])) ended c.in_ok-begin.ensures (rw c.form.ensures at c.in_ok-put_joined.ensures))
    c.end.ensures
