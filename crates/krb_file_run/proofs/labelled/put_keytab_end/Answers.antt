use Rattle.std.proofs.lemmas.Result.{on_ok_weaker}
use Rattle.krb_record.proofs.Labels.{ends-after}
use Rattle.krb_list.specs.Keytabs.{keytab_end}
use Rattle.krb_file_run.proofs.labelled.put_keytab_end.Goals as goal

pub returns : goal.returns
returns c =
    on_ok_weaker c.end.result
    (λ ended. ends-after c.args.label.now c.args.text.now c.begin.new.text c.put_keytab_end.new.text c.end.new.text (keytab_end c.args.records c.args.stop.now) ended c.in_ok-begin.ensures (rw c.form.ensures at c.in_ok-put_keytab_end.ensures))
    c.end.ensures
