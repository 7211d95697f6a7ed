use Rattle.std.proofs.lemmas.Result.{on_ok_weaker}
use Rattle.krb_record.proofs.Labels.{ends-after}
use Rattle.krb_list.specs.Ccaches.{credential_record}
use Rattle.krb_file_run.proofs.labelled.put_credential.Goals as goal

pub returns : goal.returns
returns c =
    on_ok_weaker c.end.result
    (λ ended. ends-after c.args.label.now c.args.text.now c.begin.new.text c.put_credential.new.text c.end.new.text (credential_record c.args.label.now.form c.args.now c.args.credential.now) ended c.in_ok-begin.ensures (rw c.form.ensures at c.in_ok-put_credential.ensures))
    c.end.ensures
