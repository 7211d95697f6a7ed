use Rattle.std.proofs.lemmas.Result.{on_ok_weaker}
use Rattle.krb_record.proofs.Labels.{ends-after}
use Rattle.std.specs.Option.{option_copied}
use Rattle.krb_record.specs.Captures.{captured}
use Rattle.std.specs.Prelude.{◌++◌}
use Rattle.krb_record.specs.Refusals.{extent_in, path_in, refusal_record}
use Rattle.krb_capture.proofs.labelled.put_refusal.Goals as goal

pub returns : goal.returns
returns c =
    on_ok_weaker c.end.result
    (λ ended. ends-after c.args.label.now c.args.text.now c.begin.new.text c.put_captured_refusal.new.text c.end.new.text (captured c.args.label.now.form c.args.origin.now (refusal_record c.args.refusal (path_in c.args.label.now.form (option_copied c.args.path) ++ extent_in c.args.label.now.form c.args.extent))) ended c.in_ok-begin.ensures (rw c.form.ensures at c.in_ok-put_captured_refusal.ensures))
    c.end.ensures
