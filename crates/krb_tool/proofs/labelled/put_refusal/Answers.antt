use Rattle.std.proofs.lemmas.Result.{on_ok_weaker}
use Rattle.krb_record.proofs.Labels.{ends-after}
use Rattle.std.specs.Option.{option_copied}
use Rattle.krb_record.specs.Streams.{refused_record}
use Rattle.krb_tool.proofs.labelled.put_refusal.Goals as goal

pub returns : goal.returns
returns c =
    on_ok_weaker c.end.result
    (λ ended. ends-after c.args.label.now c.args.text.now c.begin.new.text c.put_stream_refusal.new.text c.end.new.text (refused_record c.args.label.now.form c.args.messages c.args.refusal.place c.args.refusal.why (option_copied c.args.path) c.args.extent) ended c.in_ok-begin.ensures (rw c.form.ensures at c.in_ok-put_stream_refusal.ensures))
    c.end.ensures
