use Rattle.std.proofs.Common.{◌++◌, ap₂, ◌∙◌, string_bytes}
use Rattle.std.specs.Option.{option_map}
use Rattle.krb_record.proofs.Labels.{ends-after}
use Rattle.krb_record.specs.Refusals.{file_refused_line, file_refused_record}
use Rattle.krb_run.specs.Extents.{extent_of}
use Rattle.krb_run.proofs.record_lines.put_refusal.Goals as goal

pub returns-clause-line : goal.returns-clause-line
returns-clause-line c =
    let label = c.args.label.now in
    let refusal = c.args.refusal in
    let put = rw c.form.ensures at c.in_ok-put_file_refusal.ensures in
    let shown = ap₂ (λ path extent. c.begin.new.text ++ file_refused_line label.form refusal.place refusal.why path extent) c.as_deref.ensures.value c.extent_of-extent.ensures in
    ends-after label c.args.text.now c.begin.new.text c.put_file_refusal.new.text c.end.new.text (file_refused_record label.form refusal.place refusal.why (option_map string_bytes c.args.path.now) (extent_of refusal)) c.in_ok-end.ensures c.in_ok-begin.ensures (put ∙ shown)
