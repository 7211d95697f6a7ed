use Rattle.std.proofs.Common.{string_bytes}
use Rattle.std.specs.Option.{option_map}
use Rattle.krb_run.proofs.FilePaths.{refusal_shown}
use Rattle.krb_run.proofs.record_lines.put_fault.Goals as goal

pub returns-in_ok-put_refusal-in-Refused-clause-refused : goal.returns-in_ok-put_refusal-in-Refused-clause-refused
returns-in_ok-put_refusal-in-Refused-clause-refused c =
    rw c.in-Refused.is
    (c.refused_in.ensures, refusal_shown c.args.item c.args.label.now c.in-Refused.refusal (option_map string_bytes c.in_ok-path-in-Refused.path) c.args.text.now c.put_refusal.new.text (rw c.form.ensures at c.in_ok-path-in-Refused.ensures.path) c.in_ok-put_refusal-in-Refused.ensures.line)
