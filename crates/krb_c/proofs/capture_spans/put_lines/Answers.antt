use Rattle.krb_c.proofs.Within.{more-within}
use Rattle.krb_c.proofs.capture_spans.put_lines.Goals as goal

pub lines-preserved : goal.lines-preserved
lines-preserved c = more-within c.args.all c.args.spans.now c.lines.spans c.put_within.new.spans c.lines.invariant c.in_ok-put_within.ensures
