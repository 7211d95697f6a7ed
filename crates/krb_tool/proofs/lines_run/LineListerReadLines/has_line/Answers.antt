use Rattle.std.proofs.Common.{ap, ◌∙◌}
use Rattle.std.specs.Prelude.{◌==◌}
use Rattle.krb_tool.proofs.MessageLines.{has-line}
use Rattle.krb_tool.proofs.lines_run.LineListerReadLines.has_line.Goals as goal

pub returns : goal.returns
returns c = has-line c.args.self.now c.is_empty.result (c.is_empty.ensures ∙ ap (λ n. n == 0) c.args.self.now.line.ok.0)
