use Rattle.std.proofs.Common.{ap, ◌∙◌}
use Rattle.std.specs.Prelude.{◌==◌, not}
use Rattle.krb_convert.proofs.EncodedLines.{has-line, not_at_fault}
use Rattle.krb_convert.proofs.json_reader.JsonReaderReadLines.has_line.Goals as goal

pub returns-then-is_none : goal.returns-then-is_none
returns-then-is_none c = has-line c.args.self.now c.is_empty.result (not_at_fault c.args.self.now.fault (c.is_none.ensures ∙ ap not c.if-is_none.true)) (c.is_empty.ensures ∙ ap (λ n. n == 0) c.args.self.now.line.ok.0)
