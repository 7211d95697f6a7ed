use Rattle.std.proofs.Common.{refl}
use Rattle.krb_tool.specs.inner.MessageLines.{message_lines}
use Rattle.krb_tool.specs.declared.lines_run.LineLister.{LineLister}
use Rattle.krb_run.proofs.LineReaders.{finishes}
use Rattle.krb_tool.proofs.lines_run.LineListerListStream.finish.Goals as goal

pub returns-clause-finished : goal.returns-clause-finished
returns-clause-finished c =
    let between = c.end_lines.new.lines in
    let new : LineLister = record between { text = c.put_counted_end.new.text } in
    finishes message_lines c.args.self.now between new _ c.in_ok-end_lines.ensures.ended refl c.in_ok-put_counted_end.ensures c.counted_end.ensures
