use Rattle.std.proofs.Common.{◌∙◌, ap, append-nil, sym}
use Rattle.krb_convert.specs.inner.EncodedLines.{json_reading}
use Rattle.krb_convert.proofs.EncodedLines.{nothing_after}
use Rattle.krb_run.proofs.LineReaders.{finishes}
use Rattle.krb_convert.proofs.json_reader.JsonReaderListStream.finish.Goals as goal

pub returns-clause-finished : goal.returns-clause-finished
returns-clause-finished c =
    let between = c.end_lines.new.lines in
    finishes json_reading c.args.self.now between c.take_end.new.self c.take_end.result c.in_ok-end_lines.ensures.ended (nothing_after between) (ap (λ t. t.items) c.take_end.ensures.text ∙ sym (append-nil between.text.items)) c.take_end.ensures.end
