use Rattle.std.proofs.lemmas.Result.{IfOk-weaker}
use Rattle.krb_convert.specs.inner.EncodedLines.{json_reading}
use Rattle.krb_run.proofs.LineReaders.{feeds}
use Rattle.krb_convert.proofs.json_reader.JsonReaderListStream.feed.Goals as goal

pub returns-clause-fed : goal.returns-clause-fed
returns-clause-fed c = IfOk-weaker c.feed_lines.result _ _ (λ goes_on t. feeds json_reading c.args.self.now c.feed_lines.new.lines c.args.piece.now goes_on c.requires.short t) c.feed_lines.ensures.taken
