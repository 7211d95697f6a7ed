use Rattle.std.proofs.Common.{ap, length, ◌∙◌}
use Rattle.krb_file.specs.FieldReaders.{Cursor}
use Rattle.krb_file.proofs.Taken.{empty-read}
use Rattle.krb_file.proofs.stream_reader.StreamReaderFieldReader.is_empty.Goals as goal

pub returns-clause-read : goal.returns-clause-read
returns-clause-read g c = empty-read c.args.self.now c.read_ahead.new.self c.count.result c.in_ok-read_ahead.ensures.same c.in_ok-read_ahead.ensures.end (c.count.ensures.count ∙ ap (λ (h : Cursor). length h.ahead) c.self.view_is)
