use Rattle.std.proofs.Common.{refl}
use Rattle.krb_convert.proofs.EncodedLines.{ends-taken}
use Rattle.krb_convert.proofs.json_reader.JsonReaderReadLines.end_line.Goals as goal

pub returns-clause-ended : goal.returns-clause-ended
returns-clause-ended c = ends-taken c.args.self.now c.take_line.new.self _ c.in_ok-is_read.is_read c.requires.open.0 c.in_ok-is_read.ensures.taken refl refl refl refl refl c.clear.ensures.items
