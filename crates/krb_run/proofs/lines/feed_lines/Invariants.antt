use Rattle.std.proofs.Common.{length}
use Rattle.krb_run.specs.LineReaders.{reader_kind}
use Rattle.krb_run.specs.Pieces.{IsFed}
use Rattle.krb_run.proofs.lines.feed_lines.Given as goal

abbrev pub invariant-lines : goal.invariant-lines
invariant-lines g l = IsFed (reader_kind g.L.ReadLines.kind) l.initial.lines l.piece l.rest l.lines

abbrev pub decreases-lines : goal.decreases-lines
decreases-lines g l = length l.rest
