use Rattle.krb_run.specs.Records.{RecordListing, WritesSome, after_line}
use Rattle.krb_run.proofs.Records.{Listed}
use Rattle.krb_run.proofs.record_lines.list_records.Given as goal

-- what was written, what is to be written, and what is left are the listing; what is written grew
abbrev pub invariant-records : goal.invariant-records
invariant-records g l = ((source : g.L.RecordLines.Source) (left : RecordListing) → g.L.RecordLines.IsLeft l.fn.lines 0 source left → Listed (g.L.RecordLines.IsLeft l.lines l.count source) (after_line l.fn.text left) (g.W.Write.contents l.fn.writer) (g.W.Write.contents l.writer) l.text) × WritesSome (g.W.Write.contents l.fn.writer) (g.W.Write.contents l.writer)
