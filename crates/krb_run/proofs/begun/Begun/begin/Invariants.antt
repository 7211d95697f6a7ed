use Rattle.std.proofs.Common.{◌≡◌, ◌-◌, vec_len}
use Rattle.std.specs.Io.KnownBytes.{Consumes}
use Rattle.krb_run.specs.Begun.{octets_of}
use Rattle.krb_run.proofs.begun.Begun.begin.Given as goal

-- what was read so far is in the piece
abbrev pub invariant-reads : goal.invariant-reads
invariant-reads g l = (l.piece.given ≡ 0) × (vec_len l.piece.room ≡ 65536) × Consumes (g.R.Read.remaining l.initial.reader) (g.R.Read.remaining l.reader) (octets_of l.piece)

abbrev pub decreases-reads : goal.decreases-reads
decreases-reads g l = 16 - l.piece.filled
