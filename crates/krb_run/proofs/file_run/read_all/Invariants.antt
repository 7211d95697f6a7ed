use Rattle.std.proofs.Common.{◌≡◌, ◌-◌, ◌^◌, vec_len}
use Rattle.krb_run.specs.declared.transfer.ReaderState.TheVariants as reader
use Rattle.krb_run.proofs.Files.{HasRead}
use Rattle.krb_run.proofs.file_run.read_all.Given as goal

-- what came so far is in the vector
abbrev pub invariant-pieces : goal.invariant-pieces
invariant-pieces g l = (vec_len l.buffer ≡ 65536) × (l.counted.state ≡ reader.Open) × (l.counted.reader.ghost_name ≡ l.initial.counted.reader.ghost_name) × HasRead (g.R.Read.remaining l.initial.counted.reader.now) (g.R.Read.remaining l.counted.reader.now) l.most l.file.items

abbrev pub decreases-pieces : goal.decreases-pieces
decreases-pieces g l = 2 ^ 40 - l.counted.made
