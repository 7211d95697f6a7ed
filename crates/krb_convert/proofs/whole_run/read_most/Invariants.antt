use Rattle.std.proofs.Common.{◌≡◌, ◌-◌, ◌<◌, ◌≤◌, length, vec_len}
use Rattle.std.specs.Io.KnownBytes.{Consumes}
use Rattle.krb_run.specs.declared.transfer.ReaderState.TheVariants as reader
use Rattle.krb_convert.proofs.whole_run.read_most.Given as goal

-- what came so far is in the vector
abbrev pub invariant-pieces : goal.invariant-pieces
invariant-pieces g l = record {
  room : 0 < vec_len l.buffer;
  opens : l.counted.state ≡ reader.Open;
  same_reader : l.counted.reader.ghost_name ≡ l.initial.counted.reader.ghost_name;
  taken : Consumes (g.R.Read.remaining l.initial.counted.reader.now) (g.R.Read.remaining l.counted.reader.now) l.octets.items;
  few : length l.octets.items ≤ l.most;
}

abbrev pub decreases-pieces : goal.decreases-pieces
decreases-pieces g l = l.most - length l.octets.items
